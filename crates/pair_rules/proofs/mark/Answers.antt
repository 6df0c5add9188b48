use Prim.Native.Nat.{◌+◌, ◌*◌, ◌<◌}
use native.Mathlib.Omega.{arith}
use lib.ListN.{length}
use Rattle.tables.specs.Rules.{edge_is}
use Rattle.edges.proofs.Last.{found_any}
use Rattle.pair_rules.proofs.Paint.{spot_low, paints, paints_none}
use Rattle.pair_rules.proofs.mark.Goals as goal
use Rattle.pair_rules.proofs.mark.Goals.{In-Some}

spot : (c : In-Some) → 7 * c.args.n + c.in-Some.h < length c.args.work.now
spot c = spot_low c.args.n c.args.list.now c.args.work.now c.requires.0 c.requires.1 c.requires.2 c.args.u c.args.v c.in-Some.h c.in-Some.ensures

pub overflow_add-work : goal.overflow_add-work
overflow_add-work c = record { fits = omega (arith, spot (goal.at.overflow_add-work c).In-Some) }

pub offset_bounds-work-n : goal.offset_bounds-work-n
offset_bounds-work-n c = record { fits = omega (arith, spot (goal.at.offset_bounds-work-n c).In-Some) }

pub bounds-work-n : goal.bounds-work-n
bounds-work-n c = spot (goal.at.bounds-work-n c).In-Some

pub returns-in-Some : goal.returns-in-Some
returns-in-Some c = record {
  found = found_any (λ h. edge_is c.args.list.now h c.args.u c.args.v) (length c.args.list.now) c.in-Some.ensures;
  marks = paints c.args.n c.args.list.now c.args.work.now c.requires.0 c.requires.1 c.requires.2 c.args.u c.args.v c.in-Some.h c.in-Some.ensures;
}

pub returns-in-None : goal.returns-in-None
returns-in-None c = record {
  found = found_any (λ h. edge_is c.args.list.now h c.args.u c.args.v) (length c.args.list.now) c.in-None.ensures;
  marks = paints_none c.args.n c.args.list.now c.args.work.now c.requires.0 c.requires.1 c.requires.2 c.args.u c.args.v c.in-None.ensures;
}
