use mathlib.Core.Path.{sym, ap, ◌∙◌}
use Prim.Native.Nat.{◌+◌, ◌*◌}
use native.Mathlib.Omega.{arith}
use Rattle.tables.specs.Data.{point}
use Rattle.nets.specs.Layout.{net_of}
use Rattle.turns.specs.Moves.{turn_number}
use Rattle.location.proofs.Walks.{here, ends, on, move_low, walk_none}
use Rattle.location.proofs.walk.Goals as goal

pub returns-in-Here : goal.returns-in-Here
returns-in-Here c = let x = c.args in
    let P = point x.points.now in
    here P (net_of x.work.now x.count) (P x.p) c.loop.t (4 * x.count + 16) c.loop.counter c.loop-test.true (ap turn_number (sym c.in-Here.is) ∙ c.loc_in_tri.ensures) ∙ c.loop.invariant.same

pub returns-in-NoWay : goal.returns-in-NoWay
returns-in-NoWay c = let x = c.args in
    let P = point x.points.now in
    ends P (net_of x.work.now x.count) (P x.p) c.loop.t (4 * x.count + 16) c.loop.counter c.loop-test.true (ap turn_number (sym c.in-NoWay.is) ∙ c.loc_in_tri.ensures) ∙ c.loop.invariant.same

pub loop-preserved : goal.loop-preserved
loop-preserved c = let x = c.args in
    let P = point x.points.now in
    let e = ap turn_number (sym c.in-To.is) ∙ c.loc_in_tri.ensures in
    let l = move_low P x.work.now x.count (P x.p) c.loop.t c.requires.in_range c.loop.invariant.low in
    record {
      low = omega (arith, e, l);
      same = on P (net_of x.work.now x.count) (P x.p) c.loop.t (4 * x.count + 16) c.loop.counter c.loop-test.true e ∙ c.loop.invariant.same;
    }

pub returns : goal.returns
returns c = let x = c.args in
    let P = point x.points.now in
    walk_none P (net_of x.work.now x.count) (P x.p) (4 * x.count + 16) c.loop.counter _ (omega arith) ∙ c.loop.invariant.same
