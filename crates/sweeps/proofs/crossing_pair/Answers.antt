use native.Mathlib.Omega.{arith}
use Rattle.sweeps.proofs.Least.{at_least, at_none}
use Rattle.sweeps.proofs.crossing_pair.Goals as goal

pub sweep-least-requires : goal.sweep-least-requires
sweep-least-requires c = let e = c.order_pairs.ensures.rest.size in
    record { figure = c.requires.figure; ends = c.requires.ends; row = c.order_pairs.ensures.row; pairs_in_bounds = omega arith }

-- ---- the sweep's answer, of the row that was made
pub returns-then-least-m : goal.returns-then-least-m
returns-then-least-m c = let r = c.sweep-least.ensures in
    record { value = at_least c.args.points.now c.args.pairs.now c.requires.figure c.requires.ends _ _ c.order_pairs.ensures.row _ r.0 r.1 c.if-least-m.true; rest = c.order_pairs.ensures.rest }

pub returns-else-least-m : goal.returns-else-least-m
returns-else-least-m c = let r = c.sweep-least.ensures in
    record { value = at_none c.args.points.now c.args.pairs.now c.requires.figure c.requires.ends _ _ c.order_pairs.ensures.row _ r.0 r.1 c.if-least-m.false; rest = c.order_pairs.ensures.rest }
