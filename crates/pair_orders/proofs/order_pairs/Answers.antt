use mathlib.Core.Path.{◌∙◌}
use native.Mathlib.Omega.{arith}
use Rattle.pair_orders.proofs.Rows.{sorted_row, left_alone}
use Rattle.pair_orders.proofs.order_pairs.Goals as goal

pub fill-requires : goal.fill-requires
fill-requires c = let few = c.requires.figure.few in
    record { ends = c.requires.ends; ordered = c.requires.ordered.0; points_bound = (omega arith, omega arith, omega arith) }

pub returns : goal.returns
returns c = record {
  row = sorted_row c.args.points.now c.args.pairs.now _ _ c.args.work.now _ _ c.fill.ensures c.sort.ensures
      (λ i. omega (arith, c.slice_known-2-1.given i)) (λ i. omega (arith, c.type_inv.work i));
  rest = left_alone _ c.fill.ensures c.sort.ensures (omega arith) (omega arith) (c.sort.auto.work ∙ c.fill.auto.work);
}
