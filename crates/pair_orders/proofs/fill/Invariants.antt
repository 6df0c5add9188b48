use Rattle.pair_orders.specs.Rows.{Filled}
use Rattle.pair_orders.proofs.fill.Given as goal

abbrev pub invariant-loop-k : goal.invariant-loop-k
invariant-loop-k l = Filled l.points l.pairs l.at l.k l.initial.work l.work
