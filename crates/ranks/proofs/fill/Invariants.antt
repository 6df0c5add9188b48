use Rattle.ranks.specs.Items.{Filled}
use Rattle.ranks.proofs.fill.Given as goal

abbrev pub invariant-loop-i : goal.invariant-loop-i
invariant-loop-i l = Filled l.points l.lo l.i l.initial.work l.work
