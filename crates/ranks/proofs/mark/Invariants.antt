use Rattle.ranks.specs.Items.{Marked}
use Rattle.ranks.proofs.mark.Given as goal

abbrev pub invariant-loop-k : goal.invariant-loop-k
invariant-loop-k l = Marked l.initial.work l.lo l.n l.k l.work
