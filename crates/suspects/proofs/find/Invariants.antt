use Rattle.suspects.specs.Stack.{NoneFrom}
use Rattle.suspects.proofs.find.Given as goal

abbrev pub invariant-loop-k : goal.invariant-loop-k
invariant-loop-k l = NoneFrom l.work l.m l.s l.k
