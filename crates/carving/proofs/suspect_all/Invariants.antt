use Rattle.carving.proofs.Pushes.{Pushing}
use Rattle.carving.proofs.suspect_all.Given as goal

abbrev pub invariant-loop-m : goal.invariant-loop-m
invariant-loop-m l = Pushing l.n l.count l.m l.initial.work l.work
