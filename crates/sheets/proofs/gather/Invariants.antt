use Rattle.sheets.specs.Steps.{Gathered}
use Rattle.sheets.proofs.gather.Given as goal

abbrev pub invariant-loop-t : goal.invariant-loop-t
invariant-loop-t l = Gathered l.initial.work l.lo l.t l.work
