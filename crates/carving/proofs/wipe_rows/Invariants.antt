use Rattle.carving.specs.Clearing.{WipedRows}
use Rattle.carving.proofs.wipe_rows.Given as goal

abbrev pub invariant-loop-s : goal.invariant-loop-s
invariant-loop-s l = WipedRows l.a l.s l.lo l.hi l.initial.work l.work
