use Rattle.texts.proofs.Words.{Read}
use Rattle.texts.proofs.read_digits.Given as goal

abbrev pub invariant-loop-i : goal.invariant-loop-i
invariant-loop-i l = Read l.text l.from l.i l.v
