use mathlib.Core.Path.{◌≡◌}
use Rattle.texts.specs.Words.{word_end}
use Rattle.texts.proofs.word_end.Given as goal

abbrev pub invariant-loop-i : goal.invariant-loop-i
invariant-loop-i l = word_end l.text l.from ≡ word_end l.text l.i
