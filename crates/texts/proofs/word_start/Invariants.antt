use mathlib.Core.Path.{◌≡◌}
use Prim.Native.Nat.{◌≤◌, max}
use lib.ListN.{length}
use Rattle.texts.specs.Words.{word_start}
use Rattle.texts.proofs.word_start.Given as goal

abbrev pub invariant-loop-i : goal.invariant-loop-i
invariant-loop-i l = (word_start l.text l.from ≡ word_start l.text l.i) × (l.i ≤ max l.from (length l.text))
