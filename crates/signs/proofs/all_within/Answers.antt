use Rattle.std.proofs.Common.{sym, ◌∙◌, true≢false}
use Rattle.signs.proofs.all_within.Goals as goal
use Rattle.signs.proofs.all_within.Goals.{then-within, else-within}

pub returns-then-within-2 : goal.returns-then-within-2
returns-then-within-2 c = elim c.if-within.branch [
  | then-within w ↦ rw (sym c.within.ensures ∙ w.if-within.true, sym w.within-then-within.ensures ∙ sym w.value-is ∙ c.if-within-2.true) c.within-then-within-2.ensures
  | else-within w ↦ absurd (true≢false (sym c.if-within-2.true ∙ w.value-is ∙ w.if-within.false))
]
