use Rattle.std.proofs.Common.{sym, ap, ◌∙◌, Some}
use Rattle.signs.specs.Answers.{circle_answer}
use Rattle.signs.proofs.circle_sign.Goals as goal
use Rattle.signs.proofs.circle_sign.Goals.{else-all_within-via-then-all_within+else-within, else-all_within-via-else-all_within}

pub returns-then-within : goal.returns-then-within
unfolding circle_answer
returns-then-within c =
    rw (sym c.all_within.ensures ∙ c.if-all_within.true, sym c.within.ensures ∙ c.if-within.true) (ap Some c.circle_work.ensures)

pub returns-else-all_within : goal.returns-else-all_within
unfolding circle_answer
returns-else-all_within c = elim c.else-all_within.branch [
  | else-all_within-via-then-all_within+else-within w ↦ rw (sym c.all_within.ensures ∙ w.if-all_within.true, sym w.within.ensures ∙ w.if-within.false)
  | else-all_within-via-else-all_within w ↦ rw (sym c.all_within.ensures ∙ w.if-all_within.false)
]
