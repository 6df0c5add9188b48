use Rattle.std.proofs.Common.{sym, ap, ◌∙◌, Some, to_z-of_z}
use mir.Syntax.{w64}
use Rattle.signs.specs.Signs.{sign_z}
use Rattle.signs.specs.Answers.{orient_answer}
use Rattle.signs.proofs.orient_sign.Goals as goal

pub returns-then-all_within : goal.returns-then-all_within
unfolding orient_answer
returns-then-all_within c =
    rw (sym c.all_within.ensures ∙ c.if-all_within.true)
    (ap Some (c.of_i64.ensures ∙ ap sign_z (to_z-of_z {w = w64} (record { sfits = c.orient_det.type_inv }) ∙ c.orient_det.ensures)))

pub returns-else-all_within : goal.returns-else-all_within
unfolding orient_answer
returns-else-all_within c = rw (sym c.all_within.ensures ∙ c.if-all_within.false)
