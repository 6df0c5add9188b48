use mathlib.Core.Path.{sym, ap, ◌∙◌}
use Rattle.signs.specs.Answers.{whole_number}
use Rattle.sign_numbers.proofs.Numbers.{number_read}
use Rattle.sign_numbers.proofs.number_of.Goals as goal

pub returns-in-Some : goal.returns-in-Some
returns-in-Some c = number_read c.in-Some.s c.as_i32.ensures ∙ sym (ap whole_number c.in-Some.is)

pub returns-in-None : goal.returns-in-None
returns-in-None c = sym (ap whole_number c.in-None.is)
