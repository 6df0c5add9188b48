use mathlib.Core.Path.{ap, ◌∙◌}
use Rattle.signs.specs.Signs.{number}
use Rattle.sign_numbers.proofs.Numbers.{number_read}
use Rattle.signs_c.proofs.signs_of_f64.Goals as goal

pub returns : goal.returns
returns c = number_read c.of_f64.result c.as_i32.ensures ∙ ap number c.of_f64.ensures
