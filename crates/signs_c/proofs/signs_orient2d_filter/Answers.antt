use mathlib.Core.Path.{sym, ap, ◌∙◌}
use Rattle.float_signs.specs.Filter.{filter_number}
use Rattle.sign_numbers.proofs.Numbers.{number_read}
use Rattle.signs_c.proofs.signs_orient2d_filter.Goals as goal

pub returns-in-Some : goal.returns-in-Some
returns-in-Some c = number_read c.in-Some.s c.as_i32.ensures ∙ ap filter_number (sym c.in-Some.is ∙ c.orient2d_filter.ensures.formula)

pub returns-in-None : goal.returns-in-None
returns-in-None c = ap filter_number (sym c.in-None.is ∙ c.orient2d_filter.ensures.formula)
