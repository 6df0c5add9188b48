use mathlib.Core.Path.{◌≡◌, sym, ap, ◌∙◌}
use lib.IntN.{ℤ, pos}
use mir.Facts.{to_z-of_z}
use Rattle.std.specs.Ordering.{int_cmp}
use Rattle.signs.specs.Signs.{sign_z}
use Rattle.signs.proofs.Signed.{of_ordering, sign_cmp}
use Rattle.signs.proofs.Sign.of_i64.Goals as goal
use Rattle.signs.proofs.Sign.of_i64.Goals.{After-cmp}

told : (c : After-cmp) → of_ordering c.cmp.result ≡ sign_z c.args.n
told c = ap of_ordering (c.cmp.ensures ∙ ap (λ (z : ℤ). int_cmp z (pos 0)) (to_z-of_z c.ranges.n)) ∙ sign_cmp c.args.n

pub returns-in-Less : goal.returns-in-Less
returns-in-Less c = ap of_ordering (sym c.in-Less.is) ∙ told (goal.at.returns-in-Less c).After-cmp

pub returns-in-Equal : goal.returns-in-Equal
returns-in-Equal c = ap of_ordering (sym c.in-Equal.is) ∙ told (goal.at.returns-in-Equal c).After-cmp

pub returns-in-Greater : goal.returns-in-Greater
returns-in-Greater c = ap of_ordering (sym c.in-Greater.is) ∙ told (goal.at.returns-in-Greater c).After-cmp
