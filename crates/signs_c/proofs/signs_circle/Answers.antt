use mathlib.Core.Path.{ap, ◌∙◌}
use mathlib.Core.List.{List, [], ◌∷◌}
use lib.IntN.{ℤ}
use mir.Syntax.{w32}
use Rattle.algebra.proofs.Ring.{look}
use Rattle.algebra.proofs.Machine.{Fit, backs_fit}
use Rattle.plane.specs.Points.{at}
use Rattle.signs.specs.Answers.{limit, circle_answer, whole_number}
use Rattle.sign_numbers.proofs.Numbers.{whole_read}
use Rattle.signs_c.proofs.signs_circle.Goals as goal
use Rattle.signs_c.proofs.signs_circle.Goals.{Start}

abbrev ρ : Start → List ℤ
ρ c = c.args.ax ∷ c.args.ay ∷ c.args.bx ∷ c.args.by ∷ c.args.cx ∷ c.args.cy ∷ c.args.dx ∷ c.args.dy ∷ []

fit : (c : Start) → Fit w32 (ρ c)
fit c = (c.ranges.ax, (c.ranges.ay, (c.ranges.bx, (c.ranges.by, (c.ranges.cx, (c.ranges.cy, (c.ranges.dx, (c.ranges.dy, tt))))))))

pub returns : goal.returns
returns c = whole_read c.circle_sign.result c.number_of.ensures
    ∙ ap whole_number (c.circle_sign.ensures ∙ ap
    (λ (xs : List ℤ). circle_answer limit (at (look xs 0) (look xs 1)) (at (look xs 2) (look xs 3)) (at (look xs 4) (look xs 5))
    (at (look xs 6) (look xs 7))) (backs_fit w32 (ρ (goal.at.returns c).Start) (fit (goal.at.returns c).Start)))
