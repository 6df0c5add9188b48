use mathlib.Core.Path.{ap, ◌∙◌}
use mathlib.Core.Bool.{not}
use Rattle.plane.specs.Points.{Pt}
use Rattle.std.proofs.Common.{ℤ}
use Rattle.signs.specs.Answers.{limit, within}
use Rattle.point_checks.proofs.is_far.Goals as goal

pub returns : goal.returns
returns c = ap not (c.within.ensures ∙ ap (λ (p : Pt ℤ). within limit p) c.point_at.ensures)
