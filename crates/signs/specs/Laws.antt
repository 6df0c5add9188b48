-- The laws of the signs, stated once for every limit k of the coordinates, and so for every width that serves it. proofs/SignLaws.antt
-- proves them at each k. Definitions only.
use Rattle.std.specs.Prelude.{◌≡◌, ℕ, ℤ}
use Rattle.algebra.specs.Order.{Pos}
use Rattle.plane.specs.Points.{Pt}
use Rattle.plane.specs.Determinants.{orient}
use Rattle.signs.specs.Answers.{orient_answer, circle_answer, opposite}

pub record SignLaws (k : ℕ) : Type 0 where
  pub orient_cyclic : (a b c : Pt ℤ) → orient_answer k a b c ≡ orient_answer k b c a
  pub orient_antisymmetric : (a b c : Pt ℤ) → orient_answer k a c b ≡ opposite (orient_answer k a b c)
  pub orient_reversed : (a b c : Pt ℤ) → orient_answer k b a c ≡ opposite (orient_answer k a b c)
  pub circle_cyclic : (a b c d : Pt ℤ) → circle_answer k a b c d ≡ circle_answer k b c a d
  pub circle_antisymmetric : (a b c d : Pt ℤ) → circle_answer k a c b d ≡ opposite (circle_answer k a b c d)
  pub circle_reversed : (a b c d : Pt ℤ) → circle_answer k b a c d ≡ opposite (circle_answer k a b c d)
  -- the edge a b, asked from the side of c about d, and from the side of d about c
  pub circle_either_side : (a b c d : Pt ℤ) → Pos (orient a b c) → circle_answer k a b c d ≡ circle_answer k b a d c
