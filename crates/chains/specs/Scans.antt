-- The tests of step 4 on numbered points: which corner of the chain is the apex over a base, and on which side of a line a point lies.
-- Definitions only.
use Rattle.std.specs.Prelude.{Bool, ℕ, suc, ◌-◌, ℤ, neg_ℤ}
use Rattle.algebra.specs.Tests.{posb}
use Rattle.plane.specs.Determinants.{orient}
use Rattle.plane.specs.Points.{Pt}
use Rattle.cavities.specs.Choices.{choice}

-- c lies strictly left of the line from a to b
unfoldable pub left_of : (ℕ → Pt ℤ) → ℕ → ℕ → ℕ → Bool
left_of P a b c = posb (orient (P a) (P b) (P c))

-- and strictly right of it
unfoldable pub right_of : (ℕ → Pt ℤ) → ℕ → ℕ → ℕ → Bool
right_of P a b c = posb (neg_ℤ (orient (P a) (P b) (P c)))

-- the place of the apex over the corners at the places i and j of the chain c: start with the first corner between them; a later one replaces
-- the choice if the choice is collinear with the base or the later one is inside the circle through base and choice
unfoldable pub apex : (ℕ → Pt ℤ) → (ℕ → ℕ) → ℕ → ℕ → ℕ
apex P c i j = choice (P (c i)) (P (c j)) (λ k. P (c k)) (suc i) (j - suc (suc i))
