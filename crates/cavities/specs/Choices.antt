-- The choice of the apex over a base, document 01, step 4: the scan along the chain, and what it comes to. Definitions only.
use Rattle.std.specs.Prelude.{Bool, true, cond, ℕ, zero, suc, ◌+◌, ◌≤◌, ℤ, ◌+ℤ◌, ◌-ℤ◌, ◌*ℤ◌, neg_ℤ}
use Rattle.algebra.specs.Order.{NonNeg}
use Rattle.algebra.specs.Tests.{posb}
use Rattle.plane.specs.Determinants.{orient, incircle}
use Rattle.plane.specs.Points.{Pt}

-- (a - z) · (b - z)
unfoldable pub dot : Pt ℤ → Pt ℤ → Pt ℤ → ℤ
dot a b z = (a.x -ℤ z.x) *ℤ (b.x -ℤ z.x) +ℤ (a.y -ℤ z.y) *ℤ (b.y -ℤ z.y)

-- d is not strictly in the circle of a, b and c
abbrev pub Clear : Pt ℤ → Pt ℤ → Pt ℤ → Pt ℤ → Type 0
Clear a b c d = NonNeg (neg_ℤ (incircle a b c d))

-- v replaces the choice c: c is collinear with the base a b, or v is strictly inside the circle through a, b and c
unfoldable pub replaces : Pt ℤ → Pt ℤ → Pt ℤ → Pt ℤ → Bool
replaces a b c v =
    cond (posb (orient a b c)) (posb (incircle a b c v)) (cond (posb (neg_ℤ (orient a b c))) (posb (incircle a c b v)) true)

-- the choice from lo .. lo + n
unfoldable pub choice : Pt ℤ → Pt ℤ → (ℕ → Pt ℤ) → ℕ → ℕ → ℕ
choice a b z lo zero = lo
choice a b z lo (suc n) = cond (replaces a b (z (choice a b z lo n)) (z (lo + suc n))) (lo + suc n) (choice a b z lo n)

-- the choice lies in the chain, and its circle is clear of the chain
pub record Chosen (a b : Pt ℤ) (z : ℕ → Pt ℤ) (lo n r : ℕ) : Type 0 where
  pub low : lo ≤ r
  pub high : r ≤ lo + n
  pub clear : (x : ℕ) → lo ≤ x → x ≤ lo + n → Clear a b (z r) (z x)
