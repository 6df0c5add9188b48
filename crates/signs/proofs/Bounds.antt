-- The size of the determinants within the limit: at most 8 · 8,192² for an orientation and 192 · 8,192⁴ for a circle, which is below
-- 2 ^ 60. Assumes nothing.
use mathlib.Core.List.{[], ◌∷◌}
use Prim.Native.Nat.{◌*◌, ◌^◌, ◌≤◌, ◌<◌}
use native.Mathlib.Nat.{lt_of_le_of_lt}
use lib.Dec.{lit<}
use lib.IntN.{ℤ, nat_abs}
use Rattle.algebra.specs.Size.{Small}
use Rattle.algebra.proofs.Size.{size_le, small_within, all}
use Rattle.plane.specs.Points.{Pt}
use Rattle.plane.specs.Determinants.{orient, incircle}
use Rattle.plane.proofs.Polynomials.{orient_e, incircle_e, on3, on4, flat}
use Rattle.signs.specs.Answers.{limit}

pub orient_bound : (a b c : Pt ℤ) → Small limit (flat (a ∷ b ∷ c ∷ [])) → nat_abs (orient a b c) ≤ 8 * limit ^ 2
unfolding orient
orient_bound a b c h = size_le (on3 orient_e) (flat (a ∷ b ∷ c ∷ [])) (all limit (flat (a ∷ b ∷ c ∷ []))) (small_within limit (flat (a ∷ b ∷ c ∷ [])) h)

pub circle_bound : (a b c d : Pt ℤ) → Small limit (flat (a ∷ b ∷ c ∷ d ∷ [])) → nat_abs (incircle a b c d) ≤ 192 * limit ^ 4
unfolding incircle
circle_bound a b c d h =
    size_le (on4 incircle_e) (flat (a ∷ b ∷ c ∷ d ∷ [])) (all limit (flat (a ∷ b ∷ c ∷ d ∷ []))) (small_within limit (flat (a ∷ b ∷ c ∷ d ∷ [])) h)

pub circle_below : (a b c d : Pt ℤ) → Small limit (flat (a ∷ b ∷ c ∷ d ∷ [])) → nat_abs (incircle a b c d) < 2 ^ 60
circle_below a b c d h = lt_of_le_of_lt (circle_bound a b c d h) (lit< tt)
