-- The library's minimum and maximum are the ends of ranges, and these ends tell whether the ranges have a gap. Assumes nothing.
use mathlib.Core.Path.{◌≡◌, ap, ◌∙◌}
use mathlib.Core.List.{List}
use Prim.Native.Nat.{ℕ, ◌≤◌}
use lib.IntN.{ℤ, pos, nat_abs, ◌-ℤ◌, ◌*ℤ◌}
use lib.Signed.{lt_z}
use mir.Syntax.{w32}
use native.Mathlib.Omega.{arith}
use Rattle.std.specs.Int.{int_min, int_max}
use Rattle.std.proofs.lemmas.Int.{ints, clamps}
use Rattle.algebra.specs.Size.{Small}
use Rattle.algebra.proofs.Ring.{look}
use Rattle.algebra.proofs.Machine.{backs, backs_same}
use Rattle.algebra.proofs.Sum.{by_bool}
use Rattle.signs.specs.Answers.{limit}
use Rattle.crossings.specs.Boxes.{lower, upper, apart}
use Rattle.crossings.proofs.Passed.{look_small}

-- The ends are the same whichever of the two is compared with the other.
min_lower : (a b : ℤ) → int_min a b ≡ lower a b
min_lower a b = by_bool (lt_z a b) (λ e. rw e (omega (arith, ints, clamps))) (λ e. rw e (omega (arith, ints, clamps)))

max_upper : (a b : ℤ) → int_max a b ≡ upper a b
max_upper a b = by_bool (lt_z a b) (λ e. rw e (omega (arith, ints, clamps))) (λ e. rw e (omega (arith, ints, clamps)))

lower_small : (a b : ℤ) → nat_abs a ≤ limit → nat_abs b ≤ limit → nat_abs (lower a b) ≤ limit
lower_small a b h i = by_bool (lt_z a b) (λ e. rw e h) (λ e. rw e i)

upper_small : (a b : ℤ) → nat_abs a ≤ limit → nat_abs b ≤ limit → nat_abs (upper a b) ≤ limit
upper_small a b h i = by_bool (lt_z a b) (λ e. rw e i) (λ e. rw e h)

module _ (ρ : List ℤ) (h : Small limit ρ) (i j : ℕ) {r : ℤ} where
  pub lower_told : r ≡ int_min (look (backs w32 ρ) i) (look (backs w32 ρ) j) → r ≡ lower (look ρ i) (look ρ j)
  lower_told e = e ∙ ap (λ (xs : List ℤ). int_min (look xs i) (look xs j)) (backs_same w32 limit ρ h tt) ∙ min_lower (look ρ i) (look ρ j)

  pub upper_told : r ≡ int_max (look (backs w32 ρ) i) (look (backs w32 ρ) j) → r ≡ upper (look ρ i) (look ρ j)
  upper_told e = e ∙ ap (λ (xs : List ℤ). int_max (look xs i) (look xs j)) (backs_same w32 limit ρ h tt) ∙ max_upper (look ρ i) (look ρ j)

  pub lower_near : r ≡ lower (look ρ i) (look ρ j) → nat_abs r ≤ limit
  lower_near e = rw e (lower_small (look ρ i) (look ρ j) (look_small ρ h i) (look_small ρ h j))

  pub upper_near : r ≡ upper (look ρ i) (look ρ j) → nat_abs r ≤ limit
  upper_near e = rw e (upper_small (look ρ i) (look ρ j) (look_small ρ h i) (look_small ρ h j))

pub apart_told : (a b c d : ℤ) {p q r s : ℤ} → p ≡ lower c d → q ≡ upper a b → r ≡ lower a b → s ≡ upper c d → lt_z ((p -ℤ q) *ℤ (r -ℤ s)) (pos 0) ≡ apart a b c d
apart_told a b c d e f g h = rw (e, f, g, h)
