-- A coordinate within the limit and 8,192: the sum is not below 0. Assumes nothing.
use mathlib.Core.Bool.{Bool, true, false, ◌&&◌, false≢true}
use mathlib.Core.Path.{◌≡◌, refl, sym, ap, ◌∙◌}
use Prim.Native.Nat.{ℕ, suc, ◌-◌, ◌≤◌}
use native.Mathlib.Omega.{arith}
use borrow.Author.Tests.{le-ltb}
use lib.IntN.{ℤ, pos, negsuc, nat_abs, ◌+ℤ◌}

unfoldable pub up : ℤ → ℕ
up z = nat_abs (z +ℤ pos 8192)

pub up_is : (z : ℤ) → nat_abs z ≤ 8192 → z +ℤ pos 8192 ≡ pos (up z)
unfolding up
up_is (pos n) h = refl
up_is (negsuc n) h = let e : negsuc n +ℤ pos 8192 ≡ pos (8192 - suc n) = rw (le-ltb 8192 (suc n) h) in e ∙ ap (λ (y : ℤ). pos (nat_abs y)) (sym e)

up_below : (n : ℕ) → suc n ≤ 8192 → up (negsuc n) ≡ 8192 - suc n
unfolding up
up_below n h = rw (le-ltb 8192 (suc n) h)

pub up_small : (z : ℤ) → nat_abs z ≤ 8192 → up z ≤ 16384
unfolding up
up_small (pos n) h = omega arith
up_small (negsuc n) h = omega (arith, up_below n h)

pub both_first : (a b : Bool) → (a && b) ≡ true → a ≡ true
both_first true b h = refl
both_first false b h = absurd (false≢true h)
