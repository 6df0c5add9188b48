-- What printing a number asks: the size of a negative one, and that a float equal to itself is no NaN. Assumes nothing.
use mathlib.Core.Path.{◌≡◌, refl, sym, ◌∙◌}
use mathlib.Core.Bool.{true, false, not, false≢true}
use Prim.Native.Nat.{ℕ, suc, ◌-◌, ◌^◌, ◌<◌, zero-le, suc-le-suc}
use native.Mathlib.Omega.{arith}
use lib.Dec.{T}
use lib.IntN.{ℤ, pos, negsuc, ◌-ℤ◌}
use lib.Signed.{lt_z, mag}
use lib.Ieee.{Float, nan, inf, fin, eq, is_nan}
use borrow.Author.Tests.{le-ltb}
use Rattle.floats.proofs.Exact.{sub_le}

-- -1 - z is one less than the size of z
pub record Less (z : ℤ) : Type 0 where
  pub size : ℕ
  pub is : negsuc 0 -ℤ z ≡ pos size
  pub small : size < 2 ^ 63

pub less : (z : ℤ) → lt_z z (pos 0) ≡ true → mag z < 2 ^ 63 → Less z
less (pos n) h f = absurd (false≢true (sym (le-ltb n 0 zero-le) ∙ h))
less (negsuc n) h f = record { size = suc n - 1; is = sub_le (suc n) 1 (suc-le-suc zero-le); small = omega arith }

-- what is not negative
pub record Plain (z : ℤ) : Type 0 where
  pub size : ℕ
  pub is : z ≡ pos size
  pub small : size < 2 ^ 63

pub plain : (z : ℤ) → lt_z z (pos 0) ≡ false → mag z < 2 ^ 63 → Plain z
plain (pos n) h f = record { size = n; is = refl; small = f }
plain (negsuc n) h f = absurd (false≢true (sym h))

pub no_nan : (v : Float) → eq v v ≡ true → T (not (is_nan v))
unfolding eq is_nan
no_nan nan h = absurd (false≢true h)
no_nan (inf s) h = tt
no_nan (fin s m e) h = tt
