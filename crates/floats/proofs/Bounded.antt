-- Sums, differences and products of floats that are whole numbers with a bound: exact where the result's bound is at most 2 ^ 53, a test
-- that computes. Assumes nothing.
use Prim.Native.Nat.{ℕ, ◌+◌, ◌*◌, ◌^◌, ◌≤◌}
use native.Mathlib.Nat.{le_trans, le_of_eq, add-le-add, mul-le-mul}
use lib.IntN.{ℤ, nat_abs, ◌+ℤ◌, ◌-ℤ◌, ◌*ℤ◌}
use lib.Dec.{T, leb, leb→le}
use lib.Ieee.{Float, binary64, add, sub, mul}
use Rattle.algebra.proofs.Size.{abs_mul, abs_add, abs_sub}
use Rattle.floats.specs.Whole.{Is}
use Rattle.floats.proofs.Exact.{mul_is, add_is, sub_is}

-- x is the whole number z, which is k at most in size
pub record In (x : Float) (z : ℤ) (k : ℕ) : Type 0 where
  pub is : Is x z
  pub within : nat_abs z ≤ k

module _ {x y : Float} {z w : ℤ} {k l : ℕ} (p : In x z k) (q : In y w l) where
  pub diff : T (leb (k + l) (2 ^ 53)) → In (sub binary64 x y) (z -ℤ w) (k + l)
  diff t =
      let b = add-le-add p.within q.within in
      record { is = sub_is x y z w p.is q.is (le_trans b (leb→le (k + l) (2 ^ 53) t)); within = le_trans (abs_sub z w) b }

  pub plus : T (leb (k + l) (2 ^ 53)) → In (add binary64 x y) (z +ℤ w) (k + l)
  plus t =
      let b = add-le-add p.within q.within in
      record { is = add_is x y z w p.is q.is (le_trans b (leb→le (k + l) (2 ^ 53) t)); within = le_trans (abs_add z w) b }

  pub times : T (leb (k * l) (2 ^ 53)) → In (mul binary64 x y) (z *ℤ w) (k * l)
  times t =
      let b = mul-le-mul p.within q.within in
      record { is = mul_is x y z w p.is q.is (le_trans b (leb→le (k * l) (2 ^ 53) t)); within = le_trans (le_of_eq (abs_mul z w)) b }
