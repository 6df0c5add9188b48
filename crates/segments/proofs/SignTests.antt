-- A test of a number's sign is the test of the number. Assumes nothing.
use mathlib.Core.Path.{◌≡◌, refl, sym, ap, ◌∙◌}
use mathlib.Core.Bool.{Bool}
use Prim.Native.Nat.{zero, suc}
use native.Mathlib.Nat.{zero-lt-suc}
use denote.Enum.Bare.{sameb}
use lib.Dec.{eqb-suc-zero}
use lib.IntN.{ℤ, pos, negsuc, neg_ℤ}
use borrow.Author.Tests.{lt-ltb}
use Rattle.algebra.specs.Tests.{posb, eq_z}
use Rattle.signs.specs.Signs.{sign_z}
use Rattle.signs.specs.contracts.Sign.{the_type}
use Rattle.signs.specs.declared.Sign.{Sign}
use Rattle.signs.specs.declared.Sign.TheVariants.{Neg, Zero, Pos}
use Rattle.segments.specs.Tests.{is_pos, is_neg, is_zero}

pos_test : (z : ℤ) → is_pos (sign_z z) ≡ posb z
unfolding sign_z
pos_test (pos zero) = refl
pos_test (pos (suc n)) = sym (lt-ltb 0 (suc n) (zero-lt-suc n))
pos_test (negsuc n) = refl

neg_test : (z : ℤ) → is_neg (sign_z z) ≡ posb (neg_ℤ z)
unfolding sign_z
neg_test (pos zero) = refl
neg_test (pos (suc n)) = refl
neg_test (negsuc n) = sym (lt-ltb 0 (suc n) (zero-lt-suc n))

zero_test : (z : ℤ) → is_zero (sign_z z) ≡ eq_z z (pos 0)
unfolding sign_z
zero_test (pos zero) = refl
zero_test (pos (suc n)) = sym (eqb-suc-zero n)
zero_test (negsuc n) = refl

-- A call told r of the sign that another call told of z.
module _ (z : ℤ) {s : Sign} (e : s ≡ sign_z z) {r : Bool} where
  pub pos_told : r ≡ is_pos s → r ≡ posb z
  pos_told h = h ∙ ap is_pos e ∙ pos_test z

  pub neg_told : r ≡ is_neg s → r ≡ posb (neg_ℤ z)
  neg_told h = h ∙ ap is_neg e ∙ neg_test z

  pub zero_told : r ≡ is_zero s → r ≡ eq_z z (pos 0)
  zero_told h = h ∙ ap is_zero e ∙ zero_test z

-- A comparison with a sign is the test of that sign.
pub same_pos : (s : Sign) → sameb the_type s Pos ≡ is_pos s
same_pos Neg = refl
same_pos Zero = refl
same_pos Pos = refl

pub same_neg : (s : Sign) → sameb the_type s Neg ≡ is_neg s
same_neg Neg = refl
same_neg Zero = refl
same_neg Pos = refl

pub same_zero : (s : Sign) → sameb the_type s Zero ≡ is_zero s
same_zero Neg = refl
same_zero Zero = refl
same_zero Pos = refl
