-- The sign of a float and of an integer, from tests against zero. Assumes nothing.
use mathlib.Core.Path.{◌≡◌, refl, sym, ap, ◌∙◌}
use Prim.Native.Nat.{zero, suc, zero-le}
use native.Mathlib.Nat.{zero-lt-suc, lt_irrefl, le_of_eq, lt_of_lt_of_le}
use mathlib.Core.Bool.{Bool, true, false, true≢false, false≢true}
use lib.IntN.{ℤ, pos, negsuc}
use lib.Ieee.{Float, nan, inf, fin, up, down, lt}
use lib.Ieee.Fits.{up_pos, down_pos}
use borrow.Author.Tests.{lt-ltb, le-ltb}
use Rattle.std.proofs.Common.{Ordering}
use Rattle.std.specs.Ordering.{int_cmp}
use Rattle.std.specs.declared.cmp.Ordering.TheVariants.{Less, Equal, Greater}
use Rattle.floats.specs.Whole.{signed, Is}
use Rattle.floats.proofs.Zero.{O, above_zero, below_zero}
use Rattle.floats.proofs.Half.{no_size, no_number}
use Rattle.signs.specs.Signs.{sign_z, sign_f}
use Rattle.signs.specs.declared.Sign.{Sign}
use Rattle.signs.specs.declared.Sign.TheVariants.{Neg, Zero, Pos}

-- ---- the sign
pub sign_above : (v : Float) → lt O v ≡ true → Pos ≡ sign_f v
unfolding lt sign_f
sign_above nan h = absurd (false≢true h)
sign_above (inf true) h = absurd (false≢true h)
sign_above (inf false) h = refl
sign_above (fin true zero e) h = absurd (false≢true (sym (above_zero true zero e) ∙ h))
sign_above (fin true (suc m) e) h = absurd (false≢true (sym (above_zero true (suc m) e) ∙ h))
sign_above (fin false zero e) h = absurd (false≢true (sym (above_zero false zero e) ∙ h))
sign_above (fin false (suc m) e) h = refl

pub sign_below : (v : Float) → lt v O ≡ true → Neg ≡ sign_f v
unfolding lt sign_f
sign_below nan h = absurd (false≢true h)
sign_below (inf true) h = refl
sign_below (inf false) h = absurd (false≢true h)
sign_below (fin true zero e) h = absurd (false≢true (sym (below_zero true zero e) ∙ h))
sign_below (fin true (suc m) e) h = refl
sign_below (fin false zero e) h = absurd (false≢true (sym (below_zero false zero e) ∙ h))
sign_below (fin false (suc m) e) h = absurd (false≢true (sym (below_zero false (suc m) e) ∙ h))

pub sign_neither : (v : Float) → lt O v ≡ false → lt v O ≡ false → Zero ≡ sign_f v
unfolding lt sign_f
sign_neither nan h k = refl
sign_neither (inf true) h k = absurd (true≢false k)
sign_neither (inf false) h k = absurd (true≢false h)
sign_neither (fin true zero e) h k = refl
sign_neither (fin true (suc m) e) h k = absurd (true≢false (sym (lt-ltb 0 (suc m) (zero-lt-suc m)) ∙ sym (below_zero true (suc m) e) ∙ k))
sign_neither (fin false zero e) h k = refl
sign_neither (fin false (suc m) e) h k = absurd (true≢false (sym (lt-ltb 0 (suc m) (zero-lt-suc m)) ∙ sym (above_zero false (suc m) e) ∙ h))

-- ---- the sign of an integer
abbrev pub of_ordering : Ordering → Sign
of_ordering Less = Neg
of_ordering Equal = Zero
of_ordering Greater = Pos

pub sign_cmp : (z : ℤ) → of_ordering (int_cmp z (pos 0)) ≡ sign_z z
unfolding sign_z
sign_cmp (pos zero) = refl
sign_cmp (pos (suc n)) = rw (le-ltb (suc n) 0 zero-le, lt-ltb 0 (suc n) (zero-lt-suc n))
sign_cmp (negsuc n) = refl

-- ---- a float that is a whole number
pub sign_is : (x : Float) (z : ℤ) → Is x z → sign_f x ≡ sign_z z
unfolding sign_f sign_z
sign_is nan z p = absurd p
sign_is (inf s) z p = absurd p
sign_is (fin s zero e) z (a, pa, pz) = sym (ap sign_z (pz ∙ ap (signed s) (no_number 0 (up e) a (down e) (down_pos e) pa refl)) ∙ zeros s)
  where
    zeros : (s : Bool) → sign_z (signed s 0) ≡ sign_z (pos 0)
    zeros true = refl
    zeros false = refl
sign_is (fin true (suc m) e) z (zero, pa, pz) = absurd (lt_irrefl 0 (lt_of_lt_of_le (zero-lt-suc m) (le_of_eq (no_size (suc m) (up e) 0 (down e) (up_pos e) pa refl))))
sign_is (fin true (suc m) e) z (suc a, pa, pz) = sym (ap sign_z pz)
sign_is (fin false (suc m) e) z (zero, pa, pz) = absurd (lt_irrefl 0 (lt_of_lt_of_le (zero-lt-suc m) (le_of_eq (no_size (suc m) (up e) 0 (down e) (up_pos e) pa refl))))
sign_is (fin false (suc m) e) z (suc a, pa, pz) = sym (ap sign_z pz)
