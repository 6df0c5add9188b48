-- A comparison of whole numbers is a test of their difference, and equality is what the bits tell. Assumes nothing.
use mathlib.Core.Path.{◌≡◌, refl, sym, ap, ap₂, ◌∙◌, subst}
use mathlib.Core.Bool.{Bool, true, false, not, true≢false}
use Prim.Native.Nat.{ℕ, zero, suc, ◌+◌, ◌-◌}
use native.Mathlib.Nat.{add-zero}
use native.Mathlib.Omega.{arith}
use lib.Dec.{T, leb, ltb, eqb, leb-suc-suc, leb-suc-zero}
use lib.IntN.{ℤ, pos, negsuc, sub_ℕ, ◌-ℤ◌}
use lib.Signed.{lt_z, le_z}
use mir.Syntax.{Width}
use mir.Val.{SFits, of_z, to_z}
use mir.Facts.{to_z-of_z}
use borrow.Author.Tests.{lt-ltb, le-ltb, lt-leb, le-leb, ltb-true, ltb-false, eqb-true, eqb-false}
use Rattle.std.proofs.Common.{int_eq}
use Rattle.std.proofs.lemmas.Bool.Decides.{Decides-int_eq}
use Rattle.algebra.specs.Tests.{posb, eq_z}
use Rattle.algebra.proofs.Machine.{back}
use Rattle.algebra.proofs.Sum.{by_bool}
use Rattle.plane.proofs.Sign.{eq_z_eq, eq_z_refl}

-- ---- a difference

sub_test : (a b : ℕ) → posb (sub_ℕ a b) ≡ ltb b a
sub_test a b = by_bool (ltb a b) (λ e. rw e (below e)) (λ e. rw e (above e))
  where
    below : ltb a b ≡ true → false ≡ ltb b a
    below e = sym (le-ltb b a (omega (arith, ltb-true a b e)))

    above : ltb a b ≡ false → ltb 0 (a - b) ≡ ltb b a
    above e =
        by_bool (ltb b a) (λ i. lt-ltb 0 (a - b) (omega (arith, ltb-true b a i)) ∙ sym i) (λ i. le-ltb 0 (a - b) (omega (arith, ltb-false b a i)) ∙ sym i)

pub lt_sub : (a b : ℤ) → lt_z a b ≡ posb (b -ℤ a)
lt_sub (pos zero) (pos n) = ap (ltb 0) (sym (add-zero n))
lt_sub (pos (suc m)) (pos n) = sym (sub_test n (suc m))
lt_sub (pos zero) (negsuc n) = sym (leb-suc-zero (suc n)) ∙ sym (sub_test 0 (suc n))
lt_sub (pos (suc m)) (negsuc n) = refl
lt_sub (negsuc m) (pos n) = sym (lt-ltb 0 (n + suc m) (omega arith))
lt_sub (negsuc m) (negsuc n) = sym (leb-suc-suc (suc n) m) ∙ sym (sub_test (suc m) (suc n))

le_not' : (m n : ℕ) → leb m n ≡ not (ltb n m)
le_not' m n = by_bool (ltb n m) (λ e. rw e (lt-leb m n (ltb-true n m e))) (λ e. rw e (le-leb m n (ltb-false n m e)))

pub le_not : (a b : ℤ) → le_z a b ≡ not (lt_z b a)
le_not (pos m) (pos n) = le_not' m n
le_not (pos m) (negsuc n) = refl
le_not (negsuc m) (pos n) = refl
le_not (negsuc m) (negsuc n) = le_not' n m

-- The code compares numbers that went through bits.
pub lt_read : (w : Width) (a b : ℤ) → SFits w a → SFits w b → {v : Bool} → lt_z (back w a) (back w b) ≡ v → lt_z a b ≡ v
lt_read w a b f g e = sym (ap₂ lt_z (to_z-of_z f) (to_z-of_z g)) ∙ e

-- ---- equality

eq_z_yes : (a b : ℤ) → a ≡ b → eq_z a b ≡ true
eq_z_yes a b e = by_bool (eq_z a b) (λ i. i) (λ i. absurd (subst T (ap (eq_z a) e ∙ i) (eq_z_refl a)))

eq_z_no : (a b : ℤ) → (a ≡ b → ⊥) → eq_z a b ≡ false
eq_z_no a b n = by_bool (eq_z a b) (λ i. absurd (n (eq_z_eq a b (subst T (sym i) tt)))) (λ i. i)

module _ (w : Width) (a b : ℤ) (f : SFits w a) (g : SFits w b) where
  pub same_bits : of_z w a ≡ of_z w b → eq_z a b ≡ true
  same_bits e = eq_z_yes a b (sym (to_z-of_z f) ∙ ap (to_z w) e ∙ to_z-of_z g)

  pub other_bits : (of_z w a ≡ of_z w b → ⊥) → eq_z a b ≡ false
  other_bits n = eq_z_no a b (λ e. n (ap (of_z w) e))

  pub eq_bits : eqb (of_z w a) (of_z w b) ≡ eq_z a b
  eq_bits =
      by_bool (eqb (of_z w a) (of_z w b)) (λ e. e ∙ sym (same_bits (eqb-true (of_z w a) (of_z w b) e))) (λ e. e ∙ sym (other_bits (eqb-false (of_z w a) (of_z w b) e)))

-- The library's test of equality is that of whole numbers.
pub int_eq_is : (a b : ℤ) → int_eq a b ≡ eq_z a b
int_eq_is a b =
    by_bool (int_eq a b) (λ i. i ∙ sym (eq_z_yes a b ((Decides-int_eq a b).0 i)))
    (λ i. i ∙ sym (eq_z_no a b (λ e. true≢false (sym ((Decides-int_eq a b).1 e) ∙ i))))
