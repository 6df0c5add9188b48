-- The number of a sign and a size, as a list takes it. Assumes nothing.
use mathlib.Core.Path.{◌≡◌, sym, ap, ◌∙◌}
use mathlib.Core.Bool.{Bool, true, false}
use Prim.Native.Nat.{ℕ, zero, suc, ◌≤◌}
use native.Mathlib.Omega.{arith}
use borrow.Author.Tests.{leb-true, le-leb}
use lib.Dec.{leb}
use lib.IntN.{ℤ, pos, neg_ℤ, ◌-ℤ◌, +ℤ_idl}
use mir.Syntax.{w32}
use mir.Val.{SFits, to_z, of_z}
use mir.ValLaws.{to_z-of_z}
use Rattle.std.specs.Prelude.{Some, None}
use Rattle.algebra.proofs.Tests.{by_test}
use Rattle.texts.specs.Figures.{signed, allowed, entry_of}

signed_fits : (b : Bool) (k : ℕ) → k ≤ 2147483647 → SFits w32 (signed b k)
signed_fits true zero l = record { sfits = omega arith }
signed_fits true (suc k) l = record { sfits = omega arith }
signed_fits false k l = record { sfits = omega arith }

module _ (minus : Bool) (n : ℕ) where
  allowed_is : n ≤ 2147483647 → entry_of true signed minus n ≡ Some (signed minus n)
  unfolding allowed
  allowed_is l = rw (le-leb n 2147483647 l)

  small : SFits w32 (pos n) → n ≤ 2147483647
  small f = let a = f.sfits in omega arith

  back : (z : ℤ) → z ≡ pos n → n ≤ 2147483647 → to_z w32 (of_z w32 z) ≡ pos n
  back z e l = ap (λ (x : ℤ). to_z w32 (of_z w32 x)) e ∙ to_z-of_z w32 (pos n) (signed_fits false n l)

  below : n ≤ 2147483647 → to_z w32 (of_z w32 (pos 0 -ℤ pos n)) ≡ signed true n
  below l = ap (λ (x : ℤ). to_z w32 (of_z w32 x)) (+ℤ_idl (neg_ℤ (pos n))) ∙ to_z-of_z w32 (signed true n) (signed_fits true n l)

  pub with_minus : (z : ℤ) → SFits w32 (pos n) × (z ≡ pos n) → minus ≡ true → Some (to_z w32 (of_z w32 (pos 0 -ℤ to_z w32 (of_z w32 z)))) ≡ entry_of true signed minus n
  with_minus z f h =
      let l = small f.0 in
      ap Some (ap (λ (x : ℤ). to_z w32 (of_z w32 (pos 0 -ℤ x))) (back z f.1 l) ∙ below l ∙ ap (λ (b : Bool). signed b n) (sym h)) ∙ sym (allowed_is l)

  pub without_minus : (z : ℤ) → SFits w32 (pos n) × (z ≡ pos n) → minus ≡ false → Some (to_z w32 (of_z w32 z)) ≡ entry_of true signed minus n
  without_minus z f h = let l = small f.0 in ap Some (back z f.1 l ∙ ap (λ (b : Bool). signed b n) (sym h)) ∙ sym (allowed_is l)

  pub too_large : (SFits w32 (pos n) → ⊥) → None ≡ entry_of true signed minus n
  unfolding allowed
  too_large f = by_test (leb n 2147483647) (λ h. absurd (f (signed_fits false n (leb-true n 2147483647 h)))) (λ h. rw h)
