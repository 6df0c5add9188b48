-- What a word is, from the digits that were read. Assumes nothing.
use mathlib.Core.Path.{◌≡◌, ap, ◌∙◌}
use mathlib.Core.Bool.{Bool, true, false}
use mathlib.Core.List.{List}
use Prim.Native.Nat.{ℕ, ◌+◌, ◌-◌, ◌≤◌, ◌<◌}
use native.Mathlib.Omega.{arith}
use borrow.Author.Tests.{leb-true, leb-false, le-leb, lt-leb, lt-ltb, le-ltb, eq-eqb, ne_eqb}
use lib.Dec.{leb}
use lib.ListN.{length, get_or}
use Rattle.std.specs.Prelude.{Some, None, Result, Ok, Err}
use Rattle.algebra.proofs.Tests.{by_test}
use Rattle.texts.specs.Words.{word_start, word_end, all_digits, value_of, capped, digits_of, number_at, word_at, some, next_word}
use Rattle.texts.specs.declared.Number.{Number}
use Rattle.texts.specs.declared.Fault.{Fault}
use Rattle.texts.specs.declared.Fault.TheVariants.{NotANumber, DoesNotFit}
use Rattle.texts.proofs.Words.{capped_low, capped_high}

-- ---- what was read of the digits
module _ (text : List ℕ) (i k : ℕ) where
  read_yes : all_digits text i k ≡ true → digits_of text i k ≡ Some (capped (value_of text i k))
  unfolding digits_of
  read_yes h = rw h

  read_no : all_digits text i k ≡ false → digits_of text i k ≡ None
  unfolding digits_of
  read_no h = rw h

  never : {X : Type 0} (v : ℕ) → digits_of text i k ≡ Some v → digits_of text i k ≡ None → X
  never v p q = absurd (let z : ◌≡◌ {A = ℕ} 0 1 = cc in let b : ⊥ = omega arith in b)

  value_digits : (v : ℕ) → digits_of text i k ≡ Some v → all_digits text i k ≡ true
  value_digits v e = by_test (all_digits text i k) (λ h. h) (λ h. never v e (read_no h))

  value_capped : (v : ℕ) → digits_of text i k ≡ Some v → v ≡ capped (value_of text i k)
  value_capped v e = let h = read_yes (value_digits v e) in cc

  no_digits : digits_of text i k ≡ None → all_digits text i k ≡ false
  no_digits e = by_test (all_digits text i k) (λ h. never (capped (value_of text i k)) (read_yes h) e) (λ h. h)

  value_low : (v : ℕ) → digits_of text i k ≡ Some v → v ≤ 4294967295 → v ≡ value_of text i k
  value_low v e l =
      by_test (leb (value_of text i k) 4294967295) (λ h. value_capped v e ∙ capped_low (value_of text i k) (leb-true (value_of text i k) 4294967295 h))
      (λ h. absurd (let a = value_capped v e in let b = capped_high (value_of text i k) (leb-false (value_of text i k) 4294967295 h) in let z : ⊥ = omega arith in z))

  value_high : (v : ℕ) → digits_of text i k ≡ Some v → 4294967295 < v → 4294967295 < value_of text i k
  value_high v e l =
      by_test (leb (value_of text i k) 4294967295) (λ h. let a = value_capped v e in let b = capped_low (value_of text i k) (leb-true (value_of text i k) 4294967295 h) in omega arith)
      (λ h. leb-false (value_of text i k) 4294967295 h)

module _ (text : List ℕ) (start : ℕ) (minus : Bool) (i e : ℕ) where
  abbrev number : ℕ → Result Number Fault
  number n = Ok (record { minus = minus; size = n; start = start; end = e })

  pub number_short : e ≤ i → Err (NotANumber start) ≡ number_at text start minus i e
  unfolding number_at
  number_short l = rw (le-ltb i e l)

  pub number_not : digits_of text i (e - i) ≡ None → i < e → Err (NotANumber start) ≡ number_at text start minus i e
  unfolding number_at
  number_not d l = simp (lt-ltb i e l, no_digits text i (e - i) d)

  pub number_big : (v : ℕ) → digits_of text i (e - i) ≡ Some v → i < e → 4294967295 < v → Err (DoesNotFit start) ≡ number_at text start minus i e
  unfolding number_at
  number_big v d l h = simp (lt-ltb i e l, value_digits text i (e - i) v d, lt-leb (value_of text i (e - i)) 4294967295 (value_high text i (e - i) v d h))

  number_fits : i < e → all_digits text i (e - i) ≡ true → value_of text i (e - i) ≤ 4294967295 → number (value_of text i (e - i)) ≡ number_at text start minus i e
  unfolding number_at
  number_fits l d h = simp (lt-ltb i e l, d, le-leb (value_of text i (e - i)) 4294967295 h)

  pub number_is : (v : ℕ) → digits_of text i (e - i) ≡ Some v → i < e → v ≤ 4294967295 → number v ≡ number_at text start minus i e
  number_is v d l h =
      let a = value_low text i (e - i) v d h in
      ap number a ∙ number_fits l (value_digits text i (e - i) v d) (omega arith)

module _ (text : List ℕ) where
  pub word_minus : (start e : ℕ) → get_or text start 0 ≡ 45 → number_at text start true (start + 1) e ≡ word_at text start e
  unfolding word_at
  word_minus start e h = rw (eq-eqb (get_or text start 0) 45 h)

  pub word_plain : (start e : ℕ) → (get_or text start 0 ≡ 45 → ⊥) → number_at text start false start e ≡ word_at text start e
  unfolding word_at
  word_plain start e h = rw (ne_eqb (get_or text start 0) 45 h)

  pub next_none : (i : ℕ) → length text ≤ word_start text i → Ok None ≡ next_word text i
  unfolding next_word
  next_none i l = rw (le-ltb (word_start text i) (length text) l)

  pub next_some : (i : ℕ) → word_start text i < length text → some (word_at text (word_start text i) (word_end text (word_start text i))) ≡ next_word text i
  unfolding next_word
  next_some i l = rw (lt-ltb (word_start text i) (length text) l)
