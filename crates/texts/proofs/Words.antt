-- Laws of the definitions of words, as the loops over a text use them. Assumes nothing.
use mathlib.Core.Path.{◌≡◌, refl, sym, ap, ◌∙◌}
use mathlib.Core.Bool.{Bool, true, false, not}
use mathlib.Core.List.{List}
use Prim.Native.Nat.{ℕ, suc, ◌+◌, ◌-◌, ◌*◌, ◌≤◌, ◌<◌, min}
use native.Mathlib.Numerals.{add-one}
use native.Mathlib.Omega.{arith}
use borrow.Author.Tests.{leb-true, leb-false, le-leb, lt-leb}
use lib.Dec.{leb}
use lib.ListN.{get_or}
use Rattle.std.specs.Prelude.{Some, None}
use Rattle.algebra.specs.Tests.{all_to}
use Rattle.algebra.proofs.Tests.{by_test, and_fst, and_snd, all_more, all_fails}
use Rattle.texts.specs.Words.{is_space, is_black, is_digit, first, all_digits, value_of, capped, digits_of}

-- ---- single bytes
pub digit_from : (b : ℕ) → is_digit b ≡ true → 48 ≤ b
unfolding is_digit
digit_from b h = leb-true 48 b (and_fst (leb 48 b) (leb b 57) h)

pub digit_to : (b : ℕ) → is_digit b ≡ true → b ≤ 57
unfolding is_digit
digit_to b h = leb-true b 57 (and_snd (leb 48 b) (leb b 57) h)

pub black : (b : ℕ) → is_space b ≡ false → is_black b ≡ true
unfolding is_black
black b h = ap not h

pub not_black : (b : ℕ) → is_space b ≡ true → is_black b ≡ false
unfolding is_black
not_black b h = ap not h

-- ---- the first place that passes, of those from i on and below n
module _ (f : ℕ → Bool) (text : List ℕ) where
  first_yes : (i k : ℕ) → f (get_or text i 0) ≡ true → first f text i (suc k) ≡ i
  unfolding first
  first_yes i k h = rw h

  first_no : (i k : ℕ) → f (get_or text i 0) ≡ false → first f text i (suc k) ≡ first f text (suc i) k
  unfolding first
  first_no i k h = rw h

  first_none : (i : ℕ) → first f text i 0 ≡ i
  unfolding first
  first_none i = refl

  pub first_here : (i n : ℕ) → i < n → f (get_or text i 0) ≡ true → first f text i (n - i) ≡ i
  first_here i n l h = let e : n - i ≡ suc (n - (i + 1)) = omega arith in ap (first f text i) e ∙ first_yes i (n - (i + 1)) h

  pub first_later : (i n : ℕ) → i < n → f (get_or text i 0) ≡ false → first f text i (n - i) ≡ first f text (i + 1) (n - (i + 1))
  first_later i n l h =
      let e : n - i ≡ suc (n - (i + 1)) = omega arith in
      ap (first f text i) e ∙ first_no i (n - (i + 1)) h ∙ ap (λ (x : ℕ). first f text x (n - (i + 1))) (sym (add-one i))

  pub first_end : (i n : ℕ) → n ≤ i → first f text i (n - i) ≡ i
  first_end i n l = let e : n - i ≡ 0 = omega arith in ap (first f text i) e ∙ first_none i

-- ---- digits
pub capped_low : (n : ℕ) → n ≤ 4294967295 → capped n ≡ n
unfolding capped
capped_low n l = rw (le-leb n 4294967295 l)

pub capped_high : (n : ℕ) → 4294967295 < n → capped n ≡ 4294967296
unfolding capped
capped_high n l = rw (lt-leb n 4294967295 l)

pub capped_is : (n : ℕ) → min n 4294967296 ≡ capped n
capped_is n =
    by_test (leb n 4294967295) (λ h. let l = leb-true n 4294967295 h in let e = capped_low n l in omega arith)
    (λ h. let l = leb-false n 4294967295 h in let e = capped_high n l in omega arith)

pub capped_le : (n : ℕ) → capped n ≤ 4294967296
capped_le n =
    by_test (leb n 4294967295) (λ h. let l = leb-true n 4294967295 h in let e = capped_low n l in omega arith)
    (λ h. let e = capped_high n (leb-false n 4294967295 h) in omega arith)

capped_more : (n d : ℕ) → capped (10 * capped n + d) ≡ capped (10 * n + d)
capped_more n d =
    by_test (leb n 4294967295) (λ h. ap (λ (x : ℕ). capped (10 * x + d)) (capped_low n (leb-true n 4294967295 h)))
    (λ h.
    let l = leb-false n 4294967295 h in
    let e = capped_high n l in
    capped_high (10 * capped n + d) (omega arith) ∙ sym (capped_high (10 * n + d) (omega arith)))

value_more : (text : List ℕ) (i k : ℕ) → value_of text i (suc k) ≡ 10 * value_of text i k + (get_or text (i + k) 0 - 48)
unfolding value_of
value_more text i k = refl

value_none : (text : List ℕ) (i : ℕ) → value_of text i 0 ≡ 0
unfolding value_of
value_none text i = refl

-- the digits from place i to place p are read, and v is their number
pub record Read (text : List ℕ) (i p v : ℕ) : Type 0 where
  pub low : i ≤ p
  pub digits : all_digits text i (p - i) ≡ true
  pub value : v ≡ capped (value_of text i (p - i))

pub read_none : (text : List ℕ) (i : ℕ) → Read text i i 0
unfolding all_to
read_none text i =
    let e : i - i ≡ 0 = omega arith in
    record {
      low = omega arith;
      digits = ap (all_digits text i) e;
      value = sym (ap (λ (k : ℕ). capped (value_of text i k)) e ∙ ap capped (value_none text i) ∙ capped_low 0 (omega arith));
    }

module _ (text : List ℕ) (i p v : ℕ) (r : Read text i p v) where
  abbrev here : ℕ → Bool
  here j = is_digit (get_or text (i + j) 0)

  at : i + (p - i) ≡ p
  at = let l = r.low in omega arith

  pub read_more : (w : ℕ) → is_digit (get_or text p 0) ≡ true → w ≡ capped (10 * v + (get_or text p 0 - 48)) → Read text i (p + 1) w
  read_more w h e =
      let l = r.low in
      let k : (p + 1) - i ≡ (p - i) + 1 = omega arith in
      let s : (p + 1) - i ≡ suc (p - i) = omega arith in
      record {
        low = omega arith;
        digits = ap (all_digits text i) k ∙ all_more here (p - i) r.digits (ap (λ (x : ℕ). is_digit (get_or text x 0)) at ∙ h);
        value =
            e ∙ ap (λ (x : ℕ). capped (10 * x + (get_or text p 0 - 48))) r.value ∙ capped_more (value_of text i (p - i)) (get_or text p 0 - 48)
            ∙ sym (ap (λ (x : ℕ). capped (value_of text i x)) s ∙ ap capped (value_more text i (p - i))
            ∙ ap (λ (x : ℕ). capped (10 * value_of text i (p - i) + (get_or text x 0 - 48))) at);
      }

  pub read_small : v ≤ 4294967296
  read_small = let a = capped_le (value_of text i (p - i)) in let e = r.value in omega arith

  read_fails : (n : ℕ) → p < n → is_digit (get_or text p 0) ≡ false → all_digits text i (n - i) ≡ false
  read_fails n l h = let a = r.low in all_fails here (n - i) (p - i) (omega arith) (ap (λ (x : ℕ). is_digit (get_or text x 0)) at ∙ h)

  pub fails_is : (n : ℕ) → p < n → is_digit (get_or text p 0) ≡ false → None ≡ digits_of text i (n - i)
  unfolding digits_of
  fails_is n l h = rw (read_fails n l h)

  pub value_is : (n : ℕ) → p ≡ n → Some v ≡ digits_of text i (n - i)
  unfolding digits_of
  value_is n e = ap Some r.value ∙ sym (digits_yes (p - i) r.digits) ∙ ap (λ (x : ℕ). digits_of text i (x - i)) e
    where
      digits_yes : (k : ℕ) → all_digits text i k ≡ true → digits_of text i k ≡ Some (capped (value_of text i k))
      digits_yes k h = rw h
