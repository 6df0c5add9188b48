-- Laws of the tests of every and of some number below n, as loops and searches use them. Assumes nothing.
use mathlib.Core.Path.{◌≡◌, refl, sym, ap, ap₂, ◌∙◌, subst}
use mathlib.Core.Bool.{Bool, true, false, ◌&&◌, ◌||◌, true≢false, false≢true}
use Prim.Native.Nat.{ℕ, zero, suc, ◌+◌, ◌<◌}
use native.Mathlib.Nat.{not-suc-le-zero}
use native.Mathlib.Decide.{dec_lt}
use native.Mathlib.Numerals.{add-one}
use native.Mathlib.Omega.{arith}
use Rattle.algebra.specs.Tests.{all_to, any_to}

-- a test, with the equation
pub by_test : {X : Type 0} (b : Bool) → (b ≡ true → X) → (b ≡ false → X) → X
by_test true f g = f refl
by_test false f g = g refl

pub and_both : {a b : Bool} → a ≡ true → b ≡ true → (a && b) ≡ true
and_both {a} {b} h k = ap₂ (λ (x y : Bool). x && y) h k

pub and_fst : (a b : Bool) → (a && b) ≡ true → a ≡ true
and_fst true b h = refl
and_fst false b h = absurd (false≢true h)

pub and_snd : (a b : Bool) → (a && b) ≡ true → b ≡ true
and_snd true b h = h
and_snd false b h = absurd (false≢true h)

pub or_false : (a : Bool) → (a || false) ≡ a
or_false true = refl
or_false false = refl

pub or_true : (a : Bool) → (a || true) ≡ true
or_true true = refl
or_true false = refl

-- a number below n + 1 is below n, or it is n
last : (X : ℕ → Type 0) (n i : ℕ) → i < suc n → (i < n → X i) → X n → Dec (i < n) → X i
last X n i l f x (yes k) = f k
last X n i l f x (no k) = let e : n ≡ i = omega arith in subst X e x

-- ---- every
module _ (f : ℕ → Bool) where
  pub all_of : (n : ℕ) → ((i : ℕ) → i < n → f i ≡ true) → all_to n f ≡ true
  unfolding all_to
  all_of zero h = refl
  all_of (suc n) h = and_both (all_of n (λ i l. h i (omega arith))) (h n (omega arith))

  pub all_at : (n i : ℕ) → all_to n f ≡ true → i < n → f i ≡ true
  unfolding all_to
  all_at zero i h l = absurd (not-suc-le-zero l)
  all_at (suc n) i h l = last (λ (i : ℕ). f i ≡ true) n i l (λ k. all_at n i (and_fst (all_to n f) (f n) h) k) (and_snd (all_to n f) (f n) h) (dec_lt i n)

  pub all_more : (n : ℕ) → all_to n f ≡ true → f n ≡ true → all_to (n + 1) f ≡ true
  unfolding all_to
  all_more n h k = ap (λ (m : ℕ). all_to m f) (add-one n) ∙ and_both h k

  pub all_fails : (n i : ℕ) → i < n → f i ≡ false → all_to n f ≡ false
  all_fails n i l h = by_test (all_to n f) (λ t. absurd (true≢false (sym (all_at n i t l) ∙ h))) (λ t. t)

-- ---- some
module _ (f : ℕ → Bool) where
  pub any_at : (n i : ℕ) → i < n → f i ≡ true → any_to n f ≡ true
  unfolding any_to
  any_at zero i l h = absurd (not-suc-le-zero l)
  any_at (suc n) i l h = go (dec_lt i n) (any_at n i)
    where
      go : Dec (i < n) → (i < n → f i ≡ true → any_to n f ≡ true) → (any_to n f || f n) ≡ true
      go (yes k) r = ap (λ (b : Bool). b || f n) (r k h)
      go (no k) r = let e : n ≡ i = omega arith in ap (λ (b : Bool). any_to n f || b) (ap f e ∙ h) ∙ or_true (any_to n f)

  pub any_none : (n i : ℕ) → any_to n f ≡ false → i < n → f i ≡ false
  any_none n i h l = by_test (f i) (λ t. absurd (true≢false (sym (any_at n i l t) ∙ h))) (λ t. t)

  pub any_no : (n : ℕ) → ((i : ℕ) → i < n → f i ≡ false) → any_to n f ≡ false
  unfolding any_to
  any_no zero h = refl
  any_no (suc n) h = ap₂ (λ (x y : Bool). x || y) (any_no n (λ i l. h i (omega arith))) (h n (omega arith))

  pub any_more : (n : ℕ) → any_to n f ≡ false → f n ≡ false → any_to (n + 1) f ≡ false
  unfolding any_to
  any_more n h k = ap (λ (m : ℕ). any_to m f) (add-one n) ∙ ap₂ (λ (x y : Bool). x || y) h k

  pub any_found : (n : ℕ) → any_to n f ≡ true → (i : ℕ) × (i < n) × (f i ≡ true)
  unfolding any_to
  any_found zero h = absurd (false≢true h)
  any_found (suc n) h = by_test (f n) (λ t. (n, omega arith, t))
      (λ t. let r = any_found n (sym (or_false (any_to n f)) ∙ ap (λ (b : Bool). any_to n f || b) (sym t) ∙ h) in let l = r.1 in (r.0, omega arith, r.2))

-- ---- two tests that agree
module _ (f g : ℕ → Bool) where
  pub all_same : (n : ℕ) → ((i : ℕ) → i < n → f i ≡ g i) → all_to n f ≡ all_to n g
  unfolding all_to
  all_same zero h = refl
  all_same (suc n) h = ap₂ (λ (x y : Bool). x && y) (all_same n (λ i l. h i (omega arith))) (h n (omega arith))

  pub any_same : (n : ℕ) → ((i : ℕ) → i < n → f i ≡ g i) → any_to n f ≡ any_to n g
  unfolding any_to
  any_same zero h = refl
  any_same (suc n) h = ap₂ (λ (x y : Bool). x || y) (any_same n (λ i l. h i (omega arith))) (h n (omega arith))

-- some pass one of two tests
pub any_or : (f g : ℕ → Bool) (n : ℕ) → any_to n (λ i. f i || g i) ≡ (any_to n f || any_to n g)
unfolding any_to
any_or f g zero = refl
any_or f g (suc n) = ap (λ (b : Bool). b || (f n || g n)) (any_or f g n) ∙ mix (any_to n f) (any_to n g) (f n) (g n)
  where
    mix : (a b c d : Bool) → (a || b || (c || d)) ≡ (a || c || (b || d))
    mix true b c d = refl
    mix false true true d = refl
    mix false true false d = refl
    mix false false c d = refl
