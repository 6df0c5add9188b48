-- Where a sum of tests is 1, one of them holds and no other. Assumes nothing.
use mathlib.Core.Path.{◌≡◌, refl, sym, ap, ◌∙◌, subst}
use mathlib.Core.Bool.{Bool, true, false}
use Prim.Native.Nat.{ℕ, zero, suc, ◌+◌, ◌≤◌, ◌<◌}
use native.Mathlib.Nat.{not-suc-le-zero}
use native.Mathlib.Decide.{dec_lt}
use native.Mathlib.Omega.{arith}
use lib.IntN.{ℤ, pos, negsuc, ◌+ℤ◌}
use Rattle.algebra.specs.Sum.{sum_to}
use Rattle.algebra.proofs.Sum.{by_bool}
use Rattle.plane.proofs.Sign.{ind}

bit : Bool → ℕ
bit true = 1
bit false = 0

count : ℕ → (ℕ → Bool) → ℕ
count zero f = 0
count (suc n) f = count n f + bit (f n)

count_sum : (n : ℕ) (f : ℕ → Bool) → sum_to n (λ i. ind (f i)) ≡ pos (count n f)
unfolding sum_to count bit
count_sum zero f = refl
count_sum (suc n) f = ap (λ (z : ℤ). z +ℤ ind (f n)) (count_sum n f) ∙ last (f n)
  where
    last : (b : Bool) → pos (count n f) +ℤ ind b ≡ pos (count n f + bit b)
    last true = refl
    last false = refl

unpos : ℤ → ℕ
unpos (pos n) = n
unpos (negsuc n) = 0

count_one : (n : ℕ) (f : ℕ → Bool) → sum_to n (λ i. ind (f i)) ≡ pos 1 → count n f ≡ 1
unfolding unpos
count_one n f e = ap unpos (sym (count_sum n f) ∙ e)

bit_true : (b : Bool) → b ≡ true → bit b ≡ 1
unfolding bit
bit_true b e = ap bit e

bit_false : (b : Bool) → b ≡ false → bit b ≡ 0
unfolding bit
bit_false b e = ap bit e

find : (n : ℕ) (f : ℕ → Bool) → count n f ≡ 1 → (t : ℕ) × (t < n) × (f t ≡ true)
unfolding count
find zero f e = absurd (no_way e)
  where
    no_way : ◌≡◌ {A = ℕ} 0 1 → ⊥
    no_way e = omega arith
find (suc n) f e = by_bool (f n) (λ h. (n, here n, h)) (λ h. wider n f (find n f (less (count n f) (bit (f n)) e (bit_false (f n) h))))
  where
    here : (n : ℕ) → n < suc n
    here n = omega arith

    less : (a b : ℕ) → a + b ≡ 1 → b ≡ 0 → a ≡ 1
    less a b e k = omega arith

    wider : (n : ℕ) (f : ℕ → Bool) → (t : ℕ) × (t < n) × (f t ≡ true) → (t : ℕ) × (t < suc n) × (f t ≡ true)
    wider n f r = let l = r.1 in (r.0, omega arith, r.2)

at_least : (n : ℕ) (f : ℕ → Bool) (i : ℕ) → i < n → f i ≡ true → 1 ≤ count n f
unfolding count
at_least zero f i l e = absurd (not-suc-le-zero l)
at_least (suc n) f i l e = go (dec_lt i n) (at_least n f i)
  where
    go : Dec (i < n) → (i < n → f i ≡ true → 1 ≤ count n f) → 1 ≤ count n f + bit (f n)
    go (yes k) ih = let r = ih k e in omega arith
    go (no k) ih = let q : i ≡ n = omega arith in let r = bit_true (f n) (subst (λ (j : ℕ). f j ≡ true) q e) in omega arith

at_least_two : (n : ℕ) (f : ℕ → Bool) (i j : ℕ) → i < j → j < n → f i ≡ true → f j ≡ true → 2 ≤ count n f
unfolding count
at_least_two zero f i j o l e k = absurd (not-suc-le-zero l)
at_least_two (suc n) f i j o l e k = go (dec_lt j n) (at_least_two n f i j o)
  where
    go : Dec (j < n) → (j < n → f i ≡ true → f j ≡ true → 2 ≤ count n f) → 2 ≤ count n f + bit (f n)
    go (yes b) ih = let r = ih b e k in omega arith
    go (no b) ih =
        let q : j ≡ n = omega arith in
        let r = bit_true (f n) (subst (λ (h : ℕ). f h ≡ true) q k) in
        let s = at_least n f i (omega arith) e in
        omega arith

module _ (n : ℕ) (f : ℕ → Bool) (one : sum_to n (λ i. ind (f i)) ≡ pos 1) where
  pub the_one : (t : ℕ) × (t < n) × (f t ≡ true)
  the_one = find n f (count_one n f one)

  pub only_one : (i j : ℕ) → i < n → j < n → f i ≡ true → f j ≡ true → i ≡ j
  only_one i j l k d e = go (dec_lt i j) (dec_lt j i)
    where
      c : count n f ≡ 1
      c = count_one n f one

      go : Dec (i < j) → Dec (j < i) → i ≡ j
      go (yes p) r = let x = at_least_two n f i j p k d e in let y = c in absurd (clash (count n f) x y)
        where
          clash : (k : ℕ) → 2 ≤ k → k ≡ 1 → ⊥
          clash k x y = omega arith
      go (no p) (yes r) = let x = at_least_two n f j i r l e d in absurd (clash (count n f) x c)
        where
          clash : (k : ℕ) → 2 ≤ k → k ≡ 1 → ⊥
          clash k x y = omega arith
      go (no p) (no r) = omega arith
