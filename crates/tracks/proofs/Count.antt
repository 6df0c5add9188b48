-- The places at which gaps are parked are different. Assumes nothing.
use mathlib.Core.Bool.{Bool, true, false, cond, not}
use mathlib.Core.Path.{◌≡◌, refl, sym, ap, subst}
use Prim.Native.Nat.{ℕ, zero, suc, ◌+◌, ◌-◌, ◌*◌, ◌≤◌, ◌<◌}
use native.Mathlib.Decide.{dec_lt}
use native.Mathlib.Omega.{arith}
use Rattle.algebra.proofs.Sum.{by_bool}
use Rattle.tracks.specs.Tracks.{count, other, place}

pub count_yes : (s : ℕ → Bool) (k : ℕ) → s k ≡ true → count s (suc k) ≡ suc (count s k)
unfolding count
count_yes s k e = ap (λ (b : Bool). cond b (suc (count s k)) (count s k)) e

pub count_no : (s : ℕ → Bool) (k : ℕ) → s k ≡ false → count s (suc k) ≡ count s k
unfolding count
count_no s k e = ap (λ (b : Bool). cond b (suc (count s k)) (count s k)) e

other_no : (s : ℕ → Bool) (k : ℕ) → s k ≡ true → other s k ≡ false
unfolding other
other_no s k e = ap not e

other_yes : (s : ℕ → Bool) (k : ℕ) → s k ≡ false → other s k ≡ true
unfolding other
other_yes s k e = ap not e

pub count_none : (s : ℕ → Bool) → count s 0 ≡ 0
unfolding count
count_none s = refl

-- each is on one side
pub count_both : (s : ℕ → Bool) (k : ℕ) → count s k + count (other s) k ≡ k
count_both s zero = let p = count_none s in let q = count_none (other s) in omega arith
count_both s (suc k) = let p = count_both s k in by_bool (s k) (left p) (right p)
  where
    left : count s k + count (other s) k ≡ k → s k ≡ true → count s (suc k) + count (other s) (suc k) ≡ suc k
    left p e = let q = count_yes s k e in let u = count_no (other s) k (other_no s k e) in omega arith

    right : count s k + count (other s) k ≡ k → s k ≡ false → count s (suc k) + count (other s) (suc k) ≡ suc k
    right p e = let q = count_no s k e in let u = count_yes (other s) k (other_yes s k e) in omega arith

count_step : (s : ℕ → Bool) (k : ℕ) → count s k ≤ count s (suc k)
count_step s k = by_bool (s k) (λ e. let q = count_yes s k e in omega arith) (λ e. let q = count_no s k e in omega arith)

-- more of them, more of one side
pub count_mono : (s : ℕ → Bool) (x d : ℕ) → count s x ≤ count s (x + d)
count_mono s x zero = let q : x + 0 ≡ x = omega arith in subst (λ (z : ℕ). count s x ≤ count s z) (sym q) (omega arith)
count_mono s x (suc d) = let q : x + suc d ≡ suc (x + d) = omega arith in let p = count_mono s x d in let u = count_step s (x + d) in subst (λ (z : ℕ). count s x ≤ count s z) (sym q) (omega arith)

mono : (s : ℕ → Bool) (x y : ℕ) → x ≤ y → count s x ≤ count s y
mono s x y l = let q : x + (y - x) ≡ y = omega arith in subst (λ (z : ℕ). count s x ≤ count s z) q (count_mono s x (y - x))

-- and strictly so after one of that side
grows : (s : ℕ → Bool) (x y : ℕ) → x < y → s x ≡ true → count s x < count s y
grows s x y l e = let p = mono s (suc x) y l in let q = count_yes s x e in omega arith

same : (s : ℕ → Bool) (x y : ℕ) → s x ≡ true → s y ≡ true → count s x ≡ count s y → x ≡ y
same s x y p q e = go (dec_lt x y) (dec_lt y x)
  where
    go : Dec (x < y) → Dec (y < x) → x ≡ y
    go (yes l) d = let u = grows s x y l p in absurd (omega arith)
    go (no l) (yes m) = let u = grows s y x m q in absurd (omega arith)
    go (no l) (no m) = omega arith

pub low : (s : ℕ → Bool) (k : ℕ) → count s k ≤ k
low s k = let p = count_both s k in omega arith

module _ (n : ℕ) (s : ℕ → Bool) where
  pub place_left : (k : ℕ) → s k ≡ true → place n s k ≡ 6 * n + count s k
  unfolding place
  place_left k e = ap (λ (b : Bool). cond b (6 * n + count s k) (6 * n + (2 * n - 2 - count (other s) k))) e

  pub place_right : (k : ℕ) → s k ≡ false → place n s k ≡ 6 * n + (2 * n - 2 - count (other s) k)
  unfolding place
  place_right k e = ap (λ (b : Bool). cond b (6 * n + count s k) (6 * n + (2 * n - 2 - count (other s) k))) e

  pub place_low : (k : ℕ) → k + 2 < 2 * n → (6 * n ≤ place n s k) × (place n s k < 8 * n)
  place_low k l = by_bool (s k) (λ e. let q = place_left k e in let p = low s k in (omega arith, omega arith)) (λ e. let q = place_right k e in (omega arith, omega arith))

  -- one on the left, one on the right
  two : (x y : ℕ) → x + 2 < 2 * n → y + 2 < 2 * n → s x ≡ true → s y ≡ false → ¬ (place n s x ≡ place n s y)
  two x y lx ly p q e =
      let u = place_left x p in let v = place_right y q in
      go (dec_lt x y) (omega arith)
    where
      go : Dec (x < y) → count s x ≡ 2 * n - 2 - count (other s) y → ⊥
      go (yes l) f = let a = count_both s y in let b = mono s x y (omega arith) in omega arith
      go (no l) f = let a = count_both s x in let b = mono (other s) y x (omega arith) in omega arith

  -- THE PLACES ARE DIFFERENT
  pub place_apart : (x y : ℕ) → x + 2 < 2 * n → y + 2 < 2 * n → place n s x ≡ place n s y → x ≡ y
  place_apart x y lx ly e = by_bool (s x) (λ p. by_bool (s y) (λ q. ll p q) (λ q. absurd (two x y lx ly p q e))) (λ p. by_bool (s y) (λ q. absurd (two y x ly lx q p (sym e))) (λ q. rr p q))
    where
      ll : s x ≡ true → s y ≡ true → x ≡ y
      ll p q = let u = place_left x p in let v = place_left y q in same s x y p q (omega arith)

      rr : s x ≡ false → s y ≡ false → x ≡ y
      rr p q =
          let u = place_right x p in let v = place_right y q in
          let a = low (other s) x in let b = low (other s) y in
          same (other s) x y (other_yes s x p) (other_yes s y q) (omega arith)
