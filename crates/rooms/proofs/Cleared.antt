-- A list whose first numbers are made zero. Assumes nothing.
use mathlib.Core.Path.{◌≡◌, refl, sym, ap, ◌∙◌, subst}
use mathlib.Core.List.{List, [], ◌∷◌, ◌++◌}
use Prim.Native.Nat.{ℕ, zero, suc, ◌≤◌, ◌<◌}
use native.Mathlib.Nat.{le_of_suc-le-suc, not-suc-le-zero}
use native.Mathlib.Decide.{dec_lt}
use native.Mathlib.Omega.{arith}
use lib.ListN.{length, get_or, replicate, take, drop}
use lib.Seq.{ext_get_or}
use Rattle.tables.specs.Verdicts.{cleared}
use Rattle.rooms.specs.Rest.{Rest}

pub cleared_length : (k : ℕ) (w : List ℕ) → length (cleared k w) ≡ length w
unfolding cleared
cleared_length zero w = refl
cleared_length (suc k) [] = refl
cleared_length (suc k) (x ∷ w) = ap suc (cleared_length k w)

-- zeros over the first k numbers, and what stands behind them
filled : (k : ℕ) (w : List ℕ) → replicate (length (take k w)) 0 ++ drop k w ≡ cleared k w
unfolding cleared
filled zero w = refl
filled (suc k) [] = refl
filled (suc k) (x ∷ w) = ap (λ (l : List ℕ). 0 ∷ l) (filled k w)

pub cleared_fill : (k : ℕ) (w z : List ℕ) → z ≡ replicate (length (take k w)) 0 → z ++ drop k w ≡ cleared k w
cleared_fill k w z e = rw e (filled k w)

-- a cleared place reads zero, and one past them reads as before
pub cleared_zero : (k : ℕ) (w : List ℕ) (p : ℕ) → p < k → get_or (cleared k w) p 0 ≡ 0
unfolding cleared
cleared_zero zero w p h = absurd (not-suc-le-zero h)
cleared_zero (suc k) [] p h = refl
cleared_zero (suc k) (x ∷ w) zero h = refl
cleared_zero (suc k) (x ∷ w) (suc p) h = cleared_zero k w p (le_of_suc-le-suc h)

pub cleared_rest : (k : ℕ) (w : List ℕ) (p : ℕ) → k ≤ p → get_or (cleared k w) p 0 ≡ get_or w p 0
unfolding cleared
cleared_rest zero w p h = refl
cleared_rest (suc k) [] p h = refl
cleared_rest (suc k) (x ∷ w) zero h = absurd (not-suc-le-zero h)
cleared_rest (suc k) (x ∷ w) (suc p) h = cleared_rest k w p (le_of_suc-le-suc h)

-- what was written among the first k numbers is gone
pub cleared_over : (k : ℕ) (w w' : List ℕ) → Rest k w w' → cleared k w' ≡ cleared k w
cleared_over k w w' r =
    ext_get_or 0 (cleared k w') (cleared k w) (cleared_length k w' ∙ r.size ∙ sym (cleared_length k w)) (λ p h. go p (split p))
  where
    split : (p : ℕ) → Dec (p < k)
    split p = dec_lt p k

    go : (p : ℕ) → Dec (p < k) → get_or (cleared k w') p 0 ≡ get_or (cleared k w) p 0
    go p (yes l) = cleared_zero k w' p l ∙ sym (cleared_zero k w p l)
    go p (no f) = let l : k ≤ p = omega arith in cleared_rest k w' p l ∙ r.same p l ∙ sym (cleared_rest k w p l)

-- ---- what is left alone

pub rest_none : (k : ℕ) (w : List ℕ) → Rest k w w
rest_none k w = record { size = refl; same = λ p l. refl }

pub rest_then : {k : ℕ} {w w₁ w₂ : List ℕ} → Rest k w w₁ → Rest k w₁ w₂ → Rest k w w₂
rest_then r q = record { size = q.size ∙ r.size; same = λ p l. q.same p l ∙ r.same p l }

pub rest_cleared : (k : ℕ) {w w₁ : List ℕ} → w₁ ≡ cleared k w → Rest k w w₁
rest_cleared k {w} e = subst (Rest k w) (sym e) (record { size = cleared_length k w; same = cleared_rest k w })
