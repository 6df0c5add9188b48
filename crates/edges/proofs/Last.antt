-- The last number below k that passes a test. Assumes nothing.
use mathlib.Core.Path.{◌≡◌, refl, sym, ap, ◌∙◌}
use mathlib.Core.Bool.{Bool, true, false, not, ◌||◌}
use mathlib.Core.List.{List}
use Prim.Native.Nat.{ℕ, zero, suc, ◌≤◌, ◌<◌}
use native.Mathlib.Nat.{not-suc-le-zero}
use native.Mathlib.Decide.{dec_lt}
use native.Mathlib.Omega.{arith}
use lib.Dec.{eqb, eqb-suc-zero}
use borrow.Author.Tests.{ne_eqb}
use Rattle.algebra.specs.Tests.{any_to}
use Rattle.tables.specs.Rules.{corner, edge_is}
use Rattle.std.specs.Prelude.{Option, Some, None, is_some}
use Rattle.edges.specs.Index.{last_of, last_from, last_edge, found_at}

-- by a test, with the equation
by : {X : Type 0} (b : Bool) → (b ≡ true → X) → (b ≡ false → X) → X
by true f g = f refl
by false f g = g refl

module _ (f : ℕ → Bool) where
  pub last_yes : (k : ℕ) → f k ≡ true → last_of f (suc k) ≡ suc k
  unfolding last_of
  last_yes k h = rw h

  pub last_no : (k : ℕ) → f k ≡ false → last_of f (suc k) ≡ last_of f k
  unfolding last_of
  last_no k h = rw h

  pub last_le : (k : ℕ) → last_of f k ≤ k
  unfolding last_of
  last_le zero = omega arith
  last_le (suc k) = by (f k) (λ h. rw h (omega arith)) (λ h. rw h (let l = last_le k in omega arith))

  -- it passes, and none after it does
  pub last_is : (k h : ℕ) → last_of f k ≡ suc h → f h ≡ true
  unfolding last_of
  last_is zero h e = absurd (let z : ◌≡◌ {A = ℕ} 0 (suc h) = e in let b : ⊥ = omega arith in b)
  last_is (suc k) h e = by (f k) (λ t. let q : suc k ≡ suc h = sym (last_yes k t) ∙ e in let r : k ≡ h = omega arith in sym (ap f r) ∙ t) (λ t. last_is k h (sym (last_no k t) ∙ e))

  pub last_none : (k p : ℕ) → last_of f k ≤ p → p < k → f p ≡ false
  last_none zero p l h = absurd (not-suc-le-zero h)
  last_none (suc k) p l h = by (f k) (λ t. absurd (let e = last_yes k t in let b : ⊥ = omega arith in b)) (λ t. go t (last_none k p) (dec_lt p k))
    where
      go : f k ≡ false → (last_of f k ≤ p → p < k → f p ≡ false) → Dec (p < k) → f p ≡ false
      go t r (yes q) = r (let e = last_no k t in omega arith) q
      go t r (no q) = let e : p ≡ k = omega arith in ap f e ∙ t

  -- where none passes from j to k, the last below k is the last below j
  pub last_skip : (j k : ℕ) → j ≤ k → ((p : ℕ) → j ≤ p → p < k → f p ≡ false) → last_of f k ≡ last_of f j
  last_skip j zero l h = let e : j ≡ 0 = omega arith in sym (ap (last_of f) e)
  last_skip j (suc k) l h = go (last_skip j k) (dec_lt k j)
    where
      go : (j ≤ k → ((p : ℕ) → j ≤ p → p < k → f p ≡ false) → last_of f k ≡ last_of f j) → Dec (k < j) → last_of f (suc k) ≡ last_of f j
      go r (yes q) = let e : suc k ≡ j = omega arith in ap (last_of f) e
      go r (no q) = last_no k (h k (omega arith) (omega arith)) ∙ r (omega arith) (λ p a b. h p a (omega arith))

  -- some number below k passes exactly if there is a last one
  pub last_any : (k : ℕ) → any_to k f ≡ not (eqb (last_of f k) 0)
  unfolding any_to last_of
  last_any zero = refl
  last_any (suc k) = by (f k) (λ t. rw t (or_true (any_to k f) ∙ sym (ap not (ne_eqb (suc k) 0 (λ e. let b : ⊥ = omega arith in b))))) (λ t. rw t (or_false (any_to k f) ∙ last_any k))
    where
      or_true : (b : Bool) → (b || true) ≡ true
      or_true true = refl
      or_true false = refl

      or_false : (b : Bool) → (b || false) ≡ b
      or_false true = refl
      or_false false = refl

  -- a search finds one exactly if some number below k passes
  pub found_any : (k : ℕ) {r : Option ℕ} → r ≡ found_at (last_of f k) → is_some r ≡ any_to k f
  found_any k e = ap is_some e ∙ by_number (last_of f k) ∙ sym (last_any k)
    where
      by_number : (m : ℕ) → is_some (found_at m) ≡ not (eqb m 0)
      by_number zero = refl
      by_number (suc m) = sym (ap not (eqb-suc-zero m))

-- ---- a search's answer
pub is_at : (m g : ℕ) → Some g ≡ found_at m → m ≡ suc g
is_at zero g e = absurd (let z : ◌≡◌ {A = ℕ} 0 1 = cc in omega arith)
is_at (suc m) g e = let z : m ≡ g = cc in ap suc z

pub is_nowhere : (m : ℕ) → None ≡ found_at m → m ≡ 0
is_nowhere zero e = refl
is_nowhere (suc m) e = absurd (let z : ◌≡◌ {A = ℕ} 0 1 = cc in omega arith)

-- ---- the last edge from u to v is among those that leave u
module _ (xs : List ℕ) (u v : ℕ) where
  leaves : (p : ℕ) → eqb (corner xs p) u ≡ false → edge_is xs p u v ≡ false
  leaves p h = rw h

  -- from the last edge below k that leaves u on, down to it
  pub edge_skip : (k : ℕ) → last_edge xs u v k ≡ last_edge xs u v (last_from xs u k)
  edge_skip k =
      last_skip (λ h. edge_is xs h u v) (last_from xs u k) k (last_le (λ h. eqb (corner xs h) u) k)
      (λ p a b. leaves p (last_none (λ h. eqb (corner xs h) u) k p a b))
