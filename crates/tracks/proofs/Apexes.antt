-- A chain whose places are shifted has its apexes at shifted places, so that the filling sticks on the one where it sticks on the other.
-- Assumes nothing.
use mathlib.Core.Bool.{Bool, true, false, cond}
use mathlib.Core.Path.{◌≡◌, refl, sym, ap, ap₂, ◌∙◌}
use Prim.Native.Nat.{ℕ, zero, suc, ◌+◌, ◌-◌, ◌≤◌, ◌<◌}
use native.Mathlib.Omega.{arith}
use lib.IntN.{ℤ}
use Rattle.plane.specs.Points.{Pt}
use Rattle.cavities.specs.Choices.{replaces, choice}
use Rattle.chains.specs.Fillings.{NoApex, here, before, after}
use Rattle.chains.specs.Scans.{left_of, apex}

cond_range : (β : Bool) (x y lo hi : ℕ) → lo ≤ x → x ≤ hi → lo ≤ y → y ≤ hi → (lo ≤ cond β x y) × (cond β x y ≤ hi)
cond_range true x y lo hi a b c d = (a, b)
cond_range false x y lo hi a b c d = (c, d)

choice_range : (a b : Pt ℤ) (z : ℕ → Pt ℤ) (lo n : ℕ) → (lo ≤ choice a b z lo n) × (choice a b z lo n ≤ lo + n)
unfolding choice
choice_range a b z lo zero = (omega arith, omega arith)
choice_range a b z lo (suc n) =
    let p = choice_range a b z lo n in let q = p.1 in
    cond_range (replaces a b (z (choice a b z lo n)) (z (lo + suc n))) (lo + suc n) (choice a b z lo n) lo (lo + suc n) (omega arith) (omega arith) p.0 (omega arith)

cond_shift : (β : Bool) (d x y : ℕ) → cond β (d + x) (d + y) ≡ d + cond β x y
cond_shift true d x y = refl
cond_shift false d x y = refl

choice_shift : (a b : Pt ℤ) (z z' : ℕ → Pt ℤ) (d lo n : ℕ) → ((x : ℕ) → lo ≤ x → x ≤ lo + n → z' x ≡ z (d + x)) → choice a b z (d + lo) n ≡ d + choice a b z' lo n
unfolding choice
choice_shift a b z z' d lo zero f = refl
choice_shift a b z z' d lo (suc n) f =
    let ih = choice_shift a b z z' d lo n (λ x p q. f x p (omega arith)) in
    let g = choice_range a b z' lo n in
    let g1 = g.1 in
    let e : d + lo + suc n ≡ d + (lo + suc n) = omega arith in
    let u : z (choice a b z (d + lo) n) ≡ z' (choice a b z' lo n) = ap z ih ∙ sym (f (choice a b z' lo n) g.0 (omega arith)) in
    let v : z (d + lo + suc n) ≡ z' (lo + suc n) = ap z e ∙ sym (f (lo + suc n) (omega arith) (omega arith)) in
    ap₂ (λ (p q : Pt ℤ). cond (replaces a b p q) (d + lo + suc n) (choice a b z (d + lo) n)) u v ∙
    ap₂ (λ (p q : ℕ). cond (replaces a b (z' (choice a b z' lo n)) (z' (lo + suc n))) p q) e ih ∙
    cond_shift (replaces a b (z' (choice a b z' lo n)) (z' (lo + suc n))) d (lo + suc n) (choice a b z' lo n)

module _ (P : ℕ → Pt ℤ) (c c' : ℕ → ℕ) (d J : ℕ) (same : (x : ℕ) → x ≤ J → c' x ≡ c (d + x)) where
  apex_range : (i j : ℕ) → i + 1 < j → (i < apex P c' i j) × (apex P c' i j < j)
  unfolding apex
  apex_range i j l = let p = choice_range (P (c' i)) (P (c' j)) (λ k. P (c' k)) (suc i) (j - suc (suc i)) in let u = p.0 in let v = p.1 in (omega arith, omega arith)

  apex_shift : (i j : ℕ) → i + 1 < j → j ≤ J → apex P c (d + i) (d + j) ≡ d + apex P c' i j
  unfolding apex
  apex_shift i j l h =
      let e : suc (d + i) ≡ d + suc i = omega arith in
      let f : d + j - suc (suc (d + i)) ≡ j - suc (suc i) = omega arith in
      ap₂ (λ (lo n : ℕ). choice (P (c (d + i))) (P (c (d + j))) (λ k. P (c k)) lo n) e f ∙
      ap₂ (λ (p q : Pt ℤ). choice p q (λ k. P (c k)) (d + suc i) (j - suc (suc i))) (ap P (sym (same i (omega arith)))) (ap P (sym (same j h))) ∙
      choice_shift (P (c' i)) (P (c' j)) (λ k. P (c k)) (λ k. P (c' k)) d (suc i) (j - suc (suc i)) (λ x p q. ap P (same x (omega arith)))

  left_shift : (i j k : ℕ) → i ≤ J → j ≤ J → k ≤ J → left_of P (c' i) (c' j) (c' k) ≡ left_of P (c (d + i)) (c (d + j)) (c (d + k))
  left_shift i j k p q r = ap (λ (u : ℕ). left_of P u (c' j) (c' k)) (same i p) ∙ ap (λ (u : ℕ). left_of P (c (d + i)) u (c' k)) (same j q) ∙ ap (left_of P (c (d + i)) (c (d + j))) (same k r)

  -- the apex of the shifted chain
  record At (I K k i j : ℕ) : Type 0 where
    wide : i + 1 < j
    is : k ≡ d + apex P c' i j
    low : i < apex P c' i j
    high : apex P c' i j < j
    side : left_of P (c' i) (c' j) (c' (apex P c' i j)) ≡ left_of P (c I) (c K) (c k)

  at : (I K k i j : ℕ) → I + 1 < K → k ≡ apex P c I K → I ≡ d + i → K ≡ d + j → j ≤ J → At I K k i j
  at I K k i j l e p q h =
      let w : i + 1 < j = omega arith in
      let m = apex_range i j w in let m0 = m.0 in let m1 = m.1 in
      let s : k ≡ d + apex P c' i j = e ∙ ap₂ (apex P c) p q ∙ apex_shift i j w h in
      record {
        wide = w;
        is = s;
        low = m0;
        high = m1;
        side = left_shift i j (apex P c' i j) (omega arith) h (omega arith)
            ∙ ap₂ (λ (u v : ℕ). left_of P (c u) (c v) (c (d + apex P c' i j))) (sym p) (sym q) ∙ ap (λ (u : ℕ). left_of P (c I) (c K) (c u)) (sym s);
      }

  shift : {I K : ℕ} → NoApex P c I K → (i j : ℕ) → I ≡ d + i → K ≡ d + j → j ≤ J → NoApex P c' i j
  shift (here {i = I} {j = K} {k = k} l e f) i j p q h = let m = at I K k i j l e p q h in here m.wide refl (m.side ∙ f)
  shift (before {i = I} {j = K} {k = k} l e f s) i j p q h =
      let m = at I K k i j l e p q h in
      before m.wide refl (m.side ∙ f) (shift s i (apex P c' i j) p m.is (let u = m.high in omega arith))
  shift (after {i = I} {j = K} {k = k} l e f s) i j p q h =
      let m = at I K k i j l e p q h in
      after m.wide refl (m.side ∙ f) (shift s (apex P c' i j) j m.is q h)

  -- IT STICKS ON THE SHIFTED CHAIN
  pub no_apex_shift : (i j : ℕ) → j ≤ J → NoApex P c (d + i) (d + j) → NoApex P c' i j
  no_apex_shift i j h s = shift s i j refl refl h
