-- The tests of the code are the tests of the model, and a loop that keeps the choice up to a place keeps it up to the next. Assumes nothing.
use mathlib.Core.Bool.{Bool, true, false, cond}
use mathlib.Core.Path.{◌≡◌, refl, sym, ap, ◌∙◌}
use Prim.Native.Nat.{ℕ, suc, ◌+◌, ◌-◌, ◌≤◌, ◌<◌}
use native.Mathlib.Omega.{arith}
use lib.IntN.{ℤ, neg_ℤ}
use Rattle.algebra.specs.Tests.{posb}
use Rattle.plane.specs.Determinants.{orient, incircle}
use Rattle.plane.specs.Points.{Pt}
use Rattle.signs.specs.Signs.{sign_z}
use Rattle.signs.specs.declared.Sign.{Sign}
use Rattle.signs.specs.declared.Sign.TheVariants.{Neg, Zero, Pos}
use Rattle.segments.specs.Tests.{is_pos, is_neg}
use Rattle.segments.proofs.SignTests.{pos_told, neg_told}
use Rattle.cavities.specs.Choices.{replaces, choice}
use Rattle.chains.specs.Scans.{left_of, apex}

-- ---- a sign that was told

module _ (z : ℤ) {s : Sign} (e : s ≡ sign_z z) where
  pub pos_yes : s ≡ Pos → true ≡ posb z
  pos_yes q = pos_told z e (sym (ap is_pos q))

  pub pos_flat : s ≡ Zero → false ≡ posb z
  pos_flat q = pos_told z e (sym (ap is_pos q))

  pub pos_no : s ≡ Neg → false ≡ posb z
  pos_no q = pos_told z e (sym (ap is_pos q))

  pub pos_not : ¬ (s ≡ Pos) → false ≡ posb z
  pos_not n = pos_told z e (no s n)
    where
      no : (t : Sign) → ¬ (t ≡ Pos) → false ≡ is_pos t
      no Neg m = refl
      no Zero m = refl
      no Pos m = absurd (m refl)

  pub neg_yes : s ≡ Neg → true ≡ posb (neg_ℤ z)
  neg_yes q = neg_told z e (sym (ap is_neg q))

  pub neg_flat : s ≡ Zero → false ≡ posb (neg_ℤ z)
  neg_flat q = neg_told z e (sym (ap is_neg q))

module _ (a b c v : Pt ℤ) {s : Sign} (e : s ≡ sign_z (orient a b c)) where
  pub replaces_left : {r : Bool} → s ≡ Pos → r ≡ posb (incircle a b c v) → r ≡ replaces a b c v
  unfolding replaces
  replaces_left q h = rw (← pos_yes (orient a b c) e q) h

  pub replaces_right : {r : Bool} → s ≡ Neg → r ≡ posb (incircle a c b v) → r ≡ replaces a b c v
  unfolding replaces
  replaces_right q h = rw (← pos_no (orient a b c) e q, ← neg_yes (orient a b c) e q) h

  pub replaces_flat : s ≡ Zero → true ≡ replaces a b c v
  unfolding replaces
  replaces_flat q = rw (← pos_flat (orient a b c) e q, ← neg_flat (orient a b c) e q)

-- ---- the scan

module _ (a b : Pt ℤ) (z : ℕ → Pt ℤ) (i : ℕ) where
  pub choice_start : choice a b z (suc i) (i + 2 - suc (suc i)) ≡ i + 1
  unfolding choice
  choice_start = let e : i + 2 - suc (suc i) ≡ 0 = omega arith in let f : suc i ≡ i + 1 = omega arith in rw (e, f)

  more : (k x m : ℕ) → x ≡ suc i + suc m → k ≡ choice a b z (suc i) m → cond (replaces a b (z k) (z x)) x k ≡ choice a b z (suc i) (suc m)
  unfolding choice
  more k x m e q = rw (e, q)

  pub choice_more : (k x : ℕ) → i + 1 < x → k ≡ choice a b z (suc i) (x - suc (suc i)) → cond (replaces a b (z k) (z x)) x k ≡ choice a b z (suc i) (x + 1 - suc (suc i))
  choice_more k x l q =
      let e : x + 1 - suc (suc i) ≡ suc (x - suc (suc i)) = omega arith in
      let f : x ≡ suc i + suc (x - suc (suc i)) = omega arith in
      more k x (x - suc (suc i)) f q ∙ ap (choice a b z (suc i)) (sym e)

pick_in : (t : Bool) (i k x : ℕ) → i < k → k < x → (i < cond t x k) × (cond t x k < x + 1)
pick_in true i k x p q = omega arith
pick_in false i k x p q = omega arith

-- k is the choice among the places i + 1 .. x - 1 of the chain
pub record Scan (P : ℕ → Pt ℤ) (c : ℕ → ℕ) (i j k x : ℕ) : Type 0 where
  pub above : i < k
  pub below : k < x
  pub high : x ≤ j
  pub is : k ≡ choice (P (c i)) (P (c j)) (λ z. P (c z)) (suc i) (x - suc (suc i))

module _ (P : ℕ → Pt ℤ) (c : ℕ → ℕ) (i j : ℕ) where
  pub scan_start : i + 1 < j → Scan P c i j (i + 1) (i + 2)
  scan_start l = record { above = omega arith; below = omega arith; high = omega arith; is = sym (choice_start (P (c i)) (P (c j)) (λ z. P (c z)) i) }

  pub scan_more : {k x : ℕ} → Scan P c i j k x → x < j → {a b d v : ℕ} → a ≡ c i → b ≡ c j → d ≡ c k → v ≡ c x → {t : Bool} → t ≡ replaces (P a) (P b) (P d) (P v) →
      {k' : ℕ} → k' ≡ cond t x k → Scan P c i j k' (x + 1)
  scan_more {k} {x} o l ea eb ed ev {t} et {k'} ek =
      let p = o.above in
      let q = o.below in
      let r = pick_in t i k x p q in
      let f : t ≡ replaces (P (c i)) (P (c j)) (P (c k)) (P (c x)) = et ∙ rw (ea, eb, ed, ev) in
      record {
        above = rw ek r.0;
        below = rw ek r.1;
        high = omega arith;
        is = ek ∙ ap (λ (u : Bool). cond u x k) f ∙ choice_more (P (c i)) (P (c j)) (λ z. P (c z)) i k x (omega arith) o.is;
      }

  pub scan_end : {k x : ℕ} → Scan P c i j k x → ¬ (x < j) → (k ≡ apex P c i j) × (i < k) × (k < j)
  unfolding apex
  scan_end {k} {x} o n =
      let h = o.high in
      let b = o.below in
      let e : x ≡ j = omega arith in
      (o.is ∙ ap (λ (z : ℕ). choice (P (c i)) (P (c j)) (λ z. P (c z)) (suc i) (z - suc (suc i))) e, o.above, omega arith)

  pub left_is : {a b d k : ℕ} → a ≡ c i → b ≡ c j → d ≡ c k → {t : Bool} → t ≡ posb (orient (P a) (P b) (P d)) → t ≡ left_of P (c i) (c j) (c k)
  unfolding left_of
  left_is ea eb ed et = et ∙ rw (ea, eb, ed)
