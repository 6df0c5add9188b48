-- Location never fails: the walk and the scan behind it end in a triangle that holds the point. Assumes nothing.
use mathlib.Core.Bool.{Bool, true, false, cond, ◌&&◌, not, true≢false, false≢true}
use mathlib.Core.Path.{◌≡◌, refl, sym, ap, ◌∙◌, subst}
use Prim.Native.Nat.{ℕ, zero, suc, ◌+◌, ◌*◌, ◌/◌, ◌<◌}
use native.Mathlib.Decide.{dec_lt}
use native.Mathlib.Omega.{arith}
use lib.IntN.{ℤ, neg_ℤ}
use Rattle.algebra.proofs.Order.{Sign, is_pos, is_below_zero, is_zero, sign, pos_nn}
use Rattle.algebra.proofs.Tests.{by_test}
use Rattle.algebra.specs.Order.{NonNeg}
use Rattle.algebra.specs.Tests.{posb}
use Rattle.plane.proofs.Halfedges.{nxt0, nxt1, nxt2}
use Rattle.plane.proofs.Sign.{posb_yes, posb_pos, nn_zero, nn_clash}
use Rattle.plane.specs.Base.{Side, next}
use Rattle.plane.specs.Determinants.{orient}
use Rattle.plane.specs.Halfedges.{nxt}
use Rattle.plane.specs.Points.{Pt}
use Rattle.nets.specs.Building.{Holds}
use Rattle.nets.specs.Location.{beyond, holds, or_else, slot_of, over, step, walk, scan, locate}
use Rattle.nets.specs.Nets.{Net}
use Rattle.nets.specs.Tilings.{Tiling}
use Rattle.nets.proofs.Locate.{located}

-- ---- the test of a triangle

not_right : (z : ℤ) → posb (neg_ℤ z) ≡ false → NonNeg z
not_right z e = go (sign z)
  where
    go : Sign z → NonNeg z
    go (is_pos p) = pos_nn p
    go (is_zero r) = nn_zero z r
    go (is_below_zero n) = absurd (true≢false (sym (posb_yes (neg_ℤ z) n) ∙ e))

not_left : (z : ℤ) → NonNeg z → posb (neg_ℤ z) ≡ false
not_left z o = by_test (posb (neg_ℤ z)) (λ e. nn_clash z o (posb_pos (neg_ℤ z) e)) (λ e. e)

none_of : (a b c : Bool) → (not a && not b && not c) ≡ true → (a ≡ false) × (b ≡ false) × (c ≡ false)
none_of false false false e = (refl, refl, refl)
none_of true b c e = absurd (false≢true e)
none_of false true c e = absurd (false≢true e)
none_of false false true e = absurd (false≢true e)

module _ (P : ℕ → Pt ℤ) (m : Net) (p : Pt ℤ) where
  abbrev O : ℕ → ℤ
  O h = orient (P (m.org h)) (P (m.org (nxt h))) p

  pub holds_is : (t : ℕ) → holds P m p t ≡ true → Holds P m p t
  unfolding holds beyond
  holds_is t e =
      let k = none_of (beyond P m p (3 * t)) (beyond P m p (3 * t + 1)) (beyond P m p (3 * t + 2)) e in record {
        ab = rw (nxt0 t) at (not_right (O (3 * t)) k.0);
        bc = rw (nxt1 t) at (not_right (O (3 * t + 1)) k.1);
        ca = rw (nxt2 t) at (not_right (O (3 * t + 2)) k.2);
      }

  pub is_holds : (t : ℕ) → Holds P m p t → holds P m p t ≡ true
  unfolding holds beyond
  is_holds t h =
      let a : beyond P m p (3 * t) ≡ false = not_left (O (3 * t)) (rw (nxt0 t) h.ab) in
      let b : beyond P m p (3 * t + 1) ≡ false = not_left (O (3 * t + 1)) (rw (nxt1 t) h.bc) in
      let c : beyond P m p (3 * t + 2) ≡ false = not_left (O (3 * t + 2)) (rw (nxt2 t) h.ca) in
      rw (a, b, c)

  -- ---- the scan

  no_suc : {X : Type 0} (x : ℕ) → 0 ≡ suc x → X
  no_suc x i = absurd (let z : ◌≡◌ {A = ℕ} 0 (suc x) = i in let f : ⊥ = omega arith in f)

  suc_inj : (a b : ℕ) → suc a ≡ suc b → a ≡ b
  suc_inj a b e = omega arith

  abbrev Found : ℕ → ℕ → Type 0
  Found k x = (t : ℕ) × (x ≡ suc t) × (t < k) × (holds P m p t ≡ true)

  scan_holds : (k t : ℕ) → scan P m p k ≡ suc t → (t < k) × (holds P m p t ≡ true)
  unfolding scan
  scan_holds zero t e = no_suc t e
  scan_holds (suc k) t e = go (scan P m p k) refl (scan_holds k t)
    where
      go : (x : ℕ) → scan P m p k ≡ x → (scan P m p k ≡ suc t → (t < k) × (holds P m p t ≡ true)) → (t < suc k) × (holds P m p t ≡ true)
      go (suc s) i ih =
          let q : s ≡ t = suc_inj s t (sym (ap (λ (u : ℕ). or_else u (cond (holds P m p k) (suc k) 0)) i) ∙ e) in
          let f = ih (i ∙ ap suc q) in (let l = f.0 in omega arith, f.1)
      go zero i ih =
          let c : cond (holds P m p k) (suc k) 0 ≡ suc t = sym (ap (λ (u : ℕ). or_else u (cond (holds P m p k) (suc k) 0)) i) ∙ e in
          by_test (holds P m p k)
          (λ h. let q : k ≡ t = suc_inj k t (sym (ap (λ (b : Bool). cond b (suc k) 0) h) ∙ c) in (omega arith, subst (λ (u : ℕ). holds P m p u ≡ true) q h))
          (λ h. no_suc t (sym (ap (λ (b : Bool). cond b (suc k) 0) h) ∙ c))

  scan_finds : (k t : ℕ) → t < k → holds P m p t ≡ true → Found k (scan P m p k)
  unfolding scan
  scan_finds zero t l h = absurd (let f : ⊥ = omega arith in f)
  scan_finds (suc k) t l h = go (scan P m p k) refl (λ b. scan_finds k t b h) (dec_lt t k)
    where
      more : (x : ℕ) → Found k x → (y : ℕ) → Found (suc k) (or_else x y)
      more x f y = let e = f.1 in (f.0, subst (λ (u : ℕ). or_else u y ≡ suc f.0) (sym e) refl, let l = f.2 in omega arith, f.3)

      go : (x : ℕ) → scan P m p k ≡ x → (t < k → Found k (scan P m p k)) → Dec (t < k) → Found (suc k) (or_else (scan P m p k) (cond (holds P m p k) (suc k) 0))
      go x e ih (yes b) = more (scan P m p k) (ih b) (cond (holds P m p k) (suc k) 0)
      go x e ih (no b) = last x e (let i : t ≡ k = omega arith in i)
        where
          last : (x : ℕ) → scan P m p k ≡ x → t ≡ k → Found (suc k) (or_else (scan P m p k) (cond (holds P m p k) (suc k) 0))
          last zero e i =
              let h' : holds P m p k ≡ true = subst (λ (u : ℕ). holds P m p u ≡ true) i h in
              (k, ap (λ (u : ℕ). or_else u (cond (holds P m p k) (suc k) 0)) e ∙ ap (λ (b : Bool). cond b (suc k) 0) h', omega arith, h')
          last (suc s) e i = let f = scan_holds k s e in (s, ap (λ (u : ℕ). or_else u (cond (holds P m p k) (suc k) 0)) e, let l = f.0 in omega arith, f.1)

  -- ---- the walk

  module _ (low : (h g : ℕ) → h < 3 * m.tris → m.adj h ≡ suc g → g < 3 * m.tris) where
    over_low : (h s : ℕ) → h < 3 * m.tris → over P m p h ≡ suc s → s < m.tris
    over_low h s b e = by_test (beyond P m p h) (λ y. go (m.adj h) refl (sym (ap (λ (x : Bool). cond x (slot_of (m.adj h)) 0) y) ∙ e))
        (λ y. no_suc s (sym (ap (λ (x : Bool). cond x (slot_of (m.adj h)) 0) y) ∙ e))
      where
        go : (a : ℕ) → m.adj h ≡ a → slot_of (m.adj h) ≡ suc s → s < m.tris
        go zero i q = no_suc s (sym (ap slot_of i) ∙ q)
        go (suc g) i q = let l = low h g b i in let z : g / 3 ≡ s = suc_inj (g / 3) s (sym (ap slot_of i) ∙ q) in omega arith

    or_low : (x y s : ℕ) → ((s : ℕ) → x ≡ suc s → s < m.tris) → ((s : ℕ) → y ≡ suc s → s < m.tris) → or_else x y ≡ suc s → s < m.tris
    or_low zero y s f g e = g s e
    or_low (suc x) y s f g e = f s e

    pub step_low : (t s : ℕ) → t < m.tris → step P m p t ≡ suc s → s < m.tris
    unfolding step
    step_low t s b e =
        or_low (over P m p (3 * t)) (or_else (over P m p (3 * t + 1)) (over P m p (3 * t + 2))) s (λ s. over_low (3 * t) s (omega arith))
        (λ s. or_low (over P m p (3 * t + 1)) (over P m p (3 * t + 2)) s (λ s. over_low (3 * t + 1) s (omega arith)) (λ s. over_low (3 * t + 2) s (omega arith))) e

    walk_none : (cap t : ℕ) → walk P m p cap 0 ≡ suc t → ⊥
    unfolding walk
    walk_none zero t e = no_suc t e
    walk_none (suc cap) t e = no_suc t e

    walk_holds : (cap at t : ℕ) → ((s : ℕ) → at ≡ suc s → s < m.tris) → walk P m p cap at ≡ suc t → (t < m.tris) × (holds P m p t ≡ true)
    unfolding walk
    walk_holds zero at t l e = no_suc t e
    walk_holds (suc cap) zero t l e = no_suc t e
    walk_holds (suc cap) (suc s) t l e =
        by_test (holds P m p s)
        (λ h. let q : s ≡ t = suc_inj s t (sym (ap (λ (b : Bool). cond b (suc s) (walk P m p cap (step P m p s))) h) ∙ e) in
        (subst (λ (u : ℕ). u < m.tris) q (l s refl), subst (λ (u : ℕ). holds P m p u ≡ true) q h))
        (λ h. walk_holds cap (step P m p s) t (λ u. step_low s u (l s refl)) (sym (ap (λ (b : Bool). cond b (suc s) (walk P m p cap (step P m p s))) h) ∙ e))

-- ---- location

module _ {P : ℕ → Pt ℤ} {B : Side → Pt ℤ} {k : ℕ} {m : Net} (v : Tiling P B k m) (p : Pt ℤ) (within : (i : Side) → NonNeg (orient (B i) (B (next i)) p)) where
  pub located_by : (z : ℕ) → z < m.tris → (t : ℕ) × (t < m.tris) × (locate P m p z ≡ suc t) × Holds P m p t
  unfolding locate
  located_by z zb = go (walk P m p (4 * m.tris + 16) (suc z)) refl
    where
      by_scan : (t : ℕ) × (t < m.tris) × (scan P m p m.tris ≡ suc t) × Holds P m p t
      by_scan =
          let r = located v p within in
          let f = scan_finds P m p m.tris r.0 r.1 (is_holds P m p r.0 r.2) in
          (f.0, f.2, f.1, holds_is P m p f.0 f.3)

      inj : (a b : ℕ) → suc a ≡ suc b → a ≡ b
      inj a b e = omega arith

      go : (x : ℕ) → walk P m p (4 * m.tris + 16) (suc z) ≡ x → (t : ℕ) × (t < m.tris) × (or_else (walk P m p (4 * m.tris + 16) (suc z)) (scan P m p m.tris) ≡ suc t) × Holds P m p t
      go zero e = let r = by_scan in (r.0, r.1, ap (λ (x : ℕ). or_else x (scan P m p m.tris)) e ∙ r.2, r.3)
      go (suc t) e =
          let r = walk_holds P m p v.linked.low (4 * m.tris + 16) (suc z) t (λ s q. subst (λ (u : ℕ). u < m.tris) (inj z s q) zb) e in
          (t, r.0, ap (λ (x : ℕ). or_else x (scan P m p m.tris)) e, holds_is P m p t r.1)
