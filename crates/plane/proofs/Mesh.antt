-- This is the count behind COVER. What is antisymmetric cancels on the inner edges of a tiling, and what crosses its boundary is known.
-- So a place strictly inside the base that lies on no line of an edge, and level with no point, lies strictly inside exactly one triangle.
-- Assumes nothing.
use mathlib.Core.Path.{◌≡◌, refl, sym, ap, ap₂, ◌∙◌, subst}
use mathlib.Core.Bool.{Bool, true, false, cond}
use mathlib.Core.List.{[], ◌∷◌}
use Prim.Native.Nat.{ℕ, ◌+◌, ◌*◌, ◌<◌}
use lib.IntN.{ℤ, pos, ◌+ℤ◌, ◌-ℤ◌, ◌*ℤ◌, neg_ℤ, ℤ_discrete, +ℤ_idr}
use Rattle.algebra.specs.Order.{Pos}
use Rattle.algebra.specs.Sum.{sum_to}
use Rattle.algebra.proofs.Laws.{eq_of_sub_zero}
use Rattle.algebra.proofs.Ring.{var, con, ◌⊕◌, ◌⊖◌, ◌⊗◌, ⊝◌, solve}
use Rattle.algebra.proofs.Order.{not_zero}
use Rattle.algebra.proofs.Sum.{sum_cong, sum_add, sum_neg, sum_mul, sum_zero, sum_three, unmated}
use Rattle.plane.specs.Points.{Pt}
use Rattle.plane.specs.Determinants.{orient}
use Rattle.plane.specs.Places.{Place, line}
use Rattle.plane.specs.Base.{Side, s0, s1, s2, next, On, Within}
use Rattle.plane.specs.Mesh.{Mesh, Covers, whole, area}
use Rattle.plane.proofs.Polynomials.{orient_e, by4}
use Rattle.plane.proofs.Orient.{orient_swap, orient_sum, thin_aba, thin_abb}
use Rattle.plane.proofs.Sign.{posb_yes, ind}
use Rattle.plane.proofs.Crossed.{above, inside, cross, cross_anti, cross_tri, cross_side, prim}
use Rattle.plane.proofs.Base.{base_turned, flat_a, flat_b, corner, zero_cancel}
use Rattle.plane.proofs.Halfedges.{third, third1, third2}

-- This adds a function of an edge over the three edges of a triangle.
abbrev around : (Pt ℤ → Pt ℤ → ℤ) → Pt ℤ → Pt ℤ → Pt ℤ → ℤ
around φ a b c = φ a b +ℤ φ b c +ℤ φ c a

-- This is a function of three corners, taken at triangle t.
abbrev tri : {X : Type 0} → Mesh → (Pt ℤ → Pt ℤ → Pt ℤ → X) → ℕ → X
tri m f t = f (m.org (3 * t)) (m.org (3 * t + 1)) (m.org (3 * t + 2))

pick : {A X : Type 0} → Dec A → X → X → X
pick (yes a) x y = x
pick (no f) x y = y

pick_elim : {A X : Type 0} (d : Dec A) (x y : X) (P : X → Type 0) → (A → P x) → (¬ A → P y) → P (pick d x y)
unfolding pick
pick_elim (yes a) x y P f g = f a
pick_elim (no n) x y P f g = g n

sub_neg : (a b : ℤ) → a -ℤ b ≡ neg_ℤ (b -ℤ a)
sub_neg a b = solve (var 0 ⊖ var 1) (⊝ (var 1 ⊖ var 0)) (a ∷ b ∷ []) tt

shifted : (a b c : ℤ) → a -ℤ b ≡ (a +ℤ c) -ℤ (b +ℤ c)
shifted a b c = solve (var 0 ⊖ var 1) (var 0 ⊕ var 2 ⊖ (var 1 ⊕ var 2)) (a ∷ b ∷ c ∷ []) tt

telescope : (a b c : ℤ) → (b -ℤ a) +ℤ (c -ℤ b) +ℤ (a -ℤ c) ≡ pos 0
telescope a b c = solve (var 1 ⊖ var 0 ⊕ (var 2 ⊖ var 1) ⊕ (var 0 ⊖ var 2)) (con (pos 0)) (a ∷ b ∷ c ∷ []) tt

-- Given a function on each side, this adds its differences along the three sides.
total : (Side → Pt ℤ) → (Side → Pt ℤ → ℤ) → ℤ
total b F = (F s0 (b s1) -ℤ F s0 (b s0)) +ℤ (F s1 (b s2) -ℤ F s1 (b s1)) +ℤ (F s2 (b s0) -ℤ F s2 (b s2))

module _ (m : Mesh) (ok : Covers m) where
  -- What is antisymmetric cancels on the inner edges.
  boundary : (φ : Pt ℤ → Pt ℤ → ℤ) → ((u v : Pt ℤ) → φ u v ≡ neg_ℤ (φ v u)) →
      sum_to m.tris (tri m (around φ)) ≡ sum_to (3 * m.tris) (λ h. cond (m.has h) (pos 0) (φ (m.org h) (m.dst h)))
  boundary φ anti =
      sum_cong m.tris (tri m (around φ)) (λ t. f (3 * t) +ℤ f (3 * t + 1) +ℤ f (3 * t + 2))
      (λ t l. sym (ap₂ (λ (x y : ℤ). x +ℤ y)
      (ap₂ (λ (x y : ℤ). x +ℤ y) (ap (φ (m.org (3 * t))) (ok.dst0 t l)) (ap (φ (m.org (3 * t + 1))) (ok.dst1 t l)))
      (ap (φ (m.org (3 * t + 2))) (ok.dst2 t l)))) ∙
      sym (sum_three m.tris f) ∙
      unmated (3 * m.tris) m.has m.mate ok.mate_low ok.mate_has ok.mate_mate f
      (λ h l e. ap₂ φ (ok.mate_org h l e) (ok.mate_dst h l e) ∙ anti (m.dst h) (m.org h))
    where
      f : ℕ → ℤ
      f h = φ (m.org h) (m.dst h)

  abbrev B : Side → Pt ℤ
  B = m.base

  turned : (i : Side) → Pos (orient (B i) (B (next i)) (B (next (next i))))
  turned = base_turned B ok.base_ccw

  -- ---- a function on each side, whose differences along the base add to zero

  module _ (F : Side → Pt ℤ → ℤ) (t0 : total m.base F ≡ pos 0) where
    -- Moved by a constant each, the three functions agree at the corners.
    off : Side → ℤ
    off s0 = pos 0
    off s1 = F s0 (B s1) -ℤ F s1 (B s1)
    off s2 = F s0 (B s0) -ℤ F s2 (B s0)

    G : Side → Pt ℤ → ℤ
    G i p = F i p +ℤ off i

    agree1 : G s0 (B s1) ≡ G s1 (B s1)
    unfolding G off
    agree1 = solve (var 0 ⊕ con (pos 0)) (var 1 ⊕ (var 0 ⊖ var 1)) (F s0 (B s1) ∷ F s1 (B s1) ∷ []) tt

    agree0 : G s0 (B s0) ≡ G s2 (B s0)
    unfolding G off
    agree0 = solve (var 0 ⊕ con (pos 0)) (var 1 ⊕ (var 0 ⊖ var 1)) (F s0 (B s0) ∷ F s2 (B s0) ∷ []) tt

    agree2 : G s1 (B s2) ≡ G s2 (B s2)
    unfolding G off total
    agree2 =
        solve (var 3 ⊕ (var 0 ⊖ var 2)) (var 5 ⊕ (var 1 ⊖ var 4) ⊕ (var 0 ⊖ var 1 ⊕ (var 3 ⊖ var 2) ⊕ (var 4 ⊖ var 5)))
        (F s0 (B s1) ∷ F s0 (B s0) ∷ F s1 (B s1) ∷ F s1 (B s2) ∷ F s2 (B s0) ∷ F s2 (B s2) ∷ []) tt ∙
        ap (λ (z : ℤ). G s2 (B s2) +ℤ z) t0 ∙ +ℤ_idr (G s2 (B s2))

    -- Two sides meet in a corner.
    meet1 : (p : Pt ℤ) → On B s0 p → On B s1 p → G s0 p ≡ G s1 p
    meet1 p i j = subst (λ (r : Pt ℤ). G s0 r ≡ G s1 r) (sym (corner (B s0) (B s1) (B s2) (turned s0) p i j)) agree1

    meet2 : (p : Pt ℤ) → On B s1 p → On B s2 p → G s1 p ≡ G s2 p
    meet2 p i j = subst (λ (r : Pt ℤ). G s1 r ≡ G s2 r) (sym (corner (B s1) (B s2) (B s0) (turned s1) p i j)) agree2

    meet0 : (p : Pt ℤ) → On B s2 p → On B s0 p → G s0 p ≡ G s2 p
    meet0 p i j = subst (λ (r : Pt ℤ). G s0 r ≡ G s2 r) (sym (corner (B s2) (B s0) (B s1) (turned s2) p i j)) agree0

    on0 : (p : Pt ℤ) → Dec (On B s0 p)
    on0 p = ℤ_discrete (orient (B s0) (B s1) p) (pos 0)

    on1 : (p : Pt ℤ) → Dec (On B s1 p)
    on1 p = ℤ_discrete (orient (B s1) (B s2) p) (pos 0)

    -- This is one function for the three sides.
    g : Pt ℤ → ℤ
    g p = pick (on0 p) (G s0 p) (pick (on1 p) (G s1 p) (G s2 p))

    g_on : (i : Side) (p : Pt ℤ) → On B i p → g p ≡ G i p
    unfolding g
    g_on s0 p h = pick_elim (on0 p) (G s0 p) (pick (on1 p) (G s1 p) (G s2 p)) (λ (z : ℤ). z ≡ G s0 p) (λ e. refl) (λ n. absurd (n h))
    g_on s1 p h =
        pick_elim (on0 p) (G s0 p) (pick (on1 p) (G s1 p) (G s2 p)) (λ (z : ℤ). z ≡ G s1 p) (λ e. meet1 p e h)
        (λ n. pick_elim (on1 p) (G s1 p) (G s2 p) (λ (z : ℤ). z ≡ G s1 p) (λ e. refl) (λ k. absurd (k h)))
    g_on s2 p h =
        pick_elim (on0 p) (G s0 p) (pick (on1 p) (G s1 p) (G s2 p)) (λ (z : ℤ). z ≡ G s2 p) (λ e. meet0 p h e)
        (λ n. pick_elim (on1 p) (G s1 p) (G s2 p) (λ (z : ℤ). z ≡ G s2 p) (λ e. meet2 p e h) (λ k. refl))

    diff_on : (i : Side) (u v : Pt ℤ) → On B i u → On B i v → F i v -ℤ F i u ≡ g v -ℤ g u
    unfolding G
    diff_on i u v j k = shifted (F i v) (F i u) (off i) ∙ sym (ap₂ (λ (x y : ℤ). x -ℤ y) (g_on i v k) (g_on i u j))

    -- The differences along the half-edges with no partner add to zero.
    flux : sum_to (3 * m.tris) (λ h. cond (m.has h) (pos 0) (F (m.side h) (m.dst h) -ℤ F (m.side h) (m.org h))) ≡ pos 0
    flux =
        sum_cong (3 * m.tris) (λ h. cond (m.has h) (pos 0) (F (m.side h) (m.dst h) -ℤ F (m.side h) (m.org h)))
        (λ h. cond (m.has h) (pos 0) (g (m.dst h) -ℤ g (m.org h))) (λ h l. at h l (m.has h) refl) ∙
        sym (boundary (λ u v. g v -ℤ g u) (λ u v. sub_neg (g v) (g u))) ∙
        sum_zero m.tris (tri m (around (λ u v. g v -ℤ g u)))
        (λ t l. telescope (g (m.org (3 * t))) (g (m.org (3 * t + 1))) (g (m.org (3 * t + 2))))
      where
        at : (h : ℕ) → h < 3 * m.tris → (b : Bool) → m.has h ≡ b →
            cond b (pos 0) (F (m.side h) (m.dst h) -ℤ F (m.side h) (m.org h)) ≡ cond b (pos 0) (g (m.dst h) -ℤ g (m.org h))
        at h l true e = refl
        at h l false e = diff_on (m.side h) (m.org h) (m.dst h) (ok.on_org h l e) (ok.on_dst h l e)

-- ---- a place that lies on no line of an edge, and level with no point

pub record Generic (m : Mesh) (q : Place ℤ) : Type 0 where
  pub no_line : (h : ℕ) → h < 3 * m.tris → ¬ (line (m.org h) (m.dst h) q ≡ pos 0)
  pub no_level : (h : ℕ) → h < 3 * m.tris → ¬ (above q (m.org h) ≡ pos 0)
  pub no_base : (i : Side) → ¬ (above q (m.base i) ≡ pos 0)

-- The place lies strictly inside triangle t, as a test.
abbrev pub in_tri : Mesh → Place ℤ → ℕ → Bool
in_tri m q t = inside q (m.org (3 * t)) (m.org (3 * t + 1)) (m.org (3 * t + 2))

fan : (u v b r : Pt ℤ) → orient u v r ≡ (orient b v r -ℤ orient b u r) +ℤ orient u v b
unfolding orient
fan = by4 (λ u v b r. orient_e u v r) (λ u v b r. orient_e b v r ⊖ orient_e b u r ⊕ orient_e u v b) tt

mixed : (d p r a b : ℤ) → d *ℤ (p -ℤ r) -ℤ (a -ℤ b) ≡ (d *ℤ p -ℤ a) -ℤ (d *ℤ r -ℤ b)
mixed d p r a b =
    solve (var 0 ⊗ (var 1 ⊖ var 2) ⊖ (var 3 ⊖ var 4)) (var 0 ⊗ var 1 ⊖ var 3 ⊖ (var 0 ⊗ var 2 ⊖ var 4)) (d ∷ p ∷ r ∷ a ∷ b ∷ []) tt

mixed_neg : (d c o : ℤ) → d *ℤ neg_ℤ c -ℤ neg_ℤ o ≡ neg_ℤ (d *ℤ c -ℤ o)
mixed_neg d c o = solve (var 0 ⊗ (⊝ var 1) ⊖ (⊝ var 2)) (⊝ (var 0 ⊗ var 1 ⊖ var 2)) (d ∷ c ∷ o ∷ []) tt

mixed_sum : (d a b c x y z : ℤ) → (d *ℤ a -ℤ x) +ℤ (d *ℤ b -ℤ y) +ℤ (d *ℤ c -ℤ z) ≡ d *ℤ (a +ℤ b +ℤ c) -ℤ (x +ℤ y +ℤ z)
mixed_sum d a b c x y z =
    solve (var 0 ⊗ var 1 ⊖ var 4 ⊕ (var 0 ⊗ var 2 ⊖ var 5) ⊕ (var 0 ⊗ var 3 ⊖ var 6)) (var 0 ⊗ (var 1 ⊕ var 2 ⊕ var 3) ⊖ (var 4 ⊕ var 5 ⊕ var 6))
    (d ∷ a ∷ b ∷ c ∷ x ∷ y ∷ z ∷ []) tt

minus_one : (d s : ℤ) → d *ℤ (s -ℤ pos 1) ≡ d *ℤ s -ℤ d
minus_one d s = solve (var 0 ⊗ (var 1 ⊖ con (pos 1))) (var 0 ⊗ var 1 ⊖ var 0) (d ∷ s ∷ []) tt

one_minus : (d : ℤ) → d *ℤ pos 1 -ℤ d ≡ pos 0
one_minus d = solve (var 0 ⊗ con (pos 1) ⊖ var 0) (con (pos 0)) (d ∷ []) tt

-- The area between corner 0 and an edge along a side is a difference of this function.
A : (Side → Pt ℤ) → Side → Pt ℤ → ℤ
A b s0 p = pos 0
A b s1 p = orient (b s1) p (b s0)
A b s2 p = pos 0

module _ (m : Mesh) (ok : Covers m) (q : Place ℤ) (w : Pos q.qw) (within : Within m.base q) where
  abbrev C : Side → Pt ℤ
  C = m.base

  area_side : (i : Side) (u v : Pt ℤ) → On C i u → On C i v → orient u v (C s0) ≡ A C i v -ℤ A C i u
  unfolding A
  area_side s0 u v i j = flat_a (C s0) (C s1) (C s2) (turned m ok s0) u v i j
  area_side s1 u v i j =
      fan u v (C s1) (C s0) ∙
      ap (λ (z : ℤ). (orient (C s1) v (C s0) -ℤ orient (C s1) u (C s0)) +ℤ z) (flat_a (C s1) (C s2) (C s0) (turned m ok s1) u v i j) ∙
      +ℤ_idr (orient (C s1) v (C s0) -ℤ orient (C s1) u (C s0))
  area_side s2 u v i j = flat_b (C s2) (C s0) (C s1) (turned m ok s2) u v i j

  -- This is the crossing number, weighed by the area of the base, less the area between the edge and corner 0.
  ψ : Pt ℤ → Pt ℤ → ℤ
  ψ u v = whole m *ℤ cross q u v -ℤ orient u v (C s0)

  ψ-anti : (u v : Pt ℤ) → ψ u v ≡ neg_ℤ (ψ v u)
  unfolding ψ
  ψ-anti u v =
      ap₂ (λ (x y : ℤ). whole m *ℤ x -ℤ y) (cross_anti q u v) (orient_swap u v (C s0)) ∙
      mixed_neg (whole m) (cross q v u) (orient v u (C s0))

  H : Side → Pt ℤ → ℤ
  H i p = whole m *ℤ prim q (C i) (C (next i)) p -ℤ A C i p

  ψ-side : (i : Side) (u v : Pt ℤ) → On C i u → On C i v → ψ u v ≡ H i v -ℤ H i u
  unfolding ψ H
  ψ-side i u v j k =
      ap₂ (λ (x y : ℤ). whole m *ℤ x -ℤ y) (cross_side q (C i) (C (next i)) w (within i) u v j k) (area_side i u v j k) ∙
      mixed (whole m) (prim q (C i) (C (next i)) v) (prim q (C i) (C (next i)) u) (A C i v) (A C i u)

  ψ-tri : (a b c : Pt ℤ) → Pos (orient a b c) →
      ¬ (line a b q ≡ pos 0) → ¬ (line b c q ≡ pos 0) → ¬ (line c a q ≡ pos 0) →
      ¬ (above q a ≡ pos 0) → ¬ (above q b ≡ pos 0) → ¬ (above q c ≡ pos 0) →
      around ψ a b c ≡ whole m *ℤ ind (inside q a b c) -ℤ orient a b c
  unfolding ψ
  ψ-tri a b c o n1 n2 n3 n4 n5 n6 =
      mixed_sum (whole m) (cross q a b) (cross q b c) (cross q c a) (orient a b (C s0)) (orient b c (C s0)) (orient c a (C s0)) ∙
      ap₂ (λ (x y : ℤ). whole m *ℤ x -ℤ y) (cross_tri q a b c w o n1 n2 n3 n4 n5 n6) (orient_sum a b c (C s0))

  module _ (gen : Generic m q) where
    in_base : ind (inside q (C s0) (C s1) (C s2)) ≡ pos 1
    in_base =
        rw (posb_yes (line (C s0) (C s1) q) (within s0), posb_yes (line (C s1) (C s2) q) (within s1), posb_yes (line (C s2) (C s0) q) (within s2))
        refl

    H_total : total m.base H ≡ pos 0
    unfolding total
    H_total =
        sym (ap₂ (λ (x y : ℤ). x +ℤ y) (ap₂ (λ (x y : ℤ). x +ℤ y) (at s0) (at s1)) (at s2)) ∙
        ψ-tri (C s0) (C s1) (C s2) ok.base_ccw (not_zero (within s0)) (not_zero (within s1)) (not_zero (within s2))
        (gen.no_base s0) (gen.no_base s1) (gen.no_base s2) ∙
        ap (λ (z : ℤ). whole m *ℤ z -ℤ whole m) in_base ∙ one_minus (whole m)
      where
        at : (i : Side) → ψ (C i) (C (next i)) ≡ H i (C (next i)) -ℤ H i (C i)
        at i = ψ-side i (C i) (C (next i)) (thin_aba (C i) (C (next i))) (thin_abb (C i) (C (next i)))

    each : (t : ℕ) → t < m.tris → tri m (around ψ) t ≡ whole m *ℤ ind (in_tri m q t) +ℤ neg_ℤ (area m t)
    each t l =
        ψ-tri (m.org (3 * t)) (m.org (3 * t + 1)) (m.org (3 * t + 2)) (ok.ccw t l)
        (λ e. gen.no_line (3 * t) (third t m.tris l) (ap (λ (p : Pt ℤ). line (m.org (3 * t)) p q) (ok.dst0 t l) ∙ e))
        (λ e. gen.no_line (3 * t + 1) (third1 t m.tris l) (ap (λ (p : Pt ℤ). line (m.org (3 * t + 1)) p q) (ok.dst1 t l) ∙ e))
        (λ e. gen.no_line (3 * t + 2) (third2 t m.tris l) (ap (λ (p : Pt ℤ). line (m.org (3 * t + 2)) p q) (ok.dst2 t l) ∙ e))
        (gen.no_level (3 * t) (third t m.tris l)) (gen.no_level (3 * t + 1) (third1 t m.tris l)) (gen.no_level (3 * t + 2) (third2 t m.tris l))

    balance : whole m *ℤ sum_to m.tris (λ t. ind (in_tri m q t)) -ℤ whole m ≡ pos 0
    balance =
        sym
        (sum_cong m.tris (tri m (around ψ)) (λ t. whole m *ℤ ind (in_tri m q t) +ℤ neg_ℤ (area m t)) each ∙
        sum_add m.tris (λ t. whole m *ℤ ind (in_tri m q t)) (λ t. neg_ℤ (area m t)) ∙
        ap₂ (λ (x y : ℤ). x +ℤ y) (sum_mul m.tris (whole m) (λ t. ind (in_tri m q t))) (sum_neg m.tris (area m) ∙ ap neg_ℤ ok.areas)) ∙
        boundary m ok ψ ψ-anti ∙
        sum_cong (3 * m.tris) (λ h. cond (m.has h) (pos 0) (ψ (m.org h) (m.dst h)))
        (λ h. cond (m.has h) (pos 0) (H (m.side h) (m.dst h) -ℤ H (m.side h) (m.org h))) (λ h l. at h l (m.has h) refl) ∙
        flux m ok H H_total
      where
        at : (h : ℕ) → h < 3 * m.tris → (b : Bool) → m.has h ≡ b →
            cond b (pos 0) (ψ (m.org h) (m.dst h)) ≡ cond b (pos 0) (H (m.side h) (m.dst h) -ℤ H (m.side h) (m.org h))
        at h l true e = refl
        at h l false e = ψ-side (m.side h) (m.org h) (m.dst h) (ok.on_org h l e) (ok.on_dst h l e)

    -- COVER of such a place: the number of triangles that it lies strictly inside is one.
    pub cover : sum_to m.tris (λ t. ind (in_tri m q t)) ≡ pos 1
    cover =
        eq_of_sub_zero (sum_to m.tris (λ t. ind (in_tri m q t))) (pos 1)
        (zero_cancel ok.base_ccw (minus_one (whole m) (sum_to m.tris (λ t. ind (in_tri m q t))) ∙ balance))
