-- In a tiling, a pair with an entry edge is no edge: near a and close to the segment there is a place strictly inside both triangles. Assumes
-- nothing.
use mathlib.Core.Bool.{true}
use mathlib.Core.List.{List, [], ◌∷◌}
use mathlib.Core.Logic.{inl, inr}
use mathlib.Core.Path.{◌≡◌, refl, sym, ap, ◌∙◌, subst}
use Prim.Native.Nat.{ℕ, ◌+◌, ◌*◌, ◌/◌, ◌<◌}
use native.Mathlib.Omega.{arith}
use lib.IntN.{ℤ, pos, ◌+ℤ◌, ◌*ℤ◌, neg_ℤ, nat_abs}
use Rattle.algebra.proofs.Order.{pos_by, nn_pos, nn+nn, nn+pos, pos*pos, not_zero}
use Rattle.algebra.proofs.Ring.{var, con, ◌⊕◌, ◌⊗◌, ⊝◌, solve}
use Rattle.algebra.specs.Order.{Pos, NonNeg}
use Rattle.plane.proofs.Cover.{inside_of}
use Rattle.plane.proofs.Halfedges.{nxt0, nxt1, nxt2}
use Rattle.plane.proofs.Inner.{disjoint}
use Rattle.plane.proofs.Mesh.{in_tri}
use Rattle.plane.proofs.Near.{pos_num, dom}
use Rattle.plane.proofs.Orient.{orient_cyc, thin_aab, thin_aba, thin_abb}
use Rattle.plane.proofs.Polynomials.{PtE, orient_e, line_e, by3}
use Rattle.plane.specs.Base.{Side, next}
use Rattle.plane.specs.Determinants.{orient}
use Rattle.plane.specs.Halfedges.{nxt}
use Rattle.plane.specs.Inside.{Strictly}
use Rattle.plane.specs.Places.{Place, line}
use Rattle.plane.specs.Points.{Pt}
use Rattle.tables.proofs.Table.{not_outside}
use Rattle.tables.specs.Data.{point_count, point, base}
use Rattle.tables.specs.Figures.{Figure}
use Rattle.nets.specs.Nets.{Net, dst, prv}
use Rattle.nets.specs.Tilings.{Tiling}
use Rattle.nets.proofs.Covered.{mesh, covers}
use Rattle.nets.proofs.Slot.{nxt_in, nxt_three, Turn, it, one, two, turn, Edge, e0, e1, e2, edge}
use Rattle.nets.proofs.Tile.{from, tri_from}
use Rattle.chains.specs.Sticking.{Leaves}
use Rattle.looks.specs.Around.{Between}

-- ---- the place with the weights L at a, K at b and 1 at c

unfoldable toward : ℕ → ℕ → Pt ℤ → Pt ℤ → Pt ℤ → Place ℤ
toward L K a b c = record {
  qx = pos L *ℤ a.x +ℤ pos K *ℤ b.x +ℤ c.x;
  qy = pos L *ℤ a.y +ℤ pos K *ℤ b.y +ℤ c.y;
  qw = pos L +ℤ pos K +ℤ pos 1;
}

vp : ℕ → PtE
vp i = record { x = var (2 * i); y = var (2 * i + 1) }

toward_line : (L K : ℕ) (u v a b c : Pt ℤ) → line u v (toward L K a b c) ≡ pos L *ℤ orient u v a +ℤ (pos K *ℤ orient u v b +ℤ orient u v c)
unfolding line orient toward vp
toward_line L K u v a b c =
    solve (line_e (vp 0) (vp 1) (record { qx = var 10 ⊗ var 4 ⊕ var 11 ⊗ var 6 ⊕ var 8; qy = var 10 ⊗ var 5 ⊕ var 11 ⊗ var 7 ⊕ var 9; qw = var 10 ⊕ var 11 ⊕ con (pos 1) }))
    (var 10 ⊗ orient_e (vp 0) (vp 1) (vp 2) ⊕ (var 11 ⊗ orient_e (vp 0) (vp 1) (vp 3) ⊕ orient_e (vp 0) (vp 1) (vp 4)))
    (u.x ∷ u.y ∷ v.x ∷ v.y ∷ a.x ∷ a.y ∷ b.x ∷ b.y ∷ c.x ∷ c.y ∷ pos L ∷ pos K ∷ []) tt

three_sum : (x y z : ℤ) {p q r : ℤ} → p ≡ x → q ≡ y → r ≡ z → (L K : ℕ) → pos L *ℤ p +ℤ (pos K *ℤ q +ℤ r) ≡ pos L *ℤ x +ℤ (pos K *ℤ y +ℤ z)
three_sum x y z e f g L K = rw (e, f, g)

module _ (L K : ℕ) (a b c : Pt ℤ) where
  only_c : (u v : Pt ℤ) → orient u v a ≡ pos 0 → orient u v b ≡ pos 0 → line u v (toward L K a b c) ≡ orient u v c
  only_c u v e f = toward_line L K u v a b c ∙ three_sum (pos 0) (pos 0) (orient u v c) e f refl L K ∙
      solve (var 0 ⊗ con (pos 0) ⊕ (var 1 ⊗ con (pos 0) ⊕ var 2)) (var 2) (pos L ∷ pos K ∷ orient u v c ∷ []) tt

  only_b : (u v : Pt ℤ) → orient u v a ≡ pos 0 → orient u v c ≡ pos 0 → line u v (toward L K a b c) ≡ pos K *ℤ orient u v b
  only_b u v e f = toward_line L K u v a b c ∙ three_sum (pos 0) (orient u v b) (pos 0) e refl f L K ∙
      solve (var 0 ⊗ con (pos 0) ⊕ (var 1 ⊗ var 2 ⊕ con (pos 0))) (var 1 ⊗ var 2) (pos L ∷ pos K ∷ orient u v b ∷ []) tt

  only_a : (u v : Pt ℤ) → orient u v b ≡ pos 0 → orient u v c ≡ pos 0 → line u v (toward L K a b c) ≡ pos L *ℤ orient u v a
  only_a u v e f = toward_line L K u v a b c ∙ three_sum (orient u v a) (pos 0) (pos 0) refl e f L K ∙
      solve (var 0 ⊗ var 2 ⊕ (var 1 ⊗ con (pos 0) ⊕ con (pos 0))) (var 0 ⊗ var 2) (pos L ∷ pos K ∷ orient u v a ∷ []) tt

  without_a : (u v : Pt ℤ) → orient u v a ≡ pos 0 → line u v (toward L K a b c) ≡ pos K *ℤ orient u v b +ℤ orient u v c
  without_a u v e = toward_line L K u v a b c ∙ three_sum (pos 0) (orient u v b) (orient u v c) e refl refl L K ∙
      solve (var 0 ⊗ con (pos 0) ⊕ (var 1 ⊗ var 2 ⊕ var 3)) (var 1 ⊗ var 2 ⊕ var 3) (pos L ∷ pos K ∷ orient u v b ∷ orient u v c ∷ []) tt

  -- it lies in the triangle a b c, and turned over in b a c
  in_left : 0 < L → 0 < K → Pos (orient a b c) → Strictly (toward L K a b c) a b c
  in_left l k o = record {
    ab = pos_by (only_c a b (thin_aba a b) (thin_abb a b)) o;
    bc = pos_by (only_a b c (thin_aba b c) (thin_abb b c)) (pos*pos (pos_num L l) (pos_by (sym (orient_cyc a b c)) o));
    ca = pos_by (only_b c a (thin_abb c a) (thin_aba c a)) (pos*pos (pos_num K k) (pos_by (orient_cyc c a b) o));
  }

  in_right : 0 < L → 0 < K → Pos (orient b a c) → Strictly (toward L K a b c) b a c
  in_right l k o = record {
    ab = pos_by (only_c b a (thin_abb b a) (thin_aba b a)) o;
    bc = pos_by (only_b a c (thin_aba a c) (thin_abb a c)) (pos*pos (pos_num K k) (pos_by (sym (orient_cyc b a c)) o));
    ca = pos_by (only_a c b (thin_abb c b) (thin_aba c b)) (pos*pos (pos_num L l) (pos_by (orient_cyc c b a) o));
  }

  -- and in a triangle a u v that the segment from a to b leaves between u and v, for great K and L
  in_wedge : (u v : Pt ℤ) → nat_abs (orient a u c) < K → nat_abs (orient v a c) < K → nat_abs (pos K *ℤ orient u v b +ℤ orient u v c) < L
      → Pos (orient a u b) → Pos (orient v a b) → Pos (orient a u v) → Strictly (toward L K a b c) a u v
  in_wedge u v i j l r s o = record {
    ab = pos_by (without_a a u (thin_aba a u)) (dom K (orient a u b) (orient a u c) i r);
    bc = pos_by (toward_line L K u v a b c) (dom L (orient u v a) (pos K *ℤ orient u v b +ℤ orient u v c) l (pos_by (sym (orient_cyc a u v)) o));
    ca = pos_by (without_a v a (thin_abb v a)) (dom K (orient v a b) (orient v a c) j s);
  }

right : (a b u : Pt ℤ) → orient a u b ≡ neg_ℤ (orient a b u)
unfolding orient
right = by3 (λ a b u. orient_e a u b) (λ a b u. ⊝ orient_e a b u) tt

strictly_turn : (q : Place ℤ) (a b c : Pt ℤ) → Strictly q a b c → Strictly q b c a
strictly_turn q a b c s = record { ab = s.bc; bc = s.ca; ca = s.ab }

-- ---- the two triangles

module _ {P : ℕ → Pt ℤ} {B : Side → Pt ℤ} {k : ℕ} {m : Net} (tiling : Tiling P B k m)
    (inn : (u : ℕ) → u < k → (i : Side) → NonNeg (orient (B i) (B (next i)) (P u))) where
  -- a place in the triangle of a half-edge
  in_slot : (q : Place ℤ) (h : ℕ) → from P m (Strictly q) h → in_tri (mesh P B m) q (h / 3) ≡ true
  unfolding mesh
  in_slot q h s = inside_of q (o (3 * t)) (o (3 * t + 1)) (o (3 * t + 2)) (go (edge t h refl))
    where
      t : ℕ
      t = h / 3

      o : ℕ → Pt ℤ
      o x = P (m.org x)

      moved : {x : ℕ} → h ≡ x → Strictly q (P (m.org x)) (P (m.org (nxt x))) (P (m.org (nxt (nxt x))))
      moved e = subst (λ (x : ℕ). Strictly q (P (m.org x)) (P (m.org (nxt x))) (P (m.org (nxt (nxt x))))) e s

      go : Edge t h → Strictly q (P (m.org (3 * t))) (P (m.org (3 * t + 1))) (P (m.org (3 * t + 2)))
      go (e0 e) = rw (nxt0 t, nxt1 t) at (moved e)
      go (e1 e) = strictly_turn q (o (3 * t + 2)) (o (3 * t)) (o (3 * t + 1)) (strictly_turn q (o (3 * t + 1)) (o (3 * t + 2)) (o (3 * t)) (rw (nxt1 t, nxt2 t) at (moved e)))
      go (e2 e) = strictly_turn q (o (3 * t + 2)) (o (3 * t)) (o (3 * t + 1)) (rw (nxt2 t, nxt0 t) at (moved e))

  tri_pos : (h : ℕ) → h < 3 * m.tris → Pos (from P m orient h)
  tri_pos h b = pos_by (sym (tri_from P m orient orient_cyc h)) (tiling.ccw (h / 3) (let z : h / 3 < m.tris = omega arith in z))

  -- half-edges g and h of two triangles that a place lies strictly inside
  same_slot : (q : Place ℤ) → Pos q.qw → (g h : ℕ) → g < 3 * m.tris → h < 3 * m.tris → from P m (Strictly q) g → from P m (Strictly q) h → h / 3 ≡ g / 3
  unfolding mesh
  same_slot q w g h l n s t =
      disjoint (mesh P B m) (covers tiling) (λ x l i. inn (m.org x) (tiling.corners x l) i) q w (h / 3) (g / 3)
      (let z : h / 3 < m.tris = omega arith in z) (let z : g / 3 < m.tris = omega arith in z)
      (in_slot q h t) (in_slot q g s)

  weight : (L K : ℕ) (a b c : Pt ℤ) → Pos (toward L K a b c).qw
  unfolding toward
  weight L K a b c = nn+pos (nn+nn (nn_pos L) (nn_pos K)) (pos_num 1 (omega arith))

  -- g leaves a; the line from a to b has the end of g strictly right and the third corner strictly left
  module _ (g h : ℕ) (gl : g < 3 * m.tris) (hl : h < 3 * m.tris) where
    abbrev pa : Pt ℤ
    pa = P (m.org g)

    abbrev pu : Pt ℤ
    pu = P (m.org (nxt g))

    abbrev pv : Pt ℤ
    pv = P (m.org (nxt (nxt g)))

    abbrev pc : Pt ℤ
    pc = P (m.org (nxt (nxt h)))

    great : Pt ℤ → ℕ
    great b = 1 + nat_abs (orient pa pu pc) + nat_abs (orient pv pa pc)

    greater : Pt ℤ → ℕ
    greater b = 1 + nat_abs (pos (great b) *ℤ orient pu pv b +ℤ orient pu pv pc)

    in_g : (b : Pt ℤ) → Pos (neg_ℤ (orient pa b pu)) → Pos (orient pa b pv) → Strictly (toward (greater b) (great b) pa b pc) pa pu pv
    unfolding great greater
    in_g b r l =
        in_wedge (greater b) (great b) pa b pc pu pv (omega arith) (omega arith) (omega arith) (pos_by (right pa b pu) r) (pos_by (orient_cyc pv pa b) l) (tri_pos g gl)

    slot_left : (b : Pt ℤ) → Pos (neg_ℤ (orient pa b pu)) → Pos (orient pa b pv) → P (m.org h) ≡ pa → P (m.org (nxt h)) ≡ b → h / 3 ≡ g / 3
    unfolding great greater
    slot_left b r l e f =
        same_slot (toward (greater b) (great b) pa b pc) (weight (greater b) (great b) pa b pc) g h gl hl (in_g b r l)
        (rw (e, f) (in_left (greater b) (great b) pa b pc (omega arith) (omega arith) (rw (e, f) at (tri_pos h hl))))

    slot_right : (b : Pt ℤ) → Pos (neg_ℤ (orient pa b pu)) → Pos (orient pa b pv) → P (m.org h) ≡ b → P (m.org (nxt h)) ≡ pa → h / 3 ≡ g / 3
    unfolding great greater
    slot_right b r l e f =
        same_slot (toward (greater b) (great b) pa b pc) (weight (greater b) (great b) pa b pc) g h gl hl (in_g b r l)
        (rw (e, f) (in_right (greater b) (great b) pa b pc (omega arith) (omega arith) (rw (e, f) at (tri_pos h hl))))

    zero_pos : {z : ℤ} → z ≡ pos 0 → ¬ Pos z
    zero_pos e p = not_zero p e

    zero_neg : {z : ℤ} → z ≡ pos 0 → ¬ Pos (neg_ℤ z)
    zero_neg e p = not_zero p (ap neg_ℤ e)

    not_out : (b : ℕ) → Pos (neg_ℤ (orient pa (P b) pu)) → Pos (orient pa (P b) pv) → m.org h ≡ m.org g → dst m h ≡ b → ⊥
    not_out b r l e f = go (turn g h (slot_left (P b) r l (ap P e) (ap P f)))
      where
        go : Turn g h → ⊥
        go (it z) = zero_neg (ap (λ (x : ℕ). orient pa (P x) pu) (sym f ∙ ap (λ (x : ℕ). m.org (nxt x)) z) ∙ thin_abb pa pu) r
        go (one z) = zero_neg (ap (λ (x : ℕ). orient pa (P b) (P x)) (sym (ap m.org z) ∙ e) ∙ thin_aba pa (P b)) r
        go (two z) = zero_pos (ap (λ (x : ℕ). orient pa (P b) (P x)) (sym (ap m.org z) ∙ e) ∙ thin_aba pa (P b)) l

    not_back : (b : ℕ) → Pos (neg_ℤ (orient pa (P b) pu)) → Pos (orient pa (P b) pv) → m.org h ≡ b → dst m h ≡ m.org g → ⊥
    not_back b r l e f = go (turn g h (slot_right (P b) r l (ap P e) (ap P f)))
      where
        go : Turn g h → ⊥
        go (it z) = zero_neg (ap (λ (x : ℕ). orient pa (P x) pu) (sym e ∙ ap m.org z) ∙ thin_aab pa pu) r
        go (one z) = zero_neg (ap (λ (x : ℕ). orient pa (P x) pu) (sym e ∙ ap m.org z) ∙ thin_abb pa pu) r
        go (two z) = zero_pos (ap (λ (x : ℕ). orient pa (P x) pv) (sym e ∙ ap m.org z) ∙ thin_abb pa pv) l

  -- an entry edge of the pair, and a half-edge between them
  pub no_edge : (a b x : ℕ) → Leaves P m a b x → (h : ℕ) → h < 3 * m.tris → ¬ Between m a b h
  no_edge a b x e h l = go
    where
      g : ℕ
      g = prv x

      gl : g < 3 * m.tris
      gl = nxt_in (nxt x) m.tris (nxt_in x m.tris e.low)

      r : Pos (neg_ℤ (orient (P (m.org g)) (P b) (P (m.org (nxt g)))))
      r = rw (nxt_three x, e.far) e.right

      s : Pos (orient (P (m.org g)) (P b) (P (m.org (nxt (nxt g)))))
      s = rw (nxt_three x, e.far) e.left

      go : ¬ Between m a b h
      go (inl (i, j)) = not_out g h gl l b r s (i ∙ sym e.far) j
      go (inr (i, j)) = not_back g h gl l b r s i (j ∙ sym e.far)

-- the same of the points of a figure
pub entry_alone : (ps : List ℤ) {m : Net} → Figure ps → Tiling (point ps) (base ps) (point_count ps) m
    → (a b x : ℕ) → Leaves (point ps) m a b x → (h : ℕ) → h < 3 * m.tris → ¬ Between m a b h
entry_alone ps figure tiling = no_edge tiling (λ u l. not_outside ps u (figure.within u l))
