-- The splits keep a tiling: a point strictly inside a triangle, on an inner edge, on a side of the base. Assumes nothing.
use mathlib.Core.List.{[], ◌∷◌}
use mathlib.Core.Path.{◌≡◌, sym, ap, ap₂, ◌∙◌, subst}
use Prim.Native.Nat.{ℕ, suc, ◌+◌, ◌*◌, ◌/◌, ◌<◌, ◌≤◌}
use native.Mathlib.Decide.{ℕ_discrete, dec_lt}
use native.Mathlib.Omega.{arith}
use lib.IntN.{ℤ, pos, ◌+ℤ◌, ◌-ℤ◌, ◌*ℤ◌, neg_ℤ, zero-*ℤ, *ℤ-zero, +ℤ_idr}
use Rattle.algebra.proofs.Order.{pos_by, pos_nn, pos*pos, pos_cancel}
use Rattle.algebra.proofs.Ring.{var, ◌⊕◌, ◌⊖◌, ◌⊗◌, ⊝◌, solve}
use Rattle.algebra.proofs.Sum.{thirds}
use Rattle.algebra.specs.Order.{Pos}
use Rattle.algebra.specs.Sum.{sum_to}
use Rattle.plane.proofs.Base.{zero_cancel}
use Rattle.plane.proofs.Orient.{orient_cyc, orient_swap, orient_sum}
use Rattle.plane.proofs.Polynomials.{pt, flat, orient_e, by4, by5}
use Rattle.plane.specs.Base.{Side, next, On}
use Rattle.plane.specs.Determinants.{orient}
use Rattle.plane.specs.Halfedges.{nxt}
use Rattle.plane.specs.Points.{Pt}
use Rattle.plane.specs.Tiles.{OnSide}
use Rattle.nets.specs.Nets.{Net, Linked, prv}
use Rattle.nets.specs.Steps.{inside, side_split, edge_split}
use Rattle.nets.specs.Tilings.{tri, Tiling}
use Rattle.nets.proofs.EdgeSplit.{edge_linked, edge_tris, edge_t, edge_b_lem, edge_n, edge_e_lem, edge_off}
use Rattle.nets.proofs.Flip.{Apart, two_slots}
use Rattle.nets.proofs.FlipTile.{tile_apart, far, mate_from}
use Rattle.nets.proofs.Inside.{inside_linked, inside_tris, inside_t, inside_b, inside_c, inside_off}
use Rattle.nets.proofs.SideSplit.{side_linked, side_tris, side_t, side_b_lem, side_off}
use Rattle.nets.proofs.Slot.{slot0, slot1, slot2, nxt_in}
use Rattle.nets.proofs.Tile.{tri_from, sum_change1, sum_change2}
use Rattle.nets.proofs.Write.{Corner}

-- ---- slot by slot

-- a slot after a split: a new triangle, or one that was there
pub data SlotIs (P : ℕ → Pt ℤ) (k : ℕ) (m : Net) (org : ℕ → ℕ) (i : ℕ) : Type 0 where
  new : (u v w : ℕ) → Corner org i u v w → u < k → v < k → w < k → Pos (orient (P u) (P v) (P w)) → SlotIs P k m org i
  old : i < m.tris → Corner org i (m.org (3 * i)) (m.org (3 * i + 1)) (m.org (3 * i + 2)) → SlotIs P k m org i

module _ {P : ℕ → Pt ℤ} {B : Side → Pt ℤ} {k k' : ℕ} {m m' : Net} (v : Tiling P B k m) (more : k ≤ k') (linked : Linked (OnSide P B) m')
    (slots : (i : ℕ) → i < m'.tris → SlotIs P k' m m'.org i) (areas : sum_to m'.tris (tri P m' orient) ≡ sum_to m.tris (tri P m orient)) where
  at : (x u : ℕ) → m'.org x ≡ u → u < k' → m'.org x < k'
  at x u e l = rw e l

  wide : (x : ℕ) → x < 3 * m.tris → m.org x < k'
  wide x l = let z = v.corners x l in omega arith

  corner0 : (i : ℕ) → SlotIs P k' m m'.org i → m'.org (3 * i) < k'
  corner0 i (new a b c q x y z o) = at (3 * i) a q.k0 x
  corner0 i (old l q) = at (3 * i) (m.org (3 * i)) q.k0 (wide (3 * i) (omega arith))

  corner1 : (i : ℕ) → SlotIs P k' m m'.org i → m'.org (3 * i + 1) < k'
  corner1 i (new a b c q x y z o) = at (3 * i + 1) b q.k1 y
  corner1 i (old l q) = at (3 * i + 1) (m.org (3 * i + 1)) q.k1 (wide (3 * i + 1) (omega arith))

  corner2 : (i : ℕ) → SlotIs P k' m m'.org i → m'.org (3 * i + 2) < k'
  corner2 i (new a b c q x y z o) = at (3 * i + 2) c q.k2 z
  corner2 i (old l q) = at (3 * i + 2) (m.org (3 * i + 2)) q.k2 (wide (3 * i + 2) (omega arith))

  turns : (i : ℕ) → SlotIs P k' m m'.org i → Pos (tri P m' orient i)
  turns i (new a b c q x y z o) = pos_by (let e0 = q.k0 in let e1 = q.k1 in let e2 = q.k2 in cc) o
  turns i (old l q) = pos_by (let e0 = q.k0 in let e1 = q.k1 in let e2 = q.k2 in cc) (v.ccw i l)

  pub tile_by : Tiling P B k' m'
  tile_by = record {
    linked = linked;
    corners = thirds m'.tris (λ x. m'.org x < k') (λ i l. corner0 i (slots i l)) (λ i l. corner1 i (slots i l)) (λ i l. corner2 i (slots i l));
    ccw = λ i l. turns i (slots i l);
    base_ccw = v.base_ccw;
    areas = areas ∙ v.areas;
  }

-- a function of the corners of a slot
pub corner_tri : (P : ℕ → Pt ℤ) (m : Net) (f : Pt ℤ → Pt ℤ → Pt ℤ → ℤ) (i u v w : ℕ) → Corner m.org i u v w → tri P m f i ≡ f (P u) (P v) (P w)
corner_tri P m f i u v w q = let e0 = q.k0 in let e1 = q.k1 in let e2 = q.k2 in cc

-- ---- a sum with more terms

grow1 : (k : ℕ) (f : ℕ → ℤ) → sum_to (k + 1) f ≡ sum_to k f +ℤ f k
unfolding sum_to
grow1 k f = let e : k + 1 ≡ suc k = omega arith in rw e

grow2 : (k : ℕ) (f : ℕ → ℤ) → sum_to (k + 2) f ≡ sum_to k f +ℤ f k +ℤ f (k + 1)
unfolding sum_to
grow2 k f = let e : k + 2 ≡ suc (suc k) = omega arith in let e' : suc k ≡ k + 1 = omega arith in rw (e, e')

-- ---- strictly inside

module _ {P : ℕ → Pt ℤ} {B : Side → Pt ℤ} {k k' : ℕ} {m : Net} (v : Tiling P B k m) (more : k ≤ k') (t p : ℕ) (tb : t < m.tris) (pk : p < k') where
  abbrev a : ℕ
  a = m.org (3 * t)

  abbrev b : ℕ
  b = m.org (3 * t + 1)

  abbrev c : ℕ
  c = m.org (3 * t + 2)

  abbrev l : Linked (OnSide P B) m
  l = v.linked

  abbrev ap' : Apart m
  ap' = tile_apart v

  module _ (abp : Pos (orient (P a) (P b) (P p))) (bcp : Pos (orient (P b) (P c) (P p))) (cap : Pos (orient (P c) (P a) (P p))) where
    m' : Net
    m' = inside m t p

    cor : (x : ℕ) → x < 3 * m.tris → m.org x < k'
    cor x b = let z = v.corners x b in omega arith

    corners_off : (i : ℕ) → i < m.tris → ¬ (i ≡ t) → Corner m'.org i (m.org (3 * i)) (m.org (3 * i + 1)) (m.org (3 * i + 2))
    unfolding m'
    corners_off i b n = record {
      k0 = inside_off l ap' t p tb (3 * i) (omega arith) (rw slot0 n);
      k1 = inside_off l ap' t p tb (3 * i + 1) (omega arith) (rw slot1 n);
      k2 = inside_off l ap' t p tb (3 * i + 2) (omega arith) (rw slot2 n);
    }

    slots : (i : ℕ) → i < m.tris + 2 → Dec (i ≡ t) → Dec (i < m.tris) → Dec (i ≡ m.tris) → SlotIs P k' m m'.org i
    unfolding m'
    slots i b (yes e) d d' = subst (SlotIs P k' m m'.org) (sym e)
        (new (m.org (3 * t)) (m.org (3 * t + 1)) p (inside_t l ap' t p tb) (cor (3 * t) (omega arith)) (cor (3 * t + 1) (omega arith)) pk abp)
    slots i b (no n) (yes e) d' = old e (corners_off i e n)
    slots i b (no n) (no k) (yes e) = subst (SlotIs P k' m m'.org) (sym e)
        (new (m.org (3 * t + 1)) (m.org (3 * t + 2)) p (inside_b l ap' t p tb) (cor (3 * t + 1) (omega arith)) (cor (3 * t + 2) (omega arith)) pk bcp)
    slots i b (no n) (no k) (no j) =
        let e : m.tris + 1 ≡ i = omega arith in
        subst (SlotIs P k' m m'.org) e (new (m.org (3 * t + 2)) (m.org (3 * t)) p (inside_c l ap' t p tb) (cor (3 * t + 2) (omega arith)) (cor (3 * t) (omega arith)) pk cap)

    f : ℕ → ℤ
    f = tri P m orient

    f' : ℕ → ℤ
    f' = tri P m' orient

    adds : (s x y z w : ℤ) → x +ℤ y +ℤ z ≡ w → s +ℤ (x -ℤ w) +ℤ y +ℤ z ≡ s
    adds s x y z w e = solve (var 0 ⊕ (var 1 ⊖ var 4) ⊕ var 2 ⊕ var 3) (var 0 ⊕ (var 1 ⊕ var 2 ⊕ var 3) ⊖ var 4) (s ∷ x ∷ y ∷ z ∷ w ∷ []) tt
        ∙ ap (λ (q : ℤ). s +ℤ q -ℤ w) e ∙ solve (var 0 ⊕ var 1 ⊖ var 1) (var 0) (s ∷ w ∷ []) tt

    areas : sum_to (m.tris + 2) f' ≡ sum_to m.tris f
    unfolding f f' m'
    areas =
        grow2 m.tris f' ∙
        ap (λ (x : ℤ). x +ℤ f' m.tris +ℤ f' (m.tris + 1))
        (sum_change1 m.tris f f' t tb (λ i b n. corner_tri P m' orient i (m.org (3 * i)) (m.org (3 * i + 1)) (m.org (3 * i + 2)) (corners_off i b n))) ∙
        adds (sum_to m.tris f) (f' t) (f' m.tris) (f' (m.tris + 1)) (f t)
        (ap₂ (λ (x y : ℤ). x +ℤ y) (ap₂ (λ (x y : ℤ). x +ℤ y) (corner_tri P m' orient t a b p (inside_t l ap' t p tb))
        (corner_tri P m' orient m.tris b c p (inside_b l ap' t p tb))) (corner_tri P m' orient (m.tris + 1) c a p (inside_c l ap' t p tb))
        ∙ orient_sum (P a) (P b) (P c) (P p))

    pub inside_tile : Tiling P B k' (inside m t p)
    unfolding m' f f'
    inside_tile =
        tile_by v more (inside_linked l ap' t p tb)
        (λ i b. slots i (rw (inside_tris l ap' t p tb) at b) (ℕ_discrete i t) (dec_lt i m.tris) (ℕ_discrete i m.tris))
        (ap (λ (x : ℕ). sum_to x (tri P (inside m t p) orient)) (inside_tris l ap' t p tb) ∙ areas)

-- ---- on an edge

half_poly : (a b c p : Pt ℤ) → orient a p c +ℤ orient p b c +ℤ orient a b p ≡ orient a b c
unfolding orient
half_poly = by4 (λ a b c p. orient_e a p c ⊕ orient_e p b c ⊕ orient_e a b p) (λ a b c p. orient_e a b c) tt

-- the halves of a triangle
halves : (a b c p : Pt ℤ) → orient a b p ≡ pos 0 → orient a p c +ℤ orient p b c ≡ orient a b c
halves a b c p e = sym (+ℤ_idr (orient a p c +ℤ orient p b c)) ∙ ap (λ (z : ℤ). orient a p c +ℤ orient p b c +ℤ z) (sym e) ∙ half_poly a b c p

far_b : (a b c d p : Pt ℤ) → orient a b c *ℤ orient b p d ≡ orient p b c *ℤ orient b a d +ℤ orient b c d *ℤ orient a b p
unfolding orient
far_b = by5 (λ a b c d p. orient_e a b c ⊗ orient_e b p d) (λ a b c d p. orient_e p b c ⊗ orient_e b a d ⊕ orient_e b c d ⊗ orient_e a b p) tt

far_a : (a b c d p : Pt ℤ) → orient a b c *ℤ orient p a d ≡ orient a p c *ℤ orient b a d +ℤ (neg_ℤ (orient a c d)) *ℤ orient a b p
unfolding orient
far_a = by5 (λ a b c d p. orient_e a b c ⊗ orient_e p a d) (λ a b c d p. orient_e a p c ⊗ orient_e b a d ⊕ (⊝ orient_e a c d) ⊗ orient_e a b p) tt

drop_zero : (x y z : ℤ) → z ≡ pos 0 → x +ℤ y *ℤ z ≡ x
drop_zero x y z e = ap (λ (w : ℤ). x +ℤ y *ℤ w) e ∙ ap (λ (w : ℤ). x +ℤ w) (*ℤ-zero y) ∙ +ℤ_idr x

-- p lies on the line of u and v, where a and b do
pub line_poly : (u v p a b c : Pt ℤ) → orient a b c *ℤ orient u v p ≡ orient u v a *ℤ orient p b c +ℤ orient u v b *ℤ orient a p c +ℤ orient u v c *ℤ orient a b p
unfolding orient
line_poly u v r a b c =
    solve (orient_e (pt 3) (pt 4) (pt 5) ⊗ orient_e (pt 0) (pt 1) (pt 2))
    (orient_e (pt 0) (pt 1) (pt 3) ⊗ orient_e (pt 2) (pt 4) (pt 5) ⊕ orient_e (pt 0) (pt 1) (pt 4) ⊗ orient_e (pt 3) (pt 2) (pt 5) ⊕ orient_e (pt 0) (pt 1) (pt 5) ⊗ orient_e (pt 3) (pt 4) (pt 2))
    (flat (u ∷ v ∷ r ∷ a ∷ b ∷ c ∷ [])) tt

on_line : (u v p a b c : Pt ℤ) → Pos (orient a b c) → orient a b p ≡ pos 0 → orient u v a ≡ pos 0 → orient u v b ≡ pos 0 → orient u v p ≡ pos 0
on_line u v p a b c o e i j =
    zero_cancel o
    (line_poly u v p a b c ∙ drop_zero (orient u v a *ℤ orient p b c +ℤ orient u v b *ℤ orient a p c) (orient u v c) (orient a b p) e ∙
    ap₂ (λ (x y : ℤ). x *ℤ orient p b c +ℤ y *ℤ orient a p c) i j ∙ ap₂ (λ (x y : ℤ). x +ℤ y) (zero-*ℤ (orient p b c)) (zero-*ℤ (orient a p c)))

module _ {P : ℕ → Pt ℤ} {B : Side → Pt ℤ} {k k' : ℕ} {m : Net} (v : Tiling P B k m) (more : k ≤ k') (h p : ℕ) (hb : h < 3 * m.tris) (pk : p < k') where
  abbrev na : ℕ
  na = m.org h

  abbrev nb : ℕ
  nb = m.org (nxt h)

  abbrev nc : ℕ
  nc = m.org (prv h)

  abbrev ll : Linked (OnSide P B) m
  ll = v.linked

  abbrev lap : Apart m
  lap = tile_apart v

  module _ (on : orient (P na) (P nb) (P p) ≡ pos 0) (bcp : Pos (orient (P nb) (P nc) (P p))) (cap : Pos (orient (P nc) (P na) (P p))) where
    apc : Pos (orient (P na) (P p) (P nc))
    apc = pos_by (sym (orient_cyc (P nc) (P na) (P p))) cap

    pbc : Pos (orient (P p) (P nb) (P nc))
    pbc = pos_by (orient_cyc (P p) (P nb) (P nc)) bcp

    tb : h / 3 < m.tris
    tb = omega arith

    abc : Pos (orient (P na) (P nb) (P nc))
    abc = pos_by (sym (tri_from P m orient orient_cyc h)) (v.ccw (h / 3) tb)

    cor_e : (x : ℕ) → x < 3 * m.tris → m.org x < k'
    cor_e x b = let z = v.corners x b in omega arith

    ka : na < k'
    ka = cor_e h hb

    kb : nb < k'
    kb = cor_e (nxt h) (nxt_in h m.tris hb)

    kc : nc < k'
    kc = cor_e (prv h) (nxt_in (nxt h) m.tris (nxt_in h m.tris hb))

    -- the old triangle's orientation
    old_t : tri P m orient (h / 3) ≡ orient (P na) (P nb) (P nc)
    old_t = tri_from P m orient orient_cyc h

    -- -- a side of the base
    module _ (lone : m.adj h ≡ 0) where
      on_p : (i : Side) → On B i (P na) → On B i (P nb) → On B i (P p)
      on_p i x y = on_line (B i) (B (next i)) (P p) (P na) (P nb) (P nc) abc on x y

      pub side_ap : OnSide P B na p
      side_ap = let s = ll.side h hb lone in (s.0, s.1, on_p s.0 s.1 s.2)

      pub side_pb : OnSide P B p nb
      side_pb = let s = ll.side h hb lone in (s.0, on_p s.0 s.1 s.2, s.2)

      sm : Net
      sm = side_split m h p

      soff : (i : ℕ) → i < m.tris → ¬ (i ≡ h / 3) → Corner sm.org i (m.org (3 * i)) (m.org (3 * i + 1)) (m.org (3 * i + 2))
      unfolding sm
      soff i b n = record {
        k0 = side_off ll lap h p hb lone side_ap side_pb (3 * i) (omega arith) (rw slot0 n);
        k1 = side_off ll lap h p hb lone side_ap side_pb (3 * i + 1) (omega arith) (rw slot1 n);
        k2 = side_off ll lap h p hb lone side_ap side_pb (3 * i + 2) (omega arith) (rw slot2 n);
      }

      sslots : (i : ℕ) → i < m.tris + 1 → Dec (i ≡ h / 3) → Dec (i < m.tris) → SlotIs P k' m sm.org i
      unfolding sm
      sslots i b (yes e) d = subst (SlotIs P k' m sm.org) (sym e) (new na p nc (side_t ll lap h p hb lone side_ap side_pb) ka pk kc apc)
      sslots i b (no n) (yes e) = old e (soff i e n)
      sslots i b (no n) (no k) =
          let e : m.tris ≡ i = omega arith in
          subst (SlotIs P k' m sm.org) e (new p nb nc (side_b_lem ll lap h p hb lone side_ap side_pb) pk kb kc pbc)

      sadds : (s x y w : ℤ) → x +ℤ y ≡ w → s +ℤ (x -ℤ w) +ℤ y ≡ s
      sadds s x y w e = solve (var 0 ⊕ (var 1 ⊖ var 3) ⊕ var 2) (var 0 ⊕ (var 1 ⊕ var 2) ⊖ var 3) (s ∷ x ∷ y ∷ w ∷ []) tt
          ∙ ap (λ (q : ℤ). s +ℤ q -ℤ w) e ∙ solve (var 0 ⊕ var 1 ⊖ var 1) (var 0) (s ∷ w ∷ []) tt

      sareas : sum_to (m.tris + 1) (tri P sm orient) ≡ sum_to m.tris (tri P m orient)
      unfolding sm
      sareas =
          grow1 m.tris (tri P sm orient) ∙
          ap (λ (x : ℤ). x +ℤ tri P sm orient m.tris) (sum_change1 m.tris (tri P m orient) (tri P sm orient) (h / 3) tb
          (λ i b n. corner_tri P sm orient i (m.org (3 * i)) (m.org (3 * i + 1)) (m.org (3 * i + 2)) (soff i b n))) ∙
          sadds (sum_to m.tris (tri P m orient)) (tri P sm orient (h / 3)) (tri P sm orient m.tris) (tri P m orient (h / 3))
          (ap₂ (λ (x y : ℤ). x +ℤ y) (corner_tri P sm orient (h / 3) na p nc (side_t ll lap h p hb lone side_ap side_pb))
          (corner_tri P sm orient m.tris p nb nc (side_b_lem ll lap h p hb lone side_ap side_pb)) ∙ halves (P na) (P nb) (P nc) (P p) on ∙ sym old_t)

      pub side_tile : Tiling P B k' (side_split m h p)
      unfolding sm
      side_tile =
          tile_by v more (side_linked ll lap h p hb lone side_ap side_pb)
          (λ i b. sslots i (rw (side_tris ll lap h p hb lone side_ap side_pb) at b) (ℕ_discrete i (h / 3)) (dec_lt i m.tris))
          (ap (λ (x : ℕ). sum_to x (tri P (side_split m h p) orient)) (side_tris ll lap h p hb lone side_ap side_pb) ∙ sareas)

    -- -- an inner edge
    module _ (g : ℕ) (pair : m.adj h ≡ suc g) where
      abbrev nd : ℕ
      nd = m.org (prv g)

      cd : ¬ (nc ≡ nd)
      cd = far v h g hb pair

      gb : g < 3 * m.tris
      gb = ll.low h g hb pair

      n_t : g / 3 < m.tris
      n_t = let z = gb in omega arith

      tn : ¬ (g / 3 ≡ h / 3)
      tn = two_slots ll lap h g hb pair cd

      kd : nd < k'
      kd = cor_e (prv g) (nxt_in (nxt g) m.tris (nxt_in g m.tris gb))

      old_n : tri P m orient (g / 3) ≡ orient (P nb) (P na) (P nd)
      old_n = tri_from P m orient orient_cyc g ∙ mate_from v h g hb pair P orient

      bad : Pos (orient (P nb) (P na) (P nd))
      bad = pos_by (sym old_n) (v.ccw (g / 3) n_t)

      pub bpd : Pos (orient (P nb) (P p) (P nd))
      bpd = pos_cancel (pos_nn abc) (pos_by (far_b (P na) (P nb) (P nc) (P nd) (P p)
          ∙ drop_zero (orient (P p) (P nb) (P nc) *ℤ orient (P nb) (P na) (P nd)) (orient (P nb) (P nc) (P nd)) (orient (P na) (P nb) (P p)) on) (pos*pos pbc bad))

      pub pad : Pos (orient (P p) (P na) (P nd))
      pad = pos_cancel (pos_nn abc) (pos_by (far_a (P na) (P nb) (P nc) (P nd) (P p)
          ∙ drop_zero (orient (P na) (P p) (P nc) *ℤ orient (P nb) (P na) (P nd)) (neg_ℤ (orient (P na) (P nc) (P nd))) (orient (P na) (P nb) (P p)) on) (pos*pos apc bad))

      em : Net
      em = edge_split m h g p

      eoff : (i : ℕ) → i < m.tris → ¬ (i ≡ h / 3) → ¬ (i ≡ g / 3) → Corner em.org i (m.org (3 * i)) (m.org (3 * i + 1)) (m.org (3 * i + 2))
      unfolding em
      eoff i b n n' = record {
        k0 = edge_off ll lap h g hb pair cd p (3 * i) (omega arith) (rw slot0 n) (rw slot0 n');
        k1 = edge_off ll lap h g hb pair cd p (3 * i + 1) (omega arith) (rw slot1 n) (rw slot1 n');
        k2 = edge_off ll lap h g hb pair cd p (3 * i + 2) (omega arith) (rw slot2 n) (rw slot2 n');
      }

      eslots : (i : ℕ) → i < m.tris + 2 → Dec (i ≡ h / 3) → Dec (i ≡ g / 3) → Dec (i < m.tris) → Dec (i ≡ m.tris) → SlotIs P k' m em.org i
      unfolding em
      eslots i b (yes e) x d d' = subst (SlotIs P k' m em.org) (sym e) (new na p nc (edge_t ll lap h g hb pair cd p) ka pk kc apc)
      eslots i b (no n) (yes e) d d' = subst (SlotIs P k' m em.org) (sym e) (new nb p nd (edge_n ll lap h g hb pair cd p) kb pk kd bpd)
      eslots i b (no n) (no n') (yes e) d' = old e (eoff i e n n')
      eslots i b (no n) (no n') (no k) (yes e) = subst (SlotIs P k' m em.org) (sym e) (new p nb nc (edge_b_lem ll lap h g hb pair cd p) pk kb kc pbc)
      eslots i b (no n) (no n') (no k) (no j) =
          let e : m.tris + 1 ≡ i = omega arith in
          subst (SlotIs P k' m em.org) e (new p na nd (edge_e_lem ll lap h g hb pair cd p) pk ka kd pad)

      eadds : (s x y z w u q : ℤ) → x +ℤ z ≡ u → y +ℤ w ≡ q → s +ℤ (x -ℤ u) +ℤ (y -ℤ q) +ℤ z +ℤ w ≡ s
      eadds s x y z w u q e i = solve (var 0 ⊕ (var 1 ⊖ var 5) ⊕ (var 2 ⊖ var 6) ⊕ var 3 ⊕ var 4)
          (var 0 ⊕ (var 1 ⊕ var 3) ⊖ var 5 ⊕ (var 2 ⊕ var 4) ⊖ var 6) (s ∷ x ∷ y ∷ z ∷ w ∷ u ∷ q ∷ []) tt
          ∙ ap₂ (λ (o o' : ℤ). s +ℤ o -ℤ u +ℤ o' -ℤ q) e i ∙ solve (var 0 ⊕ var 1 ⊖ var 1 ⊕ var 2 ⊖ var 2) (var 0) (s ∷ u ∷ q ∷ []) tt

      eareas : sum_to (m.tris + 2) (tri P em orient) ≡ sum_to m.tris (tri P m orient)
      unfolding em
      eareas =
          grow2 m.tris (tri P em orient) ∙
          ap (λ (x : ℤ). x +ℤ tri P em orient m.tris +ℤ tri P em orient (m.tris + 1))
          (sum_change2 m.tris (tri P m orient) (tri P em orient) (h / 3) (g / 3) tb n_t tn
          (λ i b n n'. corner_tri P em orient i (m.org (3 * i)) (m.org (3 * i + 1)) (m.org (3 * i + 2)) (eoff i b n n'))) ∙
          eadds (sum_to m.tris (tri P m orient)) (tri P em orient (h / 3)) (tri P em orient (g / 3)) (tri P em orient m.tris)
          (tri P em orient (m.tris + 1)) (tri P m orient (h / 3)) (tri P m orient (g / 3))
          (ap₂ (λ (x y : ℤ). x +ℤ y) (corner_tri P em orient (h / 3) na p nc (edge_t ll lap h g hb pair cd p))
          (corner_tri P em orient m.tris p nb nc (edge_b_lem ll lap h g hb pair cd p)) ∙ halves (P na) (P nb) (P nc) (P p) on ∙ sym old_t)
          (ap₂ (λ (x y : ℤ). x +ℤ y) (corner_tri P em orient (g / 3) nb p nd (edge_n ll lap h g hb pair cd p))
          (corner_tri P em orient (m.tris + 1) p na nd (edge_e_lem ll lap h g hb pair cd p)) ∙ halves (P nb) (P na) (P nd) (P p) ba ∙ sym old_n)
        where
          ba : orient (P nb) (P na) (P p) ≡ pos 0
          ba = orient_swap (P nb) (P na) (P p) ∙ ap neg_ℤ on

      pub edge_tile : Tiling P B k' (edge_split m h g p)
      unfolding em
      edge_tile =
          tile_by v more (edge_linked ll lap h g hb pair cd p)
          (λ i b. eslots i (rw (edge_tris ll lap h g hb pair cd p) at b) (ℕ_discrete i (h / 3)) (ℕ_discrete i (g / 3)) (dec_lt i m.tris) (ℕ_discrete i m.tris))
          (ap (λ (x : ℕ). sum_to x (tri P (edge_split m h g p) orient)) (edge_tris ll lap h g hb pair cd p) ∙ eareas)
