-- A flip keeps a tiling, where the two new triangles are counterclockwise; it lowers the lifted volume by the circle determinant.
-- Assumes nothing.
use mathlib.Core.List.{[], ◌∷◌}
use mathlib.Core.Path.{◌≡◌, sym, ap, ap₂, ◌∙◌}
use Prim.Native.Nat.{ℕ, suc, ◌+◌, ◌*◌, ◌/◌, ◌<◌}
use native.Mathlib.Decide.{ℕ_discrete}
use native.Mathlib.Omega.{arith}
use lib.IntN.{ℤ, pos, ◌+ℤ◌, ◌-ℤ◌}
use Rattle.algebra.proofs.Order.{pos_by, not_zero, not_both}
use Rattle.algebra.proofs.Ring.{var, con, ◌⊕◌, ◌⊖◌, solve}
use Rattle.algebra.specs.Order.{Pos}
use Rattle.algebra.specs.Sum.{sum_to}
use Rattle.plane.proofs.Circle.{vol_flip}
use Rattle.plane.proofs.Orient.{orient_cyc, orient_swap}
use Rattle.plane.proofs.Polynomials.{orient_e, vol_e, by3, by4}
use Rattle.plane.specs.Base.{Side}
use Rattle.plane.specs.Determinants.{orient, vol, incircle}
use Rattle.plane.specs.Halfedges.{nxt}
use Rattle.plane.specs.Points.{Pt}
use Rattle.nets.specs.Nets.{Net, prv}
use Rattle.nets.specs.Steps.{flip}
use Rattle.nets.specs.Tilings.{tri, Tiling}
use Rattle.nets.proofs.Flip.{Apart, same_slot, flip_linked, flip_tris, flip_org, Corners}
use Rattle.nets.proofs.Net.{to}
use Rattle.nets.proofs.Slot.{slot0, slot1, slot2, nxt_in, Edge, e0, e1, e2, edge}
use Rattle.nets.proofs.Tile.{from, Cyclic, tri_from, sum_change2}

thin : (a c : Pt ℤ) → orient a a c ≡ pos 0
unfolding orient
thin a c = by3 (λ a b c. orient_e a a c) (λ a b c. con (pos 0)) tt a a c

pub vol_cyc : Cyclic vol
unfolding vol
vol_cyc = by3 vol_e (λ a b c. vol_e b c a) tt

area_flip : (a b c d : Pt ℤ) → orient a d c +ℤ orient d b c ≡ orient a b c +ℤ orient b a d
unfolding orient
area_flip = by4 (λ a b c d. orient_e a d c ⊕ orient_e d b c) (λ a b c d. orient_e a b c ⊕ orient_e b a d) tt

keep_sum : (s x y p q : ℤ) → p +ℤ q ≡ x +ℤ y → s +ℤ (p -ℤ x) +ℤ (q -ℤ y) ≡ s
keep_sum s x y p q e = solve (var 0 ⊕ (var 3 ⊖ var 1) ⊕ (var 4 ⊖ var 2)) (var 0 ⊕ (var 3 ⊕ var 4) ⊖ (var 1 ⊕ var 2)) (s ∷ x ∷ y ∷ p ∷ q ∷ []) tt
    ∙ ap (λ (z : ℤ). s +ℤ z -ℤ (x +ℤ y)) e ∙ solve (var 0 ⊕ var 1 ⊖ var 1) (var 0) (s ∷ (x +ℤ y) ∷ []) tt

module _ {P : ℕ → Pt ℤ} {B : Side → Pt ℤ} {k : ℕ} {m : Net} (v : Tiling P B k m) where
  tri_pos : (h : ℕ) → h < 3 * m.tris → Pos (from P m orient h)
  tri_pos h b = pos_by (sym (tri_from P m orient orient_cyc h)) (v.ccw (h / 3) (let q : h / 3 < m.tris = omega arith in q))

  -- the ends of an edge have two numbers
  pub tile_apart : Apart m
  tile_apart x b e = not_zero (tri_pos x b) (ap (λ (u : ℕ). orient (P u) (P (m.org (nxt x))) (P (m.org (nxt (nxt x))))) e ∙ thin (P (m.org (nxt x))) (P (m.org (nxt (nxt x)))))

  module _ (h g : ℕ) (hb : h < 3 * m.tris) (pair : m.adj h ≡ suc g) where
    abbrev a : Pt ℤ
    a = P (m.org h)

    abbrev b : Pt ℤ
    b = P (m.org (nxt h))

    abbrev c : Pt ℤ
    c = P (m.org (prv h))

    abbrev d : Pt ℤ
    d = P (m.org (prv g))

    gb : g < 3 * m.tris
    gb = v.linked.low h g hb pair

    -- the neighbour, by the corners of the edge
    pub mate_from : {A : Type 0} (Q : ℕ → A) (f : A → A → A → ℤ) → from Q m f g ≡ f (Q (m.org (nxt h))) (Q (m.org h)) (Q (m.org (prv g)))
    mate_from Q f = ap₂ (λ (x y : ℕ). f (Q x) (Q y) (Q (m.org (prv g)))) (v.linked.from h g hb pair) (to v.linked h g hb pair)

    abc : Pos (orient a b c)
    abc = tri_pos h hb

    bad : Pos (orient b a d)
    bad = pos_by (sym (mate_from P orient)) (tri_pos g gb)

    -- the far corners are two
    pub far : ¬ (m.org (prv h) ≡ m.org (prv g))
    far e = not_both bad (pos_by (sym (orient_swap a b d) ∙ ap (λ (u : ℕ). orient a b (P u)) (sym e)) abc)

    f_corners : Corners v.linked tile_apart h g hb pair far
    f_corners = flip_org v.linked tile_apart h g hb pair far

    t_n_lem : ¬ (g / 3 ≡ h / 3)
    t_n_lem = same_slot v.linked tile_apart h g hb pair

    t_in : h / 3 < m.tris
    t_in = omega arith

    n_in : g / 3 < m.tris
    n_in = let w = gb in omega arith

    swaps : (s x x' y y' z z' w w' : ℤ) → x ≡ x' → y ≡ y' → z ≡ z' → w ≡ w' → s +ℤ (x -ℤ y) +ℤ (z -ℤ w) ≡ s +ℤ (x' -ℤ y') +ℤ (z' -ℤ w')
    swaps s x x' y y' z z' w w' p q r t = cc

    -- a function of the corners, Q of their numbers
    module _ {A : Type 0} (Q : ℕ → A) where
      abbrev qa : A
      qa = Q (m.org h)

      abbrev qb : A
      qb = Q (m.org (nxt h))

      abbrev qc : A
      qc = Q (m.org (prv h))

      abbrev qd : A
      qd = Q (m.org (prv g))

      -- the triangles after it
      pub flip-t {ℓ} : {X : Type ℓ} (f : A → A → A → X) → tri Q (flip m h g) f (h / 3) ≡ f qa qd qc
      flip-t f = cc (f_corners.t0, f_corners.t1, f_corners.t2)

      pub flip-n {ℓ} : {X : Type ℓ} (f : A → A → A → X) → tri Q (flip m h g) f (g / 3) ≡ f qd qb qc
      flip-n f = cc (f_corners.n0, f_corners.n1, f_corners.n2)

      pub flip_off {ℓ} : {X : Type ℓ} (f : A → A → A → X) (i : ℕ) → ¬ (i ≡ h / 3) → ¬ (i ≡ g / 3) → tri Q (flip m h g) f i ≡ tri Q m f i
      flip_off f i p q = cc (f_corners.off (3 * i) (rw slot0 p) (rw slot0 q), f_corners.off (3 * i + 1) (rw slot1 p) (rw slot1 q), f_corners.off (3 * i + 2) (rw slot2 p) (rw slot2 q))

      -- a sum over the triangles
      pub flip_sum : (f : A → A → A → ℤ) → Cyclic f → sum_to (flip m h g).tris (tri Q (flip m h g) f) ≡ sum_to m.tris (tri Q m f) +ℤ (f qa qd qc -ℤ f qa qb qc) +ℤ (f qd qb qc -ℤ f qb qa qd)
      flip_sum f cyc =
          ap (λ (x : ℕ). sum_to x (tri Q (flip m h g) f)) (flip_tris v.linked tile_apart h g hb pair far) ∙
          sum_change2 m.tris (tri Q m f) (tri Q (flip m h g) f) (h / 3) (g / 3) t_in n_in t_n_lem (λ i l p q. flip_off f i p q) ∙
          swaps (sum_to m.tris (tri Q m f)) (tri Q (flip m h g) f (h / 3)) (f qa qd qc) (tri Q m f (h / 3)) (f qa qb qc) (tri Q (flip m h g) f (g / 3)) (f qd qb qc) (tri Q m f (g / 3)) (f qb qa qd)
          (flip-t f) (tri_from Q m f cyc h) (flip-n f) (tri_from Q m f cyc g ∙ mate_from Q f)

    pub flip_tile : Pos (orient a d c) → Pos (orient d b c) → Tiling P B k (flip m h g)
    flip_tile adc dbc = record {
      linked = flip_linked v.linked tile_apart h g hb pair far;
      corners = λ x l. corner x (low x l) (ℕ_discrete (x / 3) (h / 3)) (ℕ_discrete (x / 3) (g / 3));
      ccw = λ i l. turns i (rw (flip_tris v.linked tile_apart h g hb pair far) at l) (ℕ_discrete i (h / 3)) (ℕ_discrete i (g / 3));
      base_ccw = v.base_ccw;
      areas = flip_sum P orient orient_cyc ∙ keep_sum (sum_to m.tris (tri P m orient)) (orient a b c) (orient b a d) (orient a d c) (orient d b c) (area_flip a b c d) ∙ v.areas;
    }
      where
        low : (x : ℕ) → x < 3 * (flip m h g).tris → x < 3 * m.tris
        low x l = rw (flip_tris v.linked tile_apart h g hb pair far) at l

        turns : (i : ℕ) → i < m.tris → Dec (i ≡ h / 3) → Dec (i ≡ g / 3) → Pos (tri P (flip m h g) orient i)
        turns i l (yes e) d = pos_by (ap (tri P (flip m h g) orient) e ∙ flip-t P orient) adc
        turns i l (no p) (yes e) = pos_by (ap (tri P (flip m h g) orient) e ∙ flip-n P orient) dbc
        turns i l (no p) (no q) = pos_by (flip_off P orient i p q) (v.ccw i l)

        is : (x y : ℕ) → (flip m h g).org x ≡ m.org y → y < 3 * m.tris → (flip m h g).org x < k
        is x y e l = rw e (v.corners y l)

        in_h : (x : ℕ) → Edge (h / 3) x → (flip m h g).org x < k
        in_h x (e0 e) = is x h (ap (flip m h g).org e ∙ f_corners.t0) hb
        in_h x (e1 e) = is x (prv g) (ap (flip m h g).org e ∙ f_corners.t1) (nxt_in (nxt g) m.tris (nxt_in g m.tris gb))
        in_h x (e2 e) = is x (prv h) (ap (flip m h g).org e ∙ f_corners.t2) (nxt_in (nxt h) m.tris (nxt_in h m.tris hb))

        in_g : (x : ℕ) → Edge (g / 3) x → (flip m h g).org x < k
        in_g x (e0 e) = is x (prv g) (ap (flip m h g).org e ∙ f_corners.n0) (nxt_in (nxt g) m.tris (nxt_in g m.tris gb))
        in_g x (e1 e) = is x (nxt h) (ap (flip m h g).org e ∙ f_corners.n1) (nxt_in h m.tris hb)
        in_g x (e2 e) = is x (prv h) (ap (flip m h g).org e ∙ f_corners.n2) (nxt_in (nxt h) m.tris (nxt_in h m.tris hb))

        corner : (x : ℕ) → x < 3 * m.tris → Dec (x / 3 ≡ h / 3) → Dec (x / 3 ≡ g / 3) → (flip m h g).org x < k
        corner x l (yes e) d = in_h x (edge (h / 3) x e)
        corner x l (no p) (yes e) = in_g x (edge (g / 3) x e)
        corner x l (no p) (no q) = is x x (f_corners.off x p q) l

    -- the lifted volume
    pub flip_vol : sum_to (flip m h g).tris (tri P (flip m h g) vol) +ℤ incircle a b c d ≡ sum_to m.tris (tri P m vol)
    flip_vol =
        ap₂ (λ (x y : ℤ). x +ℤ y) (flip_sum P vol vol_cyc) (sym (vol_flip a b c d)) ∙
        solve (var 0 ⊕ (var 3 ⊖ var 1) ⊕ (var 4 ⊖ var 2) ⊕ (var 1 ⊕ var 2 ⊖ var 3 ⊖ var 4)) (var 0) (sum_to m.tris (tri P m vol) ∷ vol a b c ∷ vol b a d ∷ vol a d c ∷ vol d b c ∷ []) tt
