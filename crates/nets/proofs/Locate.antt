-- From COVER: a point of the closed base lies in a closed triangle, and no directed edge stands in two triangles. Assumes nothing.
use mathlib.Core.Bool.{Bool, true, false, not, cond}
use mathlib.Core.List.{[], ◌∷◌}
use mathlib.Core.Path.{◌≡◌, refl, sym, ap, ap₂, ◌∙◌, subst}
use Prim.Native.Nat.{ℕ, zero, suc, ◌+◌, ◌*◌, ◌-◌, ◌/◌, ◌<◌}
use native.Mathlib.Omega.{arith}
use lib.Dec.{T, ltb, ltb→lt, lt→ltb}
use lib.IntN.{ℤ, pos, negsuc, ◌+ℤ◌, ◌*ℤ◌, neg_ℤ, nat_abs}
use lib.Signed.{lt_z_yes, <ℤ_irrefl}
use Rattle.algebra.proofs.Order.{pos_by, nn_by, nn_pos, pos_nn, pos+nn, nn+pos, nn*nn, not_zero, Sign, is_pos, is_below_zero, is_zero, sign}
use Rattle.algebra.proofs.Ring.{var, con, ◌⊕◌, ◌⊗◌, ⊝◌, solve}
use Rattle.algebra.proofs.Size.{abs_neg}
use Rattle.algebra.specs.Order.{Pos, NonNeg}
use Rattle.plane.proofs.Cover.{inside_of, cover_closed}
use Rattle.plane.proofs.Halfedges.{nxt0, nxt1, nxt2}
use Rattle.plane.proofs.Inner.{disjoint}
use Rattle.plane.proofs.Mesh.{in_tri}
use Rattle.plane.proofs.Near.{max_to, max_to_le}
use Rattle.plane.proofs.Orient.{orient_cyc}
use Rattle.plane.proofs.Polynomials.{PtE, orient_e, by3, line_e}
use Rattle.plane.proofs.Sign.{nn_zero}
use Rattle.plane.specs.Base.{Side, s0, s1, s2, next}
use Rattle.plane.specs.Determinants.{orient}
use Rattle.plane.specs.Halfedges.{nxt}
use Rattle.plane.specs.Inside.{Strictly}
use Rattle.plane.specs.Places.{Place, line}
use Rattle.plane.specs.Points.{Pt}
use Rattle.nets.specs.Building.{Holds}
use Rattle.nets.specs.Nets.{Net, dst}
use Rattle.nets.specs.Tilings.{Tiling}
use Rattle.nets.proofs.Covered.{mesh, covers}
use Rattle.nets.proofs.FlipTile.{tile_apart}
use Rattle.nets.proofs.Slot.{nxt_in, nxt_three, Turn, it, one, two, turn, Edge, e0, e1, e2, edge}
use Rattle.nets.proofs.Tile.{from, tri_from}

-- ---- a multiple outweighs what is smaller

pos_num : (n : ℕ) → 0 < n → Pos (pos n)
pos_num n h = lt_z_yes (lt→ltb 0 n h)

pos_cond : (b : Bool) (x y : ℤ) → (T b → Pos x) → (T (not b) → Pos y) → Pos (cond b x y)
pos_cond true x y f g = f tt
pos_cond false x y f g = g tt

pos_abs : (K : ℕ) (e : ℤ) → nat_abs e < K → Pos (pos K +ℤ e)
pos_abs K (pos m) l = pos_num (K + m) (omega arith)
pos_abs K (negsuc m) l =
    pos_cond (ltb K (suc m)) (negsuc (suc m - suc K)) (pos (K - suc m)) (λ t. absurd (no_way K m l (ltb→lt K (suc m) t))) (λ t. pos_num (K - suc m) (omega arith))
  where
    no_way : (K m : ℕ) → suc m < K → K < suc m → ⊥
    no_way K m l h = omega arith

dom : (K : ℕ) (z e : ℤ) → nat_abs e < K → Pos z → Pos (pos K *ℤ z +ℤ e)
dom K (pos zero) e l h = absurd (<ℤ_irrefl h)
dom K (pos (suc n)) e l h = pos_abs (K * suc n) e (wide K n (nat_abs e) l)
  where
    wide : (K n a : ℕ) → a < K → a < K * suc n
    wide K n a l = omega arith
dom K (negsuc n) e l h = absurd h.lt

-- what stays not negative under a great weight
dom_nn : (K : ℕ) (z e : ℤ) → nat_abs e < K → NonNeg (pos K *ℤ z +ℤ e) → NonNeg z
dom_nn K z e l h = go (sign z)
  where
    go : Sign z → NonNeg z
    go (is_pos p) = pos_nn p
    go (is_zero r) = nn_zero z r
    go (is_below_zero n) =
        absurd (not_zero (pos+nn (dom K (neg_ℤ z) (neg_ℤ e) (subst (λ (x : ℕ). x < K) (sym (abs_neg e)) l) n) h)
        (solve (var 0 ⊗ (⊝ var 1) ⊕ (⊝ var 2) ⊕ (var 0 ⊗ var 1 ⊕ var 2)) (con (pos 0)) (pos K ∷ z ∷ e ∷ []) tt))

-- ---- a place near p, towards the middle of the base

abbrev vp : ℕ → PtE
vp i = record { x = var (2 * i); y = var (2 * i + 1) }

toward : ℕ → Pt ℤ → Pt ℤ → Pt ℤ → Pt ℤ → Place ℤ
toward K p a b c = record { qx = pos K *ℤ p.x +ℤ (a.x +ℤ b.x +ℤ c.x); qy = pos K *ℤ p.y +ℤ (a.y +ℤ b.y +ℤ c.y); qw = pos K +ℤ pos 3 }

toward_line : (K : ℕ) (u v p a b c : Pt ℤ) → line u v (toward K p a b c) ≡ pos K *ℤ orient u v p +ℤ (orient u v a +ℤ orient u v b +ℤ orient u v c)
unfolding line toward orient
toward_line K u v p a b c =
    solve (line_e (vp 0) (vp 1) (record { qx = var 12 ⊗ var 4 ⊕ (var 6 ⊕ var 8 ⊕ var 10); qy = var 12 ⊗ var 5 ⊕ (var 7 ⊕ var 9 ⊕ var 11); qw = var 12 ⊕ con (pos 3) }))
    (var 12 ⊗ orient_e (vp 0) (vp 1) (vp 2) ⊕ (orient_e (vp 0) (vp 1) (vp 3) ⊕ orient_e (vp 0) (vp 1) (vp 4) ⊕ orient_e (vp 0) (vp 1) (vp 5)))
    (u.x ∷ u.y ∷ v.x ∷ v.y ∷ p.x ∷ p.y ∷ a.x ∷ a.y ∷ b.x ∷ b.y ∷ c.x ∷ c.y ∷ pos K ∷ []) tt

base0 : (a b c : Pt ℤ) → orient a b a +ℤ orient a b b +ℤ orient a b c ≡ orient a b c
unfolding orient
base0 = by3 (λ a b c. orient_e a b a ⊕ orient_e a b b ⊕ orient_e a b c) (λ a b c. orient_e a b c) tt

base1 : (a b c : Pt ℤ) → orient b c a +ℤ orient b c b +ℤ orient b c c ≡ orient a b c
unfolding orient
base1 = by3 (λ a b c. orient_e b c a ⊕ orient_e b c b ⊕ orient_e b c c) (λ a b c. orient_e a b c) tt

base2 : (a b c : Pt ℤ) → orient c a a +ℤ orient c a b +ℤ orient c a c ≡ orient a b c
unfolding orient
base2 = by3 (λ a b c. orient_e c a a ⊕ orient_e c a b ⊕ orient_e c a c) (λ a b c. orient_e a b c) tt

module _ {P : ℕ → Pt ℤ} {B : Side → Pt ℤ} {k : ℕ} {m : Net} (v : Tiling P B k m) (p : Pt ℤ) (within : (i : Side) → NonNeg (orient (B i) (B (next i)) p)) where
  lean : Pt ℤ → Pt ℤ → ℤ
  lean u w = orient u w (B s0) +ℤ orient u w (B s1) +ℤ orient u w (B s2)

  K : ℕ
  K = suc (max_to (3 * m.tris) (λ h. nat_abs (lean (P (m.org h)) (P (dst m h)))))

  q : Place ℤ
  q = toward K p (B s0) (B s1) (B s2)

  q_pos : Pos q.qw
  unfolding q toward
  q_pos = nn+pos (nn_pos K) (pos_num 3 (let z : 0 < 3 = omega arith in z))

  inner : (i : Side) → Pos (line (B i) (B (next i)) q)
  unfolding q
  inner s0 = pos_by (toward_line K (B s0) (B s1) p (B s0) (B s1) (B s2)
      ∙ ap (λ (z : ℤ). pos K *ℤ orient (B s0) (B s1) p +ℤ z) (base0 (B s0) (B s1) (B s2))) (nn+pos (nn*nn (nn_pos K) (within s0)) v.base_ccw)
  inner s1 = pos_by (toward_line K (B s1) (B s2) p (B s0) (B s1) (B s2)
      ∙ ap (λ (z : ℤ). pos K *ℤ orient (B s1) (B s2) p +ℤ z) (base1 (B s0) (B s1) (B s2))) (nn+pos (nn*nn (nn_pos K) (within s1)) v.base_ccw)
  inner s2 = pos_by (toward_line K (B s2) (B s0) p (B s0) (B s1) (B s2)
      ∙ ap (λ (z : ℤ). pos K *ℤ orient (B s2) (B s0) p +ℤ z) (base2 (B s0) (B s1) (B s2))) (nn+pos (nn*nn (nn_pos K) (within s2)) v.base_ccw)

  back : (h : ℕ) → h < 3 * m.tris → (w : Pt ℤ) → P (dst m h) ≡ w → NonNeg (line (P (m.org h)) w q) → NonNeg (orient (P (m.org h)) w p)
  unfolding q K lean
  back h b w e z =
      dom_nn K (orient (P (m.org h)) w p) (lean (P (m.org h)) w) (subst (λ (y : Pt ℤ). nat_abs (lean (P (m.org h)) y) < K) e small)
      (nn_by (sym (toward_line K (P (m.org h)) w p (B s0) (B s1) (B s2))) z)
    where
      small : nat_abs (lean (P (m.org h)) (P (dst m h))) < K
      small = let r = max_to_le (3 * m.tris) (λ h. nat_abs (lean (P (m.org h)) (P (dst m h)))) h b in omega arith

  -- a point of the closed base lies in a closed triangle
  pub located : (t : ℕ) × (t < m.tris) × Holds P m p t
  unfolding mesh
  located =
      let r = cover_closed (mesh P B m) (covers v) q q_pos inner in
      let t = r.0 in (
        t,
        r.1,
        record {
          ab = back (3 * t) (let l = r.1 in omega arith) (P (m.org (3 * t + 1))) (ap (λ (x : ℕ). P (m.org x)) (nxt0 t)) r.2.ab;
          bc = back (3 * t + 1) (let l = r.1 in omega arith) (P (m.org (3 * t + 2))) (ap (λ (x : ℕ). P (m.org x)) (nxt1 t)) r.2.bc;
          ca = back (3 * t + 2) (let l = r.1 in omega arith) (P (m.org (3 * t))) (ap (λ (x : ℕ). P (m.org x)) (nxt2 t)) r.2.ca;
        },
      )

-- ---- a place near the middle of an edge, on the side of c

beside : ℕ → Pt ℤ → Pt ℤ → Pt ℤ → Place ℤ
beside K a b c = record { qx = pos K *ℤ (a.x +ℤ b.x) +ℤ c.x; qy = pos K *ℤ (a.y +ℤ b.y) +ℤ c.y; qw = pos K *ℤ pos 2 +ℤ pos 1 }

beside_line : (K : ℕ) (u v a b c : Pt ℤ) → line u v (beside K a b c) ≡ pos K *ℤ (orient u v a +ℤ orient u v b) +ℤ orient u v c
unfolding line beside orient
beside_line K u v a b c =
    solve (line_e (vp 0) (vp 1) (record { qx = var 10 ⊗ (var 4 ⊕ var 6) ⊕ var 8; qy = var 10 ⊗ (var 5 ⊕ var 7) ⊕ var 9; qw = var 10 ⊗ con (pos 2) ⊕ con (pos 1) }))
    (var 10 ⊗ (orient_e (vp 0) (vp 1) (vp 2) ⊕ orient_e (vp 0) (vp 1) (vp 3)) ⊕ orient_e (vp 0) (vp 1) (vp 4))
    (u.x ∷ u.y ∷ v.x ∷ v.y ∷ a.x ∷ a.y ∷ b.x ∷ b.y ∷ c.x ∷ c.y ∷ pos K ∷ []) tt

ab_ab : (a b c : Pt ℤ) → orient a b a +ℤ orient a b b ≡ pos 0
unfolding orient
ab_ab = by3 (λ a b c. orient_e a b a ⊕ orient_e a b b) (λ a b c. con (pos 0)) tt

bc_ab : (a b c : Pt ℤ) → orient b c a +ℤ orient b c b ≡ orient a b c
unfolding orient
bc_ab = by3 (λ a b c. orient_e b c a ⊕ orient_e b c b) (λ a b c. orient_e a b c) tt

ca_ab : (a b c : Pt ℤ) → orient c a a +ℤ orient c a b ≡ orient a b c
unfolding orient
ca_ab = by3 (λ a b c. orient_e c a a ⊕ orient_e c a b) (λ a b c. orient_e a b c) tt

-- it lies in each triangle a b d on that side, for a great K
beside_in : (K : ℕ) (a b c d : Pt ℤ) → Pos (orient a b c) → Pos (orient a b d) → nat_abs (orient b d c) < K → nat_abs (orient d a c) < K → Strictly (beside K a b c) a b d
beside_in K a b c d h k l l' = record {
  ab = pos_by (beside_line K a b a b c ∙ ap (λ (z : ℤ). pos K *ℤ z +ℤ orient a b c) (ab_ab a b c) ∙ solve (var 0 ⊗ con (pos 0) ⊕ var 1) (var 1) (pos K ∷ orient a b c ∷ []) tt) h;
  bc = pos_by (beside_line K b d a b c ∙ ap (λ (z : ℤ). pos K *ℤ z +ℤ orient b d c) (bc_ab a b d)) (dom K (orient a b d) (orient b d c) l k);
  ca = pos_by (beside_line K d a a b c ∙ ap (λ (z : ℤ). pos K *ℤ z +ℤ orient d a c) (ca_ab a b d)) (dom K (orient a b d) (orient d a c) l' k);
}

zero_abs : (z : ℤ) (K : ℕ) → z ≡ pos 0 → 0 < K → nat_abs z < K
zero_abs z K e l = rw e l

flat_b : (b c : Pt ℤ) → orient b c c ≡ pos 0
unfolding orient
flat_b b c = by3 (λ a b c. orient_e b c c) (λ a b c. con (pos 0)) tt b b c

flat_c : (a c : Pt ℤ) → orient c a c ≡ pos 0
unfolding orient
flat_c a c = by3 (λ a b c. orient_e c a c) (λ a b c. con (pos 0)) tt a a c

strictly_turn : (q : Place ℤ) (a b c : Pt ℤ) → Strictly q a b c → Strictly q b c a
strictly_turn q a b c s = record { ab = s.bc; bc = s.ca; ca = s.ab }

module _ {P : ℕ → Pt ℤ} {B : Side → Pt ℤ} {k : ℕ} {m : Net} (v : Tiling P B k m) (inn : (u : ℕ) → u < k → (i : Side) → NonNeg (orient (B i) (B (next i)) (P u))) where
  -- a place in the triangle of a half-edge
  in_slot : (q : Place ℤ) (h : ℕ) → h < 3 * m.tris → from P m (Strictly q) h → in_tri (mesh P B m) q (h / 3) ≡ true
  unfolding mesh
  in_slot q h b s = inside_of q (P (m.org (3 * (h / 3)))) (P (m.org (3 * (h / 3) + 1))) (P (m.org (3 * (h / 3) + 2))) (go (edge (h / 3) h refl))
    where
      t : ℕ
      t = h / 3

      o : ℕ → Pt ℤ
      o x = P (m.org x)

      go : Edge t h → Strictly q (P (m.org (3 * t))) (P (m.org (3 * t + 1))) (P (m.org (3 * t + 2)))
      go (e0 e) = rw (nxt0 t, nxt1 t) at (subst (λ (x : ℕ). Strictly q (P (m.org x)) (P (m.org (nxt x))) (P (m.org (nxt (nxt x))))) e s)
      go (e1 e) = strictly_turn q (o (3 * t + 2)) (o (3 * t)) (o (3 * t + 1))
          (strictly_turn q (o (3 * t + 1)) (o (3 * t + 2)) (o (3 * t))
          (rw (nxt1 t, nxt2 t) at (subst (λ (x : ℕ). Strictly q (P (m.org x)) (P (m.org (nxt x))) (P (m.org (nxt (nxt x))))) e s)))
      go (e2 e) = strictly_turn q (o (3 * t + 2)) (o (3 * t)) (o (3 * t + 1))
          (rw (nxt2 t, nxt0 t) at (subst (λ (x : ℕ). Strictly q (P (m.org x)) (P (m.org (nxt x))) (P (m.org (nxt (nxt x))))) e s))

  tri_pos : (h : ℕ) → h < 3 * m.tris → Pos (from P m orient h)
  tri_pos h b = pos_by (sym (tri_from P m orient orient_cyc h)) (v.ccw (h / 3) (let z : h / 3 < m.tris = omega arith in z))

  -- no directed edge stands in two triangles
  pub one_edge : (h g : ℕ) → h < 3 * m.tris → g < 3 * m.tris → m.org g ≡ m.org h → dst m g ≡ dst m h → g ≡ h
  unfolding mesh beside
  one_edge h g hb gb e f = go (turn h g slot)
    where
      a : Pt ℤ
      a = P (m.org h)

      b : Pt ℤ
      b = P (m.org (nxt h))

      c : Pt ℤ
      c = P (m.org (nxt (nxt h)))

      d : Pt ℤ
      d = P (m.org (nxt (nxt g)))

      K : ℕ
      K = 1 + nat_abs (orient b d c) + nat_abs (orient d a c)

      q : Place ℤ
      q = beside K a b c

      ga : (f' : Pt ℤ → Pt ℤ → Pt ℤ → ℤ) → from P m f' g ≡ f' a b d
      ga f' = ap₂ (λ (x y : ℕ). f' (P x) (P y) d) e f

      abd : Pos (orient a b d)
      abd = pos_by (sym (ga orient)) (tri_pos g gb)

      in_h : Strictly q a b c
      in_h = beside_in K a b c c (tri_pos h hb) (tri_pos h hb) (zero_abs (orient b c c) K (flat_b b c) (omega arith)) (zero_abs (orient c a c) K (flat_c a c) (omega arith))

      in_g : Strictly q a b d
      in_g = beside_in K a b c d (tri_pos h hb) abd (omega arith) (omega arith)

      slot : g / 3 ≡ h / 3
      slot =
          disjoint (mesh P B m) (covers v) (λ x l i. inn (m.org x) (v.corners x l) i) q wpos (g / 3) (h / 3) (let z : g / 3 < m.tris = omega arith in z) (let z : h / 3 < m.tris = omega arith in z)
          (in_slot q g gb (subst (λ (x : ℕ). Strictly q (P x) (P (m.org (nxt g))) d) (sym e) (subst (λ (x : ℕ). Strictly q a (P x) d) (sym f) in_g)))
          (in_slot q h hb in_h)
        where
          wpos : Pos q.qw
          wpos = nn+pos (nn*nn (nn_pos K) (nn_pos 2)) (pos_num 1 (omega arith))

      go : Turn h g → g ≡ h
      go (it z) = z
      go (one z) = absurd (tile_apart v h hb (sym e ∙ ap m.org z))
      go (two z) = absurd (tile_apart v (nxt (nxt h)) (nxt_in (nxt h) m.tris (nxt_in h m.tris hb)) (sym (ap m.org z) ∙ e ∙ ap m.org (sym (nxt_three h))))
