-- Where each corner of a tiling lies in the base or on its boundary, a place strictly inside a triangle is strictly inside the base: so no
-- place at all lies strictly inside two triangles. Assumes nothing.
use mathlib.Core.Path.{◌≡◌, sym, ap, ap₂, ◌∙◌}
use mathlib.Core.Bool.{true}
use Prim.Native.Nat.{ℕ, ◌+◌, ◌*◌, ◌<◌}
use lib.IntN.{ℤ, pos, ◌+ℤ◌, ◌*ℤ◌, *ℤ-zero}
use Rattle.algebra.specs.Order.{Pos, NonNeg}
use Rattle.algebra.proofs.Order.{pos_by, pos_nn, pos*pos, pos+nn, nn+pos, nn*nn, nn+nn, pos_cancel, not_zero, Sign, is_pos, is_below_zero, is_zero, sign}
use Rattle.plane.specs.Points.{Pt}
use Rattle.plane.specs.Determinants.{orient}
use Rattle.plane.specs.Places.{Place, line}
use Rattle.plane.specs.Inside.{Strictly}
use Rattle.plane.specs.Base.{next, InBase, Within}
use Rattle.plane.specs.Mesh.{Mesh, Covers}
use Rattle.plane.proofs.Line.{line_whole, line_bary}
use Rattle.plane.proofs.Sign.{nn_clash}
use Rattle.plane.proofs.Base.{base_turned}
use Rattle.plane.proofs.Halfedges.{third, third1, third2}
use Rattle.plane.proofs.Mesh.{in_tri}
use Rattle.plane.proofs.Cover.{of_inside, cover_apart}

-- A line's value at a point follows from its values at a triangle's corners.
pub orient_bary : (u v r a b c : Pt ℤ) →
    orient a b c *ℤ orient u v r ≡ orient a b r *ℤ orient u v c +ℤ orient b c r *ℤ orient u v a +ℤ orient c a r *ℤ orient u v b
orient_bary u v r a b c =
    ap (λ (z : ℤ). orient a b c *ℤ z) (sym (line_whole u v r)) ∙
    line_bary (record { qx = r.x; qy = r.y; qw = pos 1 }) u v a b c ∙
    rw (line_whole a b r, line_whole b c r, line_whole c a r)

-- The corners of a triangle with an area are not all on one line.
pub not_flat : (u v r a b c : Pt ℤ) → Pos (orient u v r) → Pos (orient a b c) → orient u v a ≡ pos 0 → orient u v b ≡ pos 0 → orient u v c ≡ pos 0 → ⊥
not_flat u v r a b c h k i j l =
    not_zero (pos*pos k h)
    (orient_bary u v r a b c ∙
    ap₂ (λ (x y : ℤ). x +ℤ y) (ap₂ (λ (x y : ℤ). x +ℤ y) (zap (orient a b r) l) (zap (orient b c r) i)) (zap (orient c a r) j))
  where
    zap : (y : ℤ) {z : ℤ} → z ≡ pos 0 → y *ℤ z ≡ pos 0
    zap y e = ap (λ (x : ℤ). y *ℤ x) e ∙ *ℤ-zero y

-- A sum with positive weights is positive where what it weighs is not negative and not all zero.
pub weighed : (x y z a b c : ℤ) → Pos x → Pos y → Pos z → NonNeg a → NonNeg b → NonNeg c →
    (a ≡ pos 0 → b ≡ pos 0 → c ≡ pos 0 → ⊥) → Pos (x *ℤ a +ℤ y *ℤ b +ℤ z *ℤ c)
weighed x y z a b c p q r i j k f = go (sign a) (sign b) (sign c)
  where
    go : Sign a → Sign b → Sign c → Pos (x *ℤ a +ℤ y *ℤ b +ℤ z *ℤ c)
    go (is_pos h) s t = pos+nn (pos+nn (pos*pos p h) (nn*nn (pos_nn q) j)) (nn*nn (pos_nn r) k)
    go (is_below_zero h) s t = nn_clash a i h
    go (is_zero h) (is_pos g) t = pos+nn (nn+pos (nn*nn (pos_nn p) i) (pos*pos q g)) (nn*nn (pos_nn r) k)
    go (is_zero h) (is_below_zero g) t = nn_clash b j g
    go (is_zero h) (is_zero g) (is_pos e) = nn+pos (nn+nn (nn*nn (pos_nn p) i) (nn*nn (pos_nn q) j)) (pos*pos r e)
    go (is_zero h) (is_zero g) (is_below_zero e) = nn_clash c k e
    go (is_zero h) (is_zero g) (is_zero e) = absurd (f h g e)

pub inner_strict : (q : Place ℤ) (u v r a b c : Pt ℤ) → Pos (orient u v r) → Pos (orient a b c) → Strictly q a b c →
    NonNeg (orient u v a) → NonNeg (orient u v b) → NonNeg (orient u v c) → Pos (line u v q)
inner_strict q u v r a b c o k s i j l =
    pos_cancel (pos_nn k)
    (pos_by (line_bary q u v a b c)
    (weighed (line a b q) (line b c q) (line c a q) (orient u v c) (orient u v a) (orient u v b) s.ab s.bc s.ca l i j
    (λ e f g. not_flat u v r a b c o k f g e)))

module _ (m : Mesh) (ok : Covers m) (inner : (h : ℕ) → h < 3 * m.tris → InBase m.base (m.org h)) where
  pub in_within : (q : Place ℤ) (t : ℕ) → t < m.tris → in_tri m q t ≡ true → Within m.base q
  in_within q t l e i =
      inner_strict q (m.base i) (m.base (next i)) (m.base (next (next i))) a b c (base_turned m.base ok.base_ccw i) (ok.ccw t l) (of_inside q a b c e)
      (inner (3 * t) (third t m.tris l) i) (inner (3 * t + 1) (third1 t m.tris l) i) (inner (3 * t + 2) (third2 t m.tris l) i)
    where
      a : Pt ℤ
      a = m.org (3 * t)

      b : Pt ℤ
      b = m.org (3 * t + 1)

      c : Pt ℤ
      c = m.org (3 * t + 2)

  -- No place lies strictly inside two triangles.
  pub disjoint : (q : Place ℤ) → Pos q.qw → (i j : ℕ) → i < m.tris → j < m.tris → in_tri m q i ≡ true → in_tri m q j ≡ true → i ≡ j
  disjoint q w i j k l d e = cover_apart m ok q w (in_within q i k d) i j k l d e
