-- Where the circle sign is not negative the two new triangles are counterclockwise: step 3's last clause asks nothing more, and with no
-- flip left every inner unmarked edge has a circle sign that is negative, or zero and a rank pair not above. Assumes nothing.
use mathlib.Core.List.{[], ◌∷◌}
use mathlib.Core.Logic.{◌⊎◌, inl, inr}
use mathlib.Core.Path.{◌≡◌, sym, ap, ◌∙◌}
use Prim.Native.Nat.{ℕ, suc, ◌*◌, ◌/◌, ◌<◌}
use native.Mathlib.Omega.{arith}
use lib.IntN.{ℤ, pos, ◌-ℤ◌, ◌*ℤ◌, neg_ℤ}
use Rattle.algebra.proofs.Laws.{eq_of_sub_zero}
use Rattle.algebra.proofs.Order.{pos_by, nn_by, pos_nn, nn_pos, pos*pos, pos+nn, nn+pos, nn+nn, nn*nn, sq_nn, pos_cancel, not_zero, Sign, is_pos, is_below_zero, is_zero, sign}
use Rattle.algebra.proofs.Ring.{con, var, ◌⊗◌, ⊝◌, solve}
use Rattle.algebra.specs.Order.{Pos, NonNeg}
use Rattle.plane.proofs.Base.{pt_eq}
use Rattle.plane.proofs.Circle.{incircle_flip, incircle_at}
use Rattle.plane.proofs.Convex.{lift_nn}
use Rattle.plane.proofs.Orient.{orient_cyc}
use Rattle.plane.proofs.Polynomials.{orient_e, by3}
use Rattle.plane.specs.Base.{Side}
use Rattle.plane.specs.Determinants.{orient, incircle}
use Rattle.plane.specs.Halfedges.{nxt}
use Rattle.plane.specs.Points.{Pt, minus, lift}
use Rattle.nets.specs.Flipping.{Wants, Lower}
use Rattle.nets.specs.Nets.{Net, prv}
use Rattle.nets.specs.Tilings.{Tiling}
use Rattle.nets.proofs.FlipTile.{mate_from}
use Rattle.nets.proofs.Tile.{tri_from}

sq_zero : (z : ℤ) → ¬ (z ≡ pos 0) → Pos (z *ℤ z)
sq_zero z n = go (sign z)
  where
    go : Sign z → Pos (z *ℤ z)
    go (is_pos p) = pos*pos p p
    go (is_below_zero q) = pos_by (solve (var 0 ⊗ var 0) ((⊝ var 0) ⊗ (⊝ var 0)) (z ∷ []) tt) (pos*pos q q)
    go (is_zero e) = absurd (n e)

-- two points apart
lift_pos : (a b : Pt ℤ) → ¬ (a ≡ b) → Pos (lift (minus a b))
lift_pos a b n = go (sign (a.x -ℤ b.x)) (sign (a.y -ℤ b.y))
  where
    nz : (z : ℤ) → Pos z → ¬ (z ≡ pos 0)
    nz z p e = not_zero p e

    nzn : (z : ℤ) → Pos (neg_ℤ z) → ¬ (z ≡ pos 0)
    nzn z p e = not_zero p (ap neg_ℤ e)

    go : Sign (a.x -ℤ b.x) → Sign (a.y -ℤ b.y) → Pos (lift (minus a b))
    go (is_pos p) s = pos+nn (sq_zero (a.x -ℤ b.x) (nz (a.x -ℤ b.x) p)) (sq_nn (a.y -ℤ b.y))
    go (is_below_zero p) s = pos+nn (sq_zero (a.x -ℤ b.x) (nzn (a.x -ℤ b.x) p)) (sq_nn (a.y -ℤ b.y))
    go (is_zero e) (is_pos p) = nn+pos (sq_nn (a.x -ℤ b.x)) (sq_zero (a.y -ℤ b.y) (nz (a.y -ℤ b.y) p))
    go (is_zero e) (is_below_zero p) = nn+pos (sq_nn (a.x -ℤ b.x)) (sq_zero (a.y -ℤ b.y) (nzn (a.y -ℤ b.y) p))
    go (is_zero e) (is_zero f) = absurd (n (pt_eq a b (eq_of_sub_zero a.x b.x e) (eq_of_sub_zero a.y b.y f)))

thin : (a b : Pt ℤ) → orient a b a ≡ pos 0
unfolding orient
thin a b = by3 (λ a b c. orient_e a b a) (λ a b c. con (pos 0)) tt a b b

pub round_a : (a b c d : Pt ℤ) → Pos (orient a b c) → Pos (orient b a d) → NonNeg (incircle a b c d) → Pos (orient a d c)
round_a a b c d h k i =
    pos_cancel (lift_nn (minus b a))
    (pos_by (incircle_at a b c d)
    (nn+pos (nn+nn i (nn*nn (lift_nn (minus c a)) (pos_nn k))) (pos*pos (lift_pos d a (λ e. not_zero k (ap (orient b a) e ∙ flat b a))) h)))
  where
    flat : (b a : Pt ℤ) → orient b a a ≡ pos 0
    flat b a = sym (orient_cyc a b a) ∙ thin a b

pub round_b : (a b c d : Pt ℤ) → Pos (orient a b c) → Pos (orient b a d) → NonNeg (incircle a b c d) → Pos (orient d b c)
round_b a b c d h k i = pos_by (orient_cyc d b c) (round_a b a d c k h (nn_by (incircle_flip b a d c) i))

-- an edge with a gain is wanted
module _ {P : ℕ → Pt ℤ} {B : Side → Pt ℤ} {k : ℕ} {m : Net} (v : Tiling P B k m) (rk : ℕ → ℕ) (h g : ℕ) (hb : h < 3 * m.tris) (pair : m.adj h ≡ suc g) (free : m.con h ≡ 0) where
  abbrev inc : ℤ
  inc = incircle (P (m.org h)) (P (m.org (nxt h))) (P (m.org (prv h))) (P (m.org (prv g)))

  abc : Pos (orient (P (m.org h)) (P (m.org (nxt h))) (P (m.org (prv h))))
  abc = pos_by (sym (tri_from P m orient orient_cyc h)) (v.ccw (h / 3) (let q : h / 3 < m.tris = omega arith in q))

  bad : Pos (orient (P (m.org (nxt h))) (P (m.org h)) (P (m.org (prv g))))
  bad = pos_by (sym (tri_from P m orient orient_cyc g ∙ mate_from v h g hb pair P orient)) (v.ccw (g / 3) (let l = v.linked.low h g hb pair in let q : g / 3 < m.tris = omega arith in q))

  pub wanted : Pos inc ⊎ ((inc ≡ pos 0) × Lower rk (m.org (prv h)) (m.org (prv g)) (m.org h) (m.org (nxt h))) → Wants P rk m h g
  wanted s = record {
    pair = pair;
    free = free;
    gain = s;
    ccw_t = round_a (P (m.org h)) (P (m.org (nxt h))) (P (m.org (prv h))) (P (m.org (prv g))) abc bad (nn s);
    ccw_n = round_b (P (m.org h)) (P (m.org (nxt h))) (P (m.org (prv h))) (P (m.org (prv g))) abc bad (nn s);
  }
    where
      nn : Pos inc ⊎ ((inc ≡ pos 0) × Lower rk (m.org (prv h)) (m.org (prv g)) (m.org h) (m.org (nxt h))) → NonNeg inc
      nn (inl p) = pos_nn p
      nn (inr p) = nn_by p.0 (nn_pos 0)
