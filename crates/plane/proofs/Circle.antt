-- The identities of the circle determinant. Assumes nothing.
use mathlib.Core.Path.{◌≡◌}
use lib.IntN.{ℤ, pos, ◌+ℤ◌, ◌-ℤ◌, ◌*ℤ◌, neg_ℤ}
use Rattle.algebra.proofs.Ring.{Expr, con, ◌⊕◌, ◌⊖◌, ◌⊗◌, ⊝◌}
use Rattle.plane.specs.Points.{Pt, minus, lift}
use Rattle.plane.specs.Determinants.{orient, incircle, vol}
use Rattle.plane.proofs.Polynomials.{PtE, minus_e, lift_e, orient_e, incircle_e, vol_e, by3, by4, by5}

-- ---- the points in another order

pub incircle_cyc : (a b c d : Pt ℤ) → incircle a b c d ≡ incircle b c a d
unfolding incircle
incircle_cyc = by4 incircle_e (λ a b c d. incircle_e b c a d) tt

pub incircle_swap : (a b c d : Pt ℤ) → incircle a b c d ≡ neg_ℤ (incircle b a c d)
unfolding incircle
incircle_swap = by4 incircle_e (λ a b c d. ⊝ incircle_e b a c d) tt

pub incircle_swap_last : (a b c d : Pt ℤ) → incircle a b c d ≡ neg_ℤ (incircle a b d c)
unfolding incircle
incircle_swap_last = by4 incircle_e (λ a b c d. ⊝ incircle_e a b d c) tt

-- the edge a b, from either side
pub incircle_flip : (a b c d : Pt ℤ) → incircle a b c d ≡ incircle b a d c
unfolding incircle
incircle_flip = by4 incircle_e (λ a b c d. incircle_e b a d c) tt

-- the edge c d of the same four points, which a flip puts for a b
pub incircle_turn : (a b c d : Pt ℤ) → incircle c d b a ≡ neg_ℤ (incircle a b c d)
unfolding incircle
incircle_turn = by4 (λ a b c d. incircle_e c d b a) (λ a b c d. ⊝ incircle_e a b c d) tt

-- a corner is on its own circle
pub incircle_corner : (a b c : Pt ℤ) → incircle a b c c ≡ pos 0
unfolding incircle
incircle_corner = by3 (λ a b c. incircle_e a b c c) (λ a b c. con (pos 0)) tt

-- ---- the lifted volume

pub vol_cyc : (a b c : Pt ℤ) → vol a b c ≡ vol b c a
unfolding vol
vol_cyc = by3 vol_e (λ a b c. vol_e b c a) tt

-- a flip lowers it by the circle determinant
pub vol_flip : (a b c d : Pt ℤ) → vol a b c +ℤ vol b a d -ℤ vol a d c -ℤ vol d b c ≡ incircle a b c d
unfolding incircle vol
vol_flip = by4 (λ a b c d. vol_e a b c ⊕ vol_e b a d ⊖ vol_e a d c ⊖ vol_e d b c) incircle_e tt

-- ---- circles through two points

-- (a - z) · (b - z)
unfoldable pub dot : Pt ℤ → Pt ℤ → Pt ℤ → ℤ
dot a b z = (a.x -ℤ z.x) *ℤ (b.x -ℤ z.x) +ℤ (a.y -ℤ z.y) *ℤ (b.y -ℤ z.y)

abbrev pub dot_e : PtE → PtE → PtE → Expr
dot_e a b z = (a.x ⊖ z.x) ⊗ (b.x ⊖ z.x) ⊕ (a.y ⊖ z.y) ⊗ (b.y ⊖ z.y)

-- they are ordered by dot over orientation
pub pencil : (a b c d : Pt ℤ) → incircle a b c d ≡ dot a b c *ℤ orient a b d -ℤ dot a b d *ℤ orient a b c
unfolding incircle orient dot
pencil = by4 incircle_e (λ a b c d. dot_e a b c ⊗ orient_e a b d ⊖ dot_e a b d ⊗ orient_e a b c) tt

-- so the order is transitive: three circles through a and b
pub pencil_three : (a b c d e : Pt ℤ) → orient a b d *ℤ incircle a b c e ≡ orient a b c *ℤ incircle a b d e +ℤ orient a b e *ℤ incircle a b c d
unfolding incircle orient
pencil_three =
    by5 (λ a b c d e. orient_e a b d ⊗ incircle_e a b c e) (λ a b c d e. orient_e a b c ⊗ incircle_e a b d e ⊕ orient_e a b e ⊗ incircle_e a b c d) tt

pub lagrange : (a b z : Pt ℤ) → lift (minus a z) *ℤ lift (minus b z) ≡ orient a b z *ℤ orient a b z +ℤ dot a b z *ℤ dot a b z
unfolding orient dot
lagrange = by3 (λ a b z. lift_e (minus_e a z) ⊗ lift_e (minus_e b z)) (λ a b z. orient_e a b z ⊗ orient_e a b z ⊕ dot_e a b z ⊗ dot_e a b z) tt

-- ---- with one of the four as the origin

-- |b|² (d × c) is the circle determinant and |c|² (d × b) and |d|² (b × c)
pub incircle_at : (a b c d : Pt ℤ) → lift (minus b a) *ℤ orient a d c ≡ incircle a b c d +ℤ lift (minus c a) *ℤ orient b a d +ℤ lift (minus d a) *ℤ orient a b c
unfolding orient incircle
incircle_at =
    by4 (λ a b c d. lift_e (minus_e b a) ⊗ orient_e a d c)
    (λ a b c d. incircle_e a b c d ⊕ lift_e (minus_e c a) ⊗ orient_e b a d ⊕ lift_e (minus_e d a) ⊗ orient_e a b c) tt

-- the circle determinant by the three triangles at d: d in the triangle is in the circle
pub incircle_bary : (a b c d : Pt ℤ) → orient a b c *ℤ incircle a b c d ≡ orient b c d *ℤ orient c a d *ℤ lift
    (minus a b) +ℤ orient c a d *ℤ orient a b d *ℤ lift (minus b c) +ℤ orient a b d *ℤ orient b c d *ℤ lift (minus c a)
unfolding orient incircle
incircle_bary =
    by4 (λ a b c d. orient_e a b c ⊗ incircle_e a b c d)
    (λ a b c d. orient_e b c d ⊗ orient_e c a d ⊗ lift_e (minus_e a b) ⊕ orient_e c a d ⊗ orient_e a b d ⊗ lift_e (minus_e b c) ⊕ orient_e a b d ⊗ orient_e b c d ⊗ lift_e (minus_e c a))
    tt
