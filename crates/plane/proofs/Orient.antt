-- The identities of orientation. Assumes nothing.
use mathlib.Core.Path.{◌≡◌}
use lib.IntN.{ℤ, pos, ◌+ℤ◌, ◌-ℤ◌, ◌*ℤ◌, neg_ℤ}
use Rattle.algebra.proofs.Ring.{con, ◌⊕◌, ◌⊖◌, ◌⊗◌, ⊝◌}
use Rattle.plane.specs.Points.{Pt}
use Rattle.plane.specs.Determinants.{orient}
use Rattle.plane.proofs.Polynomials.{orient_e, by2, by3, by4, by5}

pub orient_cyc : (a b c : Pt ℤ) → orient a b c ≡ orient b c a
unfolding orient
orient_cyc = by3 orient_e (λ a b c. orient_e b c a) tt

pub orient_swap : (a b c : Pt ℤ) → orient a b c ≡ neg_ℤ (orient b a c)
unfolding orient
orient_swap = by3 orient_e (λ a b c. ⊝ orient_e b a c) tt

-- two points that are one have no area
pub thin_aab : (a b : Pt ℤ) → orient a a b ≡ pos 0
unfolding orient
thin_aab = by2 (λ a b. orient_e a a b) (λ a b. con (pos 0)) tt

pub thin_aba : (a b : Pt ℤ) → orient a b a ≡ pos 0
unfolding orient
thin_aba = by2 (λ a b. orient_e a b a) (λ a b. con (pos 0)) tt

pub thin_abb : (a b : Pt ℤ) → orient a b b ≡ pos 0
unfolding orient
thin_abb = by2 (λ a b. orient_e a b b) (λ a b. con (pos 0)) tt

-- a triangle is the sum of the three to a point
pub orient_sum : (a b c d : Pt ℤ) → orient a b d +ℤ orient b c d +ℤ orient c a d ≡ orient a b c
unfolding orient
orient_sum = by4 (λ a b c d. orient_e a b d ⊕ orient_e b c d ⊕ orient_e c a d) (λ a b c d. orient_e a b c) tt

-- a flip keeps the area
pub area_flip : (a b c d : Pt ℤ) → orient a d c +ℤ orient d b c ≡ orient a b c +ℤ orient b a d
unfolding orient
area_flip = by4 (λ a b c d. orient_e a d c ⊕ orient_e d b c) (λ a b c d. orient_e a b c ⊕ orient_e b a d) tt

pub pluecker : (a b c d e : Pt ℤ) → orient a b c *ℤ orient a d e -ℤ orient a b d *ℤ orient a c e +ℤ orient a b e *ℤ orient a c d ≡ pos 0
unfolding orient
pluecker =
    by5 (λ a b c d e. orient_e a b c ⊗ orient_e a d e ⊖ orient_e a b d ⊗ orient_e a c e ⊕ orient_e a b e ⊗ orient_e a c d) (λ a b c d e. con (pos 0)) tt

-- a point's coordinates by its three triangles
pub bary_x : (a b c p : Pt ℤ) → orient a b c *ℤ (p.x -ℤ b.x) ≡ orient a b p *ℤ (c.x -ℤ b.x) +ℤ orient b c p *ℤ (a.x -ℤ b.x)
unfolding orient
bary_x = by4 (λ a b c p. orient_e a b c ⊗ (p.x ⊖ b.x)) (λ a b c p. orient_e a b p ⊗ (c.x ⊖ b.x) ⊕ orient_e b c p ⊗ (a.x ⊖ b.x)) tt

pub bary_y : (a b c p : Pt ℤ) → orient a b c *ℤ (p.y -ℤ b.y) ≡ orient a b p *ℤ (c.y -ℤ b.y) +ℤ orient b c p *ℤ (a.y -ℤ b.y)
unfolding orient
bary_y = by4 (λ a b c p. orient_e a b c ⊗ (p.y ⊖ b.y)) (λ a b c p. orient_e a b p ⊗ (c.y ⊖ b.y) ⊕ orient_e b c p ⊗ (a.y ⊖ b.y)) tt
