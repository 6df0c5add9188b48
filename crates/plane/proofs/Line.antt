-- A place against the lines through points. Assumes nothing.
use mathlib.Core.Path.{◌≡◌}
use lib.IntN.{ℤ, pos, ◌+ℤ◌, ◌*ℤ◌, neg_ℤ}
use Rattle.algebra.proofs.Ring.{con, ◌⊕◌, ◌⊗◌, ⊝◌}
use Rattle.plane.specs.Points.{Pt, at}
use Rattle.plane.specs.Determinants.{orient}
use Rattle.plane.specs.Places.{Place, line}
use Rattle.plane.proofs.Polynomials.{orient_e, line_e, by3, by_q2, by_q3, by_q5}

-- the scaled orientation is the orientation: with u, v and the place all multiplied by W, and at a whole place as it is
pub line_scaled : (q : Place ℤ) (u v : Pt ℤ) → q.qw *ℤ line u v q ≡ orient (at (q.qw *ℤ u.x) (q.qw *ℤ u.y)) (at (q.qw *ℤ v.x) (q.qw *ℤ v.y)) (at q.qx q.qy)
unfolding line orient
line_scaled =
    by_q2 (λ q u v. q.qw ⊗ line_e u v q)
    (λ q u v. orient_e (record { x = q.qw ⊗ u.x; y = q.qw ⊗ u.y }) (record { x = q.qw ⊗ v.x; y = q.qw ⊗ v.y }) (record { x = q.qx; y = q.qy })) tt

pub line_whole : (u v p : Pt ℤ) → line u v (record { qx = p.x; qy = p.y; qw = pos 1 }) ≡ orient u v p
unfolding line orient
line_whole = by3 (λ u v p. line_e u v (record { qx = p.x; qy = p.y; qw = con (pos 1) })) orient_e tt

pub line_swap : (q : Place ℤ) (u v : Pt ℤ) → line v u q ≡ neg_ℤ (line u v q)
unfolding line
line_swap = by_q2 (λ q u v. line_e v u q) (λ q u v. ⊝ line_e u v q) tt

-- a triangle is the sum of the three to a place
pub line_sum : (q : Place ℤ) (a b c : Pt ℤ) → line a b q +ℤ line b c q +ℤ line c a q ≡ q.qw *ℤ orient a b c
unfolding line orient
line_sum = by_q3 (λ q a b c. line_e a b q ⊕ line_e b c q ⊕ line_e c a q) (λ q a b c. q.qw ⊗ orient_e a b c) tt

-- a line's value at a place, by its values at a triangle's corners
pub line_bary : (q : Place ℤ) (u v a b c : Pt ℤ) → orient a b c *ℤ line u v q ≡ line a b q *ℤ orient u v c +ℤ line b c q *ℤ orient u v a +ℤ line c a q *ℤ orient u v b
unfolding line orient
line_bary =
    by_q5 (λ q u v a b c. orient_e a b c ⊗ line_e u v q)
    (λ q u v a b c. line_e a b q ⊗ orient_e u v c ⊕ line_e b c q ⊗ orient_e u v a ⊕ line_e c a q ⊗ orient_e u v b) tt
