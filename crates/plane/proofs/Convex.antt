-- The quadrilateral of a flip is convex: where the far corner is strictly inside, both new triangles are counterclockwise.
-- Assumes nothing.
use lib.IntN.{ℤ}
use Rattle.algebra.specs.Order.{Pos, NonNeg}
use Rattle.algebra.proofs.Order.{pos_by, pos_nn, pos+nn, nn+nn, nn*nn, sq_nn, pos_cancel}
use Rattle.plane.specs.Points.{Pt, minus, lift}
use Rattle.plane.specs.Determinants.{orient, incircle}
use Rattle.plane.proofs.Orient.{orient_cyc}
use Rattle.plane.proofs.Circle.{incircle_flip, incircle_at}

pub lift_nn : (p : Pt ℤ) → NonNeg (lift p)
lift_nn p = nn+nn (sq_nn p.x) (sq_nn p.y)

pub convex_a : (a b c d : Pt ℤ) → Pos (orient a b c) → Pos (orient b a d) → Pos (incircle a b c d) → Pos (orient a d c)
convex_a a b c d h k i =
    pos_cancel (lift_nn (minus b a))
    (pos_by (incircle_at a b c d)
    (pos+nn (pos+nn i (nn*nn (lift_nn (minus c a)) (pos_nn k))) (nn*nn (lift_nn (minus d a)) (pos_nn h))))

pub convex_b : (a b c d : Pt ℤ) → Pos (orient a b c) → Pos (orient b a d) → Pos (incircle a b c d) → Pos (orient d b c)
convex_b a b c d h k i = pos_by (orient_cyc d b c) (convex_a b a d c k h (pos_by (incircle_flip b a d c) i))
