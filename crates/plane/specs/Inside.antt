-- This file says when a place lies in a triangle, strictly inside it, and on an edge. Definitions only; it assumes nothing.
use Rattle.std.specs.Prelude.{◌≡◌, ℤ, pos, ◌+ℤ◌, ◌-ℤ◌, ◌*ℤ◌, neg_ℤ}
use Rattle.algebra.specs.Order.{Pos, NonNeg}
use Rattle.plane.specs.Points.{Pt}
use Rattle.plane.specs.Places.{Place, line}

-- The place lies in the counterclockwise triangle a, b, c or on its boundary: it is strictly right of none of the three edges' lines.
pub record In (q : Place ℤ) (a b c : Pt ℤ) : Type 0 where
  pub ab : NonNeg (line a b q)
  pub bc : NonNeg (line b c q)
  pub ca : NonNeg (line c a q)

-- The place lies strictly inside the counterclockwise triangle a, b, c: it is strictly left of all three lines.
pub record Strictly (q : Place ℤ) (a b c : Pt ℤ) : Type 0 where
  pub ab : Pos (line a b q)
  pub bc : Pos (line b c q)
  pub ca : Pos (line c a q)

-- This is W² times the product (u - q) · (v - q). Of a place on the line through u and v it is positive exactly outside the segment, and
-- zero at its ends.
unfoldable pub dot_at : Pt ℤ → Pt ℤ → Place ℤ → ℤ
dot_at u v q = (q.qx -ℤ q.qw *ℤ u.x) *ℤ (q.qx -ℤ q.qw *ℤ v.x) +ℤ (q.qy -ℤ q.qw *ℤ u.y) *ℤ (q.qy -ℤ q.qw *ℤ v.y)

-- The place lies on the edge from u to v, whose ends belong to it.
pub record OnEdge (u v : Pt ℤ) (q : Place ℤ) : Type 0 where
  pub on_line : line u v q ≡ pos 0
  pub between : NonNeg (neg_ℤ (dot_at u v q))
