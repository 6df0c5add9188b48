-- A place of the plane that need not be whole, given as fractions (X/W, Y/W) with W > 0. Definitions only.
use Rattle.std.specs.Prelude.{ℤ, ◌+ℤ◌, ◌-ℤ◌, ◌*ℤ◌}
use Rattle.plane.specs.Points.{Pt}

pub record Place (R : Type 0) : Type 0 where
  pub qx : R
  pub qy : R
  pub qw : R

-- W times the orientation of u, v and the place: positive where the place lies strictly left of the line from u to v, and zero on it
unfoldable pub line : Pt ℤ → Pt ℤ → Place ℤ → ℤ
line u v q = (u.y -ℤ v.y) *ℤ q.qx +ℤ (v.x -ℤ u.x) *ℤ q.qy +ℤ (u.x *ℤ v.y -ℤ u.y *ℤ v.x) *ℤ q.qw
