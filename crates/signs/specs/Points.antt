-- The point of the plane that a point of the code is. Definitions only.
use Rattle.std.specs.Prelude.{ℤ}
use Rattle.plane.specs.Points.{Pt, at}
use Rattle.signs.specs.declared.Point.{Point}

abbrev pub pt_of : Point → Pt ℤ
pt_of p = at p.x p.y
