-- Points of the plane. The coordinates are whole numbers in every statement; the solver of polynomial identities reads the same
-- record with polynomials for coordinates. Definitions only.
use Rattle.std.specs.Prelude.{ℤ, ◌+ℤ◌, ◌-ℤ◌, ◌*ℤ◌}

pub record Pt (R : Type 0) : Type 0 where
  pub x : R
  pub y : R

abbrev pub at : ℤ → ℤ → Pt ℤ
at x y = record { x = x; y = y }

-- a point by its differences from d
abbrev pub minus : Pt ℤ → Pt ℤ → Pt ℤ
minus a d = record { x = a.x -ℤ d.x; y = a.y -ℤ d.y }

-- x² + y²
abbrev pub lift : Pt ℤ → ℤ
lift p = p.x *ℤ p.x +ℤ p.y *ℤ p.y
