-- Orientation of numbered points. Definitions only.
use Rattle.std.specs.Prelude.{List, ℕ, ℤ}
use Rattle.plane.specs.Determinants.{orient}
use Rattle.tables.specs.Data.{point}

-- twice the area of points a, b, c
abbrev pub area : List ℤ → ℕ → ℕ → ℕ → ℤ
area ps a b c = orient (point ps a) (point ps b) (point ps c)
