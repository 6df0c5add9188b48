-- The base by the numbers of its corners: 0, b, c. Definitions only.
use Rattle.std.specs.Prelude.{Bool, ◌||◌, List, ℕ, ℤ, neg_ℤ}
use Rattle.algebra.specs.Tests.{posb}
use Rattle.plane.specs.Determinants.{orient}
use Rattle.tables.specs.Data.{point}

-- point i is strictly right of the line from a to b
abbrev pub right_of_line : List ℤ → ℕ → ℕ → ℕ → Bool
right_of_line ps a b i = posb (neg_ℤ (orient (point ps a) (point ps b) (point ps i)))

-- point i is outside the closed triangle 0, b, c
abbrev pub outside_of : List ℤ → ℕ → ℕ → ℕ → Bool
outside_of ps b c i = right_of_line ps 0 b i || right_of_line ps b c i || right_of_line ps c 0 i
