-- Order of numbered points. Definitions only.
use Rattle.std.specs.Prelude.{Bool, List, ℕ, ℤ}
use Rattle.tables.specs.Data.{point}
use Rattle.tables.specs.Rules.{before}

-- point i is before point j in the order of x, then y
abbrev pub comes_before : List ℤ → ℕ → ℕ → Bool
comes_before ps i j = before (point ps i) (point ps j)
