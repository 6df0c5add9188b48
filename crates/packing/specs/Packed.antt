-- An answer as one number of 64 bits: (number << 32) | value. Definitions only.
use Rattle.std.specs.Prelude.{◌≡◌, ℕ, ◌+◌, ◌*◌, ◌<◌}
use Rattle.tables.specs.Answers.{Paper}
use Rattle.row_numbers.specs.Numbers.{number_in, value_in}

-- 2^32, which a number is shifted by, and which the value beside it is below
abbrev pub shift : ℕ
shift = 4294967296

-- the number in the upper half, and the value in the lower one
abbrev pub packed : Paper → ℕ
packed p = number_in p * shift + value_in p

-- The promise of the checker's face on its answer: r tells the verdict, and the value stays below 2^32.
pub record Judged (v : Paper) (r : ℕ) : Type 0 where
  pub number : r ≡ packed v
  pub small : value_in v < shift
