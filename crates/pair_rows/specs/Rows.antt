-- Rows 9 and 10 of the table, in its order. Definitions only.
use Rattle.std.specs.Prelude.{List, ℕ, ℤ}
use Rattle.tables.specs.Answers.{Paper, yes, row_at, lowest}
use Rattle.tables.specs.Data.{pair_count}
use Rattle.tables.specs.Refusals.{blocked, crossing}

abbrev pub rows9and10 : List ℤ → List ℕ → Paper
rows9and10 ps qs = row_at 9 (lowest (pair_count qs) (blocked ps qs)) (row_at 10 (lowest (pair_count qs) (crossing ps qs)) yes)
