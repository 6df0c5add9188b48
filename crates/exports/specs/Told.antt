-- What the cutter answers as one number of 64 bits: (number << 32) | value. Definitions only.
use Rattle.std.specs.Prelude.{List, Result, Ok, Err, ◌≡◌, ℕ, ◌+◌, ◌*◌, ◌<◌, ℤ}
use Rattle.tables.specs.Answers.{of_refusal}
use Rattle.tables.specs.declared.Refusal.{Refusal}
use Rattle.row_numbers.specs.Numbers.{number_in, place_of}
use Rattle.packing.specs.Packed.{shift}
use Rattle.cutter.specs.Cuts.{Cutting}

-- the halves of what the cutter's face answers: the number is 0 and the value is T for a sheet of T triples
abbrev pub cut_number : Result ℕ Refusal → ℕ
cut_number (Ok T) = 0
cut_number (Err r) = number_in (of_refusal r)

abbrev pub cut_value : Result ℕ Refusal → ℕ
cut_value (Ok T) = T
cut_value (Err r) = place_of r

-- The promise of the cutter's face: r tells an outcome of which the cutter's promise holds, and the value stays below 2^32, so that each half of r
-- can be read back.
pub record Told (ps : List ℤ) (qs out work out' work' : List ℕ) (r : ℕ) : Type 0 where
  pub outcome : Result ℕ Refusal
  pub promise : Cutting ps qs out work out' work' outcome
  pub number : r ≡ cut_number outcome * shift + cut_value outcome
  pub small : cut_value outcome < shift
