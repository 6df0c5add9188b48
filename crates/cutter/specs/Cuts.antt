-- What the cutter promises. Definitions only.
use Rattle.std.specs.Prelude.{false, List, Result, Ok, Err, ◌≡◌, ℕ, ◌+◌, ◌*◌, ◌<◌, ◌≤◌, ℤ, length, get_or, take}
use Rattle.tables.specs.Answers.{Paper, yes, of_refusal}
use Rattle.tables.specs.Data.{point_count, pair_count, point, base}
use Rattle.tables.specs.Refusals.{rows, short_room}
use Rattle.tables.specs.Verdicts.{verdict, left_work}
use Rattle.tables.specs.declared.Refusal.{Refusal}
use Rattle.tables.specs.declared.Refusal.TheVariants.{StuckPair}
use Rattle.nets.specs.Building.{on_rim}
use Rattle.stages.specs.Stages.{Ground}

-- rows 1 to 10 of the table, for an output and a working area of so many numbers
abbrev pub asked : List ℤ → List ℕ → ℕ → ℕ → Paper
asked ps qs out work = rows false (short_room (point_count ps) out work) ps qs

-- the answer in the paper's terms
abbrev pub of_outcome : Result ℕ Refusal → Paper
of_outcome (Ok T) = yes
of_outcome (Err r) = of_refusal r

-- A sheet of T triples: T is 2n - 2 - h, the first 3T numbers of the output are a list that keeps the eight rules, so that the checker says yes to
-- it, and the rest of the output is unchanged.
pub record Written (ps : List ℤ) (qs : List ℕ) (out work out' : List ℕ) (T : ℕ) : Type 0 where
  pub accepted : verdict ps qs (take (3 * T) out') (length work) ≡ yes
  pub count : T + 2 + on_rim (point ps) (base ps) (point_count ps) ≡ 2 * point_count ps
  pub size : length out' ≡ length out
  pub rest : (p : ℕ) → 3 * T ≤ p → get_or out' p 0 ≡ get_or out p 0

-- What data that pass rows 1 to 10 get: a sheet, or refusal 11, on its ground and with the output unchanged.
pub data Passed (ps : List ℤ) (qs : List ℕ) (out work out' : List ℕ) : Result ℕ Refusal → Type 0 where
  sheet : (T : ℕ) → Written ps qs out work out' T → Passed ps qs out work out' (Ok T)
  stuck : (k : ℕ) → k < pair_count qs → Ground ps qs k → out' ≡ out → Passed ps qs out work out' (Err (StuckPair k))

-- THE PROMISE of the cutter, for any points, pairs, output and working area: what it answers, and what the output and the working area are then.
pub record Cutting (ps : List ℤ) (qs out work out' work' : List ℕ) (r : Result ℕ Refusal) : Type 0 where
  -- refusals 1 to 10 exactly by the table, with their places, and the output unchanged
  pub refused : ¬ (asked ps qs (length out) (length work) ≡ yes) → (of_outcome r ≡ asked ps qs (length out) (length work)) × (out' ≡ out)
  -- otherwise the sheet, or refusal 11
  pub passed : asked ps qs (length out) (length work) ≡ yes → Passed ps qs out work out' r
  -- refusals 1 to 3 leave the working area unchanged; every other answer leaves its first 64n numbers zero and the rest unchanged
  pub left : work' ≡ left_work (of_outcome r) (point_count ps) work
