-- Every coordinate of a list of points is within the limit. Definitions only.
use Rattle.std.specs.Prelude.{List, ℕ, ◌≤◌, ℤ, pos, nat_abs, get_or}
use Rattle.signs.specs.Answers.{limit}

abbrev pub Near : List ℤ → Type 0
Near ps = (i : ℕ) → nat_abs (get_or ps i (pos 0)) ≤ limit
