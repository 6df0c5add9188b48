-- A list of points that passes checks 1 to 7. Definitions only.
use Rattle.std.specs.Prelude.{false, List, ◌≡◌, ℕ, ◌%◌, ◌<◌, ◌≤◌, ℤ, length}
use Rattle.tables.specs.Data.{point_count}
use Rattle.tables.specs.Refusals.{far, no_area, outside, again}

pub record Figure (ps : List ℤ) : Type 0 where
  pub even : length ps % 2 ≡ 0
  pub enough : 3 ≤ point_count ps
  pub few : point_count ps ≤ 4096
  pub near : (i : ℕ) → i < point_count ps → far ps i ≡ false
  pub area : no_area ps ≡ false
  pub within : (i : ℕ) → i < point_count ps → outside ps i ≡ false
  pub distinct : (i : ℕ) → i < point_count ps → again ps i ≡ false
