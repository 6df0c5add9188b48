-- What the working area holds once the points are ranked. Definitions only.
use Rattle.std.specs.Prelude.{List, ◌≡◌, ℕ, ◌+◌, ◌*◌, ◌<◌, ◌≤◌, ℤ, length, get_or}
use Rattle.tables.specs.Data.{point_count}
use Rattle.tables.specs.Rules.{rank}
use Rattle.nets.specs.Layout.{rank_cell}

-- the point of rank k, of n points: the last word of item k of the sorted row, which stands from place 32 n on
abbrev pub at_rank : ℕ → List ℕ → ℕ → ℕ
at_rank n w k = get_or w (32 * n + 3 * k + 2) 0

-- The rank of each point stands at its place, and the point of each rank in the row.
pub record Ordered (ps : List ℤ) (w : List ℕ) : Type 0 where
  pub ranks : (i : ℕ) → i < point_count ps → get_or w (rank_cell i) 0 ≡ rank ps i
  pub small : (k : ℕ) → k < point_count ps → at_rank (point_count ps) w k < point_count ps
  pub places : (k : ℕ) → k < point_count ps → rank ps (at_rank (point_count ps) w k) ≡ k

-- The points are in order. What else the first 64 n numbers hold is not said, since the later steps overwrite it. Every place behind them
-- keeps its number.
pub record Ranked (ps : List ℤ) (w w' : List ℕ) : Type 0 where
  pub size : length w' ≡ length w
  pub ordered : Ordered ps w'
  pub rest : (p : ℕ) → 64 * point_count ps ≤ p → get_or w' p 0 ≡ get_or w p 0
