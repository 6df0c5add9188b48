-- What flipping among the first count triangles leaves alone in the rows behind them. Definitions only.
use Rattle.std.specs.Prelude.{List, ◌≡◌, ℕ, ◌+◌, ◌*◌, ◌%◌, ◌<◌, ◌≤◌, get_or}

-- The corners, partners and marks of a row from count on are as they were, and from the row after that on all else but the hints is too.
pub record Above (count : ℕ) (w w' : List ℕ) : Type 0 where
  pub links : (c : ℕ) → 16 * count ≤ c → c % 16 < 9 → get_or w' c 0 ≡ get_or w c 0
  pub places : (c : ℕ) → 16 * count + 16 ≤ c → ¬ (c % 16 ≡ 12) → get_or w' c 0 ≡ get_or w c 0
