-- What a call that uses the first numbers of the working area leaves alone. Definitions only.
use Rattle.std.specs.Prelude.{List, ◌≡◌, ℕ, ◌≤◌, length, get_or}

-- the numbers from place k on are those of w, and there are as many
pub record Rest (k : ℕ) (w w' : List ℕ) : Type 0 where
  pub size : length w' ≡ length w
  pub same : (p : ℕ) → k ≤ p → get_or w' p 0 ≡ get_or w p 0
