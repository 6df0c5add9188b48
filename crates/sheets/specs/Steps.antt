-- What the steps of writing a sheet do: a triple is turned, the slots' triples are gathered as items, and items are copied. Definitions
-- only.
use Rattle.std.specs.Prelude.{List, ◌≡◌, ℕ, ◌+◌, ◌*◌, ◌≤◌, ◌<◌, get_or}
use Rattle.sorts.specs.Items.{Written}
use Rattle.nets.specs.Location.{least, second, third}

-- The corners of slot t stand at the first three of its 16 places. f tells one of them.
abbrev pub of_slot : (ℕ → ℕ → ℕ → ℕ) → List ℕ → ℕ → ℕ
of_slot f w t = f (get_or w (16 * t) 0) (get_or w (16 * t + 1) 0) (get_or w (16 * t + 2) 0)

-- The triple of slot t is written at place p with its least number first, and every other place keeps its number.
abbrev pub Turned : List ℕ → ℕ → ℕ → List ℕ → Type 0
Turned w t p w' = Written w p (of_slot least w t) (of_slot second w t) (of_slot third w t) w'

-- The triples of the first T slots stand as a row from lo on, each turned, in the slots' order. Every other place keeps its number.
pub record Gathered (w : List ℕ) (lo T : ℕ) (w' : List ℕ) : Type 0 where
  pub firsts : (t : ℕ) → t < T → get_or w' (lo + 3 * t) 0 ≡ of_slot least w t
  pub seconds : (t : ℕ) → t < T → get_or w' (lo + 3 * t + 1) 0 ≡ of_slot second w t
  pub thirds : (t : ℕ) → t < T → get_or w' (lo + 3 * t + 2) 0 ≡ of_slot third w t
  pub below : (p : ℕ) → p < lo → get_or w' p 0 ≡ get_or w p 0
  pub above : (p : ℕ) → lo + 3 * T ≤ p → get_or w' p 0 ≡ get_or w p 0

-- k numbers of w from lo on stand at the front of the list, and what is behind them is kept.
pub record Copied (w : List ℕ) (lo k : ℕ) (out out' : List ℕ) : Type 0 where
  pub put : (p : ℕ) → p < k → get_or out' p 0 ≡ get_or w (lo + p) 0
  pub behind : (p : ℕ) → k ≤ p → get_or out' p 0 ≡ get_or out p 0
