-- The pairs as items of three words, the ranks of the lesser and of the greater end and the pair's number, in a row from place at on.
-- Definitions only.
use Rattle.std.specs.Prelude.{List, ◌≡◌, ℕ, ◌+◌, ◌*◌, ◌<◌, ◌≤◌, min, max, ℤ, get_or}
use Rattle.tables.specs.Data.{pair_count, end_a, end_b}
use Rattle.tables.specs.Rules.{rank}

-- Pair k begins at the lesser rank of its ends, and it stops at the greater.
abbrev pub begin : List ℤ → List ℕ → ℕ → ℕ
begin ps qs k = min (rank ps (end_a qs k)) (rank ps (end_b qs k))

abbrev pub stop : List ℤ → List ℕ → ℕ → ℕ
stop ps qs k = max (rank ps (end_a qs k)) (rank ps (end_b qs k))

-- These are the words of the item at place p of the row.
abbrev pub from : List ℕ → ℕ → ℕ → ℕ
from w at p = get_or w (at + 3 * p) 0

abbrev pub up_to : List ℕ → ℕ → ℕ → ℕ
up_to w at p = get_or w (at + 3 * p + 1) 0

abbrev pub number : List ℕ → ℕ → ℕ → ℕ
number w at p = get_or w (at + 3 * p + 2) 0

-- The items of the first m pairs stand in the pairs' order, and every other place keeps its word.
pub record Filled (ps : List ℤ) (qs : List ℕ) (at m : ℕ) (w w' : List ℕ) : Type 0 where
  pub begins : (k : ℕ) → k < m → from w' at k ≡ begin ps qs k
  pub stops : (k : ℕ) → k < m → up_to w' at k ≡ stop ps qs k
  pub numbers : (k : ℕ) → k < m → number w' at k ≡ k
  pub below : (p : ℕ) → p < at → get_or w' p 0 ≡ get_or w p 0
  pub above : (p : ℕ) → at + 3 * m ≤ p → get_or w' p 0 ≡ get_or w p 0

-- The items of all pairs stand in the order in which the pairs begin.
pub record Row (ps : List ℤ) (qs : List ℕ) (at : ℕ) (w : List ℕ) : Type 0 where
  pub small : (p : ℕ) → p < pair_count qs → number w at p < pair_count qs
  pub begins : (p : ℕ) → p < pair_count qs → from w at p ≡ begin ps qs (number w at p)
  pub stops : (p : ℕ) → p < pair_count qs → up_to w at p ≡ stop ps qs (number w at p)
  pub rising : (p q : ℕ) → p ≤ q → q < pair_count qs → from w at p ≤ from w at q
  pub placed : (k : ℕ) → k < pair_count qs → (p : ℕ) × (p < pair_count qs) × (number w at p ≡ k)
