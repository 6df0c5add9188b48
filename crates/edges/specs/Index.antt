-- The index of the edges of a list xs of triples, in a list w of numbers. Edge h runs from the number at place h to the triple's next.
-- Definitions only.
use Rattle.std.specs.Prelude.{◌≡◌, Bool, cond, List, ℕ, zero, suc, ◌+◌, ◌≤◌, ◌<◌, eqb, length, get_or, Option, Some, None}
use Rattle.tables.specs.Rules.{corner, edge_is}

-- one more than the last h below k that passes, or 0 where none does
unfoldable pub last_of : (ℕ → Bool) → ℕ → ℕ
last_of f zero = 0
last_of f (suc k) = cond (f k) (suc k) (last_of f k)

-- the last edge below k that leaves u; the last that runs from u to v
abbrev pub last_from : List ℕ → ℕ → ℕ → ℕ
last_from xs u k = last_of (λ h. eqb (corner xs h) u) k

abbrev pub last_edge : List ℕ → ℕ → ℕ → ℕ → ℕ
last_edge xs u v k = last_of (λ h. edge_is xs h u v) k

-- the edge that such a number tells of
abbrev pub found_at : ℕ → Option ℕ
found_at zero = None
found_at (suc h) = Some h

-- the corners are point numbers below n
abbrev pub Corners : ℕ → List ℕ → Type 0
Corners n xs = (h : ℕ) → h < length xs → corner xs h < n

-- the heads and the links have room, and an edge's number fits one
pub record Fits (n : ℕ) (xs w : List ℕ) : Type 0 where
  pub room : n + length xs ≤ length w
  pub few : length xs < 4294967295

-- the first k edges stand in the index
pub record Indexed (n : ℕ) (xs : List ℕ) (k : ℕ) (w : List ℕ) : Type 0 where
  pub heads : (u : ℕ) → u < n → get_or w u 0 ≡ last_from xs u k
  pub links : (h : ℕ) → h < k → get_or w (n + h) 0 ≡ last_from xs (corner xs h) h
