-- What the rules on a list ask of it and of the room: whole triples of point numbers below n, indexed; and the marks of the edges that
-- are pairs. Definitions only.
use Rattle.std.specs.Prelude.{◌≡◌, Bool, true, cond, List, ℕ, ◌+◌, ◌*◌, ◌%◌, ◌≤◌, ◌<◌, length, get_or}
use Rattle.plane.specs.Halfedges.{nxt}
use Rattle.tables.specs.Rules.{corner, is_pair, rule6}
use Rattle.edges.specs.Index.{Corners, Fits, Indexed}

pub record Listed (n : ℕ) (xs w : List ℕ) : Type 0 where
  pub whole : length xs % 3 ≡ 0
  pub corners : Corners n xs
  pub fits : Fits n xs w
  pub indexed : Indexed n xs (length xs) w

-- ---- the marks stand from place 7n on, one for each edge

pub record Room (n : ℕ) (xs w : List ℕ) : Type 0 where
  pub list : length xs ≤ 6 * n
  pub work : 13 * n ≤ length w

abbrev pub mark_of : ℕ → List ℕ → ℕ → ℕ
mark_of n w h = get_or w (7 * n + h) 0

abbrev pub Blank : ℕ → List ℕ → List ℕ → Type 0
Blank n xs w = (h : ℕ) → h < length xs → mark_of n w h ≡ 0

-- the edges that pass have been marked, and nothing else has changed
pub record Painted (n : ℕ) (xs : List ℕ) (f : ℕ → Bool) (w w' : List ℕ) : Type 0 where
  pub size : length w' ≡ length w
  pub below : (p : ℕ) → p < 7 * n → get_or w' p 0 ≡ get_or w p 0
  pub marks : (h : ℕ) → h < length xs → mark_of n w' h ≡ cond (f h) 1 (mark_of n w h)
  pub above : (p : ℕ) → 7 * n + length xs ≤ p → get_or w' p 0 ≡ get_or w p 0

-- an edge's mark is 1 where its ends are a pair, and else 0
abbrev pub Marked : ℕ → List ℕ → List ℕ → List ℕ → Type 0
Marked n qs xs w = (h : ℕ) → h < length xs → mark_of n w h ≡ cond (is_pair qs (corner xs h) (corner xs (nxt h))) 1 0

-- the answer on rule 6, and the marks where it holds
pub record PairsMet (n : ℕ) (qs xs w w' : List ℕ) (r : Bool) : Type 0 where
  pub answer : r ≡ rule6 qs xs
  pub marked : r ≡ true → Marked n qs xs w'
  pub size : length w' ≡ length w
  pub below : (p : ℕ) → p < 7 * n → get_or w' p 0 ≡ get_or w p 0
  pub above : (p : ℕ) → 7 * n + length xs ≤ p → get_or w' p 0 ≡ get_or w p 0

-- the ends of the pairs are below n
abbrev pub Ends : ℕ → List ℕ → Type 0
Ends n qs = (i : ℕ) → i < length qs → get_or qs i 0 < n
