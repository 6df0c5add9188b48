-- Rule 7 by the marks of the edges. Definitions only.
use Rattle.std.specs.Prelude.{◌≡◌, Bool, not, ◌||◌, List, ℕ, ◌%◌, ◌<◌, eqb, ℤ, length}
use Rattle.algebra.specs.Tests.{all_to}
use Rattle.plane.specs.Halfedges.{nxt}
use Rattle.tables.specs.Data.{point_count}
use Rattle.tables.specs.Rules.{corner, reverse, flips}
use Rattle.list_rules.specs.Listed.{mark_of}

-- whole triples, of which an edge's number fits 32 bits
pub record Triples (xs : List ℕ) : Type 0 where
  pub whole : length xs % 3 ≡ 0
  pub few : length xs < 4294967295

-- step 3 flips edge h, with the far corner of edge g
abbrev pub turning : List ℤ → List ℕ → ℕ → ℕ → Bool
turning ps xs h g = flips ps (corner xs h) (corner xs (nxt h)) (corner xs (nxt (nxt h))) (corner xs (nxt (nxt g)))

-- g is not the reverse of h, or h has a mark, or step 3 would not flip it
abbrev pub stays : List ℤ → List ℕ → List ℕ → ℕ → ℕ → Bool
stays ps xs w h g = not (reverse xs h g) || not (eqb (mark_of (point_count ps) w h) 0) || not (turning ps xs h g)

abbrev pub all_stay : List ℤ → List ℕ → List ℕ → Bool
all_stay ps xs w = all_to (length xs) (λ h. all_to (length xs) (stays ps xs w h))
