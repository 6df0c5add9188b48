-- Demand 3: what an accepted list means. "For an accepted list it is proved that every place strictly inside the base and on no edge is in
-- one triangle and no other, that each demanded line is an edge, and that no other inner edge has a far corner inside its neighbour's
-- circle." `Demand3` is proved in proofs/Meaning.antt. Definitions only.
use Rattle.std.specs.Prelude.{◌≡◌, ◌||◌, List, ℕ, ◌*◌, ◌<◌, T, ℤ}
use Rattle.algebra.specs.Order.{Pos}
use Rattle.plane.specs.Determinants.{incircle}
use Rattle.plane.specs.Places.{Place}
use Rattle.plane.specs.Base.{Within}
use Rattle.plane.specs.Halfedges.{nxt}
use Rattle.plane.specs.Cover.{StrictlyIn, Clear, One}
use Rattle.tables.specs.Answers.{yes}
use Rattle.tables.specs.Data.{pair_count, end_a, end_b, base}
use Rattle.tables.specs.Rules.{triples, corner, corner_point, edge_is, reverse, is_pair}
use Rattle.tables.specs.Verdicts.{verdict}

pub record Meaning (ps : List ℤ) (qs xs : List ℕ) : Type 0 where
  -- every place (X/W, Y/W) strictly inside the base and on no edge is strictly inside one triangle and no other
  pub covered : (q : Place ℤ) → Pos q.qw → Within (base ps) q → Clear (triples xs) (corner_point ps xs) q → One (triples xs) (StrictlyIn (corner_point ps xs) q)
  -- each pair is an edge, one way or the other
  pub lines : (k : ℕ) → k < pair_count qs → (h : ℕ) × (h < 3 * triples xs) × T (edge_is xs h (end_a qs k) (end_b qs k) || edge_is xs h (end_b qs k) (end_a qs k))
  -- an edge h with its reverse g, which is no pair: the far corner of g is not strictly inside the circle of h's triangle
  pub empty : (h g : ℕ) → h < 3 * triples xs → g < 3 * triples xs → T (reverse xs h g) → ¬ T (is_pair qs (corner xs h) (corner xs (nxt h)))
      → ¬ Pos (incircle (corner_point ps xs h) (corner_point ps xs (nxt h)) (corner_point ps xs (nxt (nxt h))) (corner_point ps xs (nxt (nxt g))))

abbrev pub Demand3 : Type 0
Demand3 = (ps : List ℤ) (qs xs : List ℕ) (work : ℕ) → verdict ps qs xs work ≡ yes → Meaning ps qs xs
