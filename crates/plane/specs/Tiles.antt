-- This file says when a list of k triples of point numbers tiles the base, by those of the sheet rules that this needs. The list names no
-- partners. P u is the point with number u, and org h is the number at place h of the list: triple t is org (3 t), org (3 t + 1) and
-- org (3 t + 2), and its edge j is the half-edge 3 t + j. Definitions only; it assumes nothing.
use Rattle.std.specs.Prelude.{◌≡◌, ◌⊎◌, ℕ, ◌+◌, ◌*◌, ◌<◌, ℤ}
use Rattle.algebra.specs.Order.{Pos}
use Rattle.algebra.specs.Sum.{sum_to}
use Rattle.plane.specs.Points.{Pt}
use Rattle.plane.specs.Determinants.{orient}
use Rattle.plane.specs.Base.{Side, On, area_of_base}
use Rattle.plane.specs.Halfedges.{nxt}

-- The edge between the points u and v lies along a side of the base: both points are on the side's line.
abbrev pub OnSide : (ℕ → Pt ℤ) → (Side → Pt ℤ) → ℕ → ℕ → Type 0
OnSide P B u v = (i : Side) × On B i (P u) × On B i (P v)

-- Half-edge g of the list is the reverse of half-edge h.
pub record Reverse (k : ℕ) (org : ℕ → ℕ) (h g : ℕ) : Type 0 where
  pub low : g < 3 * k
  pub from : org g ≡ org (nxt h)
  pub to : org (nxt g) ≡ org h

-- This is twice the area of triple t.
abbrev pub triple_area : (ℕ → Pt ℤ) → (ℕ → ℕ) → ℕ → ℤ
triple_area P org t = orient (P (org (3 * t))) (P (org (3 * t + 1))) (P (org (3 * t + 2)))

pub record Tiles (P : ℕ → Pt ℤ) (B : Side → Pt ℤ) (k : ℕ) (org : ℕ → ℕ) : Type 0 where
  -- Rule 1: each triple is strictly counterclockwise.
  pub ccw : (t : ℕ) → t < k → Pos (triple_area P org t)
  -- Rule 2: no directed edge stands in two triples.
  pub once : (h g : ℕ) → h < 3 * k → g < 3 * k → org g ≡ org h → org (nxt g) ≡ org (nxt h) → g ≡ h
  -- Rule 3: the reverse of each directed edge is in a triple, or the edge lies along a side of the base.
  pub met : (h : ℕ) → h < 3 * k → ((g : ℕ) × Reverse k org h g) ⊎ OnSide P B (org h) (org (nxt h))
  -- Rule 5: the areas of the triples add to the area of the base.
  pub areas : sum_to k (triple_area P org) ≡ area_of_base B
