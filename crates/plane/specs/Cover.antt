-- This file has what COVER says of a place and n triangles. Triangle t has the corners o (3 t), o (3 t + 1) and o (3 t + 2), and its edges
-- are the half-edges of these numbers. Definitions only; it assumes nothing.
use Rattle.std.specs.Prelude.{◌≡◌, ℕ, ◌+◌, ◌*◌, ◌<◌, ℤ}
use Rattle.plane.specs.Points.{Pt}
use Rattle.plane.specs.Places.{Place}
use Rattle.plane.specs.Inside.{In, Strictly, OnEdge}
use Rattle.plane.specs.Halfedges.{nxt}

-- The place lies in triangle t or on its boundary.
abbrev pub InClosed : (ℕ → Pt ℤ) → Place ℤ → ℕ → Type 0
InClosed o q t = In q (o (3 * t)) (o (3 * t + 1)) (o (3 * t + 2))

-- The place lies strictly inside triangle t.
abbrev pub StrictlyIn : (ℕ → Pt ℤ) → Place ℤ → ℕ → Type 0
StrictlyIn o q t = Strictly q (o (3 * t)) (o (3 * t + 1)) (o (3 * t + 2))

-- The place lies on no edge of the n triangles.
abbrev pub Clear : ℕ → (ℕ → Pt ℤ) → Place ℤ → Type 0
Clear n o q = (h : ℕ) → h < 3 * n → ¬ OnEdge (o h) (o (nxt h)) q

-- One number below n has the property, and no other has it.
pub record One (n : ℕ) (A : ℕ → Type 0) : Type 0 where
  pub it : ℕ
  pub below : it < n
  pub holds : A it
  pub only : (i : ℕ) → i < n → A i → i ≡ it

-- COVER of the place: it lies in some triangle, strictly inside no two, and where it is on no edge, strictly inside one and no other.
pub record Covered (n : ℕ) (o : ℕ → Pt ℤ) (q : Place ℤ) : Type 0 where
  pub some : (t : ℕ) × (t < n) × InClosed o q t
  pub apart : (i j : ℕ) → i < n → j < n → StrictlyIn o q i → StrictlyIn o q j → i ≡ j
  pub one : Clear n o q → One n (StrictlyIn o q)
