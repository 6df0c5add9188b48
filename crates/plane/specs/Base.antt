-- This file has the base triangle: its sides, its area, and what lies on a side's line, in the base and strictly inside it. Definitions
-- only; it assumes nothing.
use Rattle.std.specs.Prelude.{◌≡◌, ℤ, pos}
use Rattle.algebra.specs.Order.{Pos, NonNeg}
use Rattle.plane.specs.Points.{Pt}
use Rattle.plane.specs.Determinants.{orient}
use Rattle.plane.specs.Places.{Place, line}

-- A base is a function B from these three: B i is its corner i, and side i runs from corner i to the next corner.
pub data Side : Type 0 where
  s0 s1 s2 : Side

abbrev pub next : Side → Side
next s0 = s1
next s1 = s2
next s2 = s0

-- This is twice the area of the base, and positive where its corners are counterclockwise.
abbrev pub area_of_base : (Side → Pt ℤ) → ℤ
area_of_base B = orient (B s0) (B s1) (B s2)

-- The point lies on the line of side i.
abbrev pub On : (Side → Pt ℤ) → Side → Pt ℤ → Type 0
On B i p = orient (B i) (B (next i)) p ≡ pos 0

-- The point lies in the base or on its boundary.
abbrev pub InBase : (Side → Pt ℤ) → Pt ℤ → Type 0
InBase B p = (i : Side) → NonNeg (orient (B i) (B (next i)) p)

-- The place lies strictly inside the base.
abbrev pub Within : (Side → Pt ℤ) → Place ℤ → Type 0
Within B q = (i : Side) → Pos (line (B i) (B (next i)) q)
