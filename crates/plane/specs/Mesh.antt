-- A tiling of the base is given as data, by the half-edges of its triangles and their partners. This file has the data, and what makes it
-- a tiling. Definitions only; it assumes nothing.
use Rattle.std.specs.Prelude.{◌≡◌, Bool, true, false, ℕ, ◌+◌, ◌*◌, ◌<◌, ℤ}
use Rattle.algebra.specs.Order.{Pos}
use Rattle.algebra.specs.Sum.{sum_to}
use Rattle.plane.specs.Points.{Pt}
use Rattle.plane.specs.Determinants.{orient}
use Rattle.plane.specs.Base.{Side, On, area_of_base}

pub record Mesh : Type 0 where
  -- The triangles are the numbers below tris, and half-edge 3 t + j is edge j of triangle t.
  pub tris : ℕ
  -- Half-edge h runs from org h to dst h.
  pub org : ℕ → Pt ℤ
  pub dst : ℕ → Pt ℤ
  -- Where has h is true, mate h is its partner: the same edge as the triangle on the other side has it.
  pub has : ℕ → Bool
  pub mate : ℕ → ℕ
  -- A half-edge with no partner lies along this side of the base.
  pub side : ℕ → Side
  pub base : Side → Pt ℤ

-- This is twice the area of the base.
abbrev pub whole : Mesh → ℤ
whole m = area_of_base m.base

-- This is twice the area of triangle t.
abbrev pub area : Mesh → ℕ → ℤ
area m t = orient (m.org (3 * t)) (m.org (3 * t + 1)) (m.org (3 * t + 2))

pub record Covers (m : Mesh) : Type 0 where
  -- Each triangle's half-edges follow one another, and its corners are counterclockwise.
  pub dst0 : (t : ℕ) → t < m.tris → m.dst (3 * t) ≡ m.org (3 * t + 1)
  pub dst1 : (t : ℕ) → t < m.tris → m.dst (3 * t + 1) ≡ m.org (3 * t + 2)
  pub dst2 : (t : ℕ) → t < m.tris → m.dst (3 * t + 2) ≡ m.org (3 * t)
  pub ccw : (t : ℕ) → t < m.tris → Pos (area m t)
  -- A partner is a half-edge of the mesh that runs the other way, and the partner of the partner is the half-edge itself.
  pub mate_low : (h : ℕ) → h < 3 * m.tris → m.has h ≡ true → m.mate h < 3 * m.tris
  pub mate_has : (h : ℕ) → h < 3 * m.tris → m.has h ≡ true → m.has (m.mate h) ≡ true
  pub mate_mate : (h : ℕ) → h < 3 * m.tris → m.has h ≡ true → m.mate (m.mate h) ≡ h
  pub mate_org : (h : ℕ) → h < 3 * m.tris → m.has h ≡ true → m.org (m.mate h) ≡ m.dst h
  pub mate_dst : (h : ℕ) → h < 3 * m.tris → m.has h ≡ true → m.dst (m.mate h) ≡ m.org h
  -- Any other half-edge lies along its side of the base.
  pub on_org : (h : ℕ) → h < 3 * m.tris → m.has h ≡ false → On m.base (m.side h) (m.org h)
  pub on_dst : (h : ℕ) → h < 3 * m.tris → m.has h ≡ false → On m.base (m.side h) (m.dst h)
  -- The base is counterclockwise, and the areas of the triangles add to its area.
  pub base_ccw : Pos (whole m)
  pub areas : sum_to m.tris (area m) ≡ whole m
