-- A net that tiles the base: its triangles are counterclockwise, its partners fit, an edge without a partner lies along the base, and the
-- areas add up. Definitions only.
use Rattle.std.specs.Prelude.{◌≡◌, ℕ, ◌+◌, ◌*◌, ◌<◌, ℤ}
use Rattle.algebra.specs.Order.{Pos}
use Rattle.algebra.specs.Sum.{sum_to}
use Rattle.plane.specs.Base.{Side, s0, s1, s2}
use Rattle.plane.specs.Determinants.{orient}
use Rattle.plane.specs.Points.{Pt}
use Rattle.plane.specs.Tiles.{OnSide}
use Rattle.nets.specs.Nets.{Net, dst, Linked}

-- a function of a triangle's corners, at slot t; and from half-edge h on
abbrev pub tri {ℓ} : {A : Type 0} {X : Type ℓ} → (ℕ → A) → Net → (A → A → A → X) → ℕ → X
tri P m f t = f (P (m.org (3 * t))) (P (m.org (3 * t + 1))) (P (m.org (3 * t + 2)))

pub record Tiling (P : ℕ → Pt ℤ) (B : Side → Pt ℤ) (n : ℕ) (m : Net) : Type 0 where
  pub linked : Linked (OnSide P B) m
  pub corners : (h : ℕ) → h < 3 * m.tris → m.org h < n
  pub ccw : (t : ℕ) → t < m.tris → Pos (tri P m orient t)
  pub base_ccw : Pos (orient (B s0) (B s1) (B s2))
  pub areas : sum_to m.tris (tri P m orient) ≡ orient (B s0) (B s1) (B s2)

-- u is a corner
abbrev pub Has : Net → ℕ → Type 0
Has m u = (x : ℕ) × (x < 3 * m.tris) × (m.org x ≡ u)

abbrev pub Present : Net → ℕ → Type 0
Present m k = (u : ℕ) → u < k → Has m u

-- an edge from u to w that is marked
abbrev pub Marked : Net → ℕ → ℕ → Type 0
Marked m u w = (x : ℕ) × (x < 3 * m.tris) × (m.org x ≡ u) × (dst m x ≡ w) × (¬ (m.con x ≡ 0))

-- no edge is marked
abbrev pub Unmarked : Net → Type 0
Unmarked m = (h : ℕ) → h < 3 * m.tris → m.con h ≡ 0
