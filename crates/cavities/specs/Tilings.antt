-- A net over points of the plane: its invariant, its mesh, and when its live half-edges are those of the triangles below t. Definitions
-- only.
use Rattle.std.specs.Prelude.{ℕ, ◌*◌, ◌<◌, ℤ}
use Rattle.algebra.specs.Order.{Pos}
use Rattle.plane.specs.Base.{On, Side, s0, area_of_base}
use Rattle.plane.specs.Determinants.{orient}
use Rattle.plane.specs.Mesh.{Mesh}
use Rattle.plane.specs.Points.{Pt}
use Rattle.cavities.specs.Fillings.{Tri}
use Rattle.cavities.specs.Nets.{Net, Live, World}

-- the edge from p to q lies along side i
abbrev pub AlongP : (ℕ → Pt ℤ) → (Side → Pt ℤ) → Side → ℕ → ℕ → Type 0
AlongP pts base i p q = On base i (pts p) × On base i (pts q)

-- the points a, b, c are counterclockwise
abbrev pub CcwP : (ℕ → Pt ℤ) → ℕ → ℕ → ℕ → Type 0
CcwP pts a b c = Pos (orient (pts a) (pts b) (pts c))

-- twice the area between the edge from p to q and corner 0 of the base: over the boundary it sums to the area
abbrev pub φP : (ℕ → Pt ℤ) → (Side → Pt ℤ) → ℕ → ℕ → ℤ
φP pts base p q = orient (pts p) (pts q) (base s0)

-- the points' world: the numbers are below n, the pairs of must are marked edges, the points of point are corners
abbrev pub world : (ℕ → Pt ℤ) → (Side → Pt ℤ) → ℕ → (ℕ → ℕ → Type 0) → (ℕ → Type 0) → World
world pts base n must point = record { Along = AlongP pts base; bound = n; φ = φP pts base; total = area_of_base base; Must = must; Point = point }

-- the triangles below t as a mesh
abbrev pub mesh_of : (ℕ → Pt ℤ) → (Side → Pt ℤ) → ℕ → Net → Mesh
mesh_of pts base t σ = record { tris = t; org = λ h. pts (σ.org h); dst = λ h. pts (σ.dst h); has = σ.has; mate = σ.mate; side = σ.side; base = base }

-- the triangles below t, all closed and counterclockwise, and no other half-edge is live
pub record Whole (pts : ℕ → Pt ℤ) (base : Side → Pt ℤ) (t : ℕ) (σ : Net) : Type 0 where
  pub live : (h : ℕ) → h < 3 * t → Live σ h
  pub low : (h : ℕ) → Live σ h → h < 3 * t
  pub tri : (k : ℕ) → k < t → Tri (CcwP pts) σ k
