-- What the search around a corner takes for granted, and what its answers mean. Definitions only.
use Rattle.std.specs.Prelude.{List, Option, Some, None, ◌⊎◌, ◌≡◌, ℕ, ◌+◌, ◌*◌, ◌≤◌, ◌<◌, ℤ, length}
use Rattle.plane.specs.Halfedges.{nxt}
use Rattle.plane.specs.Points.{Pt}
use Rattle.tables.specs.Data.{point_count}
use Rattle.nets.specs.Layout.{net_of, InRange}
use Rattle.nets.specs.Nets.{Net, dst, prv}
use Rattle.chains.specs.Sticking.{Leaves}
use Rattle.looks.specs.declared.Around.{Around}
use Rattle.looks.specs.declared.Around.TheVariants.{Edge, Entry}

-- the numbers of count triangles are in range, their corners are points, and each point has its place
pub record Ranged (ps : List ℤ) (count : ℕ) (w : List ℕ) : Type 0 where
  pub range : InRange count w
  pub corners : (h : ℕ) → h < 3 * count → (net_of w count).org h < point_count ps
  pub places : 16 * point_count ps ≤ length w

-- half-edge h lies between a and b
abbrev pub Between : Net → ℕ → ℕ → ℕ → Type 0
Between m a b h = ((m.org h ≡ a) × (dst m h ≡ b)) ⊎ ((m.org h ≡ b) × (dst m h ≡ a))

-- edge e, which is 0, 1 or 2, of slot t is such a half-edge
abbrev pub Names : Net → (ℕ → Type 0) → ℕ → ℕ → Type 0
Names m H t e = (t < m.tris) × (e < 3) × H (3 * t + e)

-- what a triangle has
abbrev pub Shows : (ℕ → Pt ℤ) → Net → ℕ → ℕ → Around → Type 0
Shows P m a b (Edge t e) = Names m (Between m a b) t e
Shows P m a b (Entry t e) = Names m (Leaves P m a b) t e

-- what an answer means, where none means N
abbrev pub Told : Type 0 → (ℕ → Pt ℤ) → Net → ℕ → ℕ → Option Around → Type 0
Told N P m a b (Some r) = Shows P m a b r
Told N P m a b None = N

-- There is neither an edge between a and b nor an entry edge. So says the search's last answer.
pub record Neither (P : ℕ → Pt ℤ) (m : Net) (a b : ℕ) : Type 0 where
  pub no_edge : (h : ℕ) → h < 3 * m.tris → ¬ Between m a b h
  pub no_entry : (x : ℕ) → ¬ Leaves P m a b x

-- Half-edge h does not leave a; or neither it nor the one before it in its triangle lies between a and b, and the one after it is no entry edge.
pub record Passed (P : ℕ → Pt ℤ) (m : Net) (a b h : ℕ) : Type 0 where
  pub to : m.org h ≡ a → ¬ (dst m h ≡ b)
  pub from : m.org h ≡ a → ¬ (m.org (prv h) ≡ b)
  pub across : m.org h ≡ a → ¬ Leaves P m a b (nxt h)

-- nothing is said
pub record Open : Type 0 where

-- the half-edge to start at leaves a
abbrev pub Starts : Net → ℕ → Option ℕ → Type 0
Starts m a (Some h) = (h < 3 * m.tris) × (m.org h ≡ a)
Starts m a None = Open
