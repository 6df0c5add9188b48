-- The building steps put together, and what they end in. Definitions only.
use Rattle.std.specs.Prelude.{Bool, cond, ◌||◌, List, ◌⊎◌, ◌≡◌, ℕ, suc, ◌+◌, ◌*◌, ◌<◌, ◌≤◌, ℤ, pos}
use Rattle.algebra.specs.Order.{Pos, NonNeg}
use Rattle.algebra.specs.Sum.{sum_to}
use Rattle.algebra.specs.Tests.{eq_z}
use Rattle.plane.specs.Base.{Side, s0, s1, s2, On, next}
use Rattle.plane.specs.Determinants.{orient}
use Rattle.plane.specs.Halfedges.{nxt}
use Rattle.plane.specs.Points.{Pt}
use Rattle.plane.specs.Tiles.{OnSide}
use Rattle.tables.specs.Data.{point, clockwise, base}
use Rattle.tables.specs.Rules.{rank, count_to}
use Rattle.nets.specs.Flipping.{Gains, Wants, Legal}
use Rattle.nets.specs.Location.{inserted}
use Rattle.nets.specs.Nets.{Net, dst, prv}
use Rattle.nets.specs.Slots.{Rec, write}
use Rattle.nets.specs.Tilings.{tri, Tiling, Present, Unmarked}

-- p lies on the line of a side
abbrev pub OnBase : (Side → Pt ℤ) → Pt ℤ → Type 0
OnBase B p = (i : Side) × On B i p

-- a point of the closed base lies on its boundary
abbrev pub on_side : (Side → Pt ℤ) → Side → Pt ℤ → Bool
on_side B i p = eq_z (orient (B i) (B (next i)) p) (pos 0)

abbrev pub on_boundary : (Side → Pt ℤ) → Pt ℤ → Bool
on_boundary B p = on_side B s0 p || on_side B s1 p || on_side B s2 p

-- h: how many of the first k points lie there
unfoldable pub on_rim : (ℕ → Pt ℤ) → (Side → Pt ℤ) → ℕ → ℕ
on_rim P B k = count_to k (λ u. on_boundary B (P u))

-- the base alone, in the first slot; what a net has beyond its slots does not matter, and m says what was there before
abbrev pub base_rec : ℕ → ℕ → ℕ → Rec
base_rec a b c = record { v0 = a; v1 = b; v2 = c; a0 = 0; a1 = 0; a2 = 0; c0 = 0; c1 = 0; c2 = 0 }

unfoldable pub start : Net → ℕ → ℕ → ℕ → Net
start m a b c = write (record { tris = 1; org = m.org; adj = m.adj; con = m.con }) 0 (base_rec a b c)

-- a base of three numbered points
abbrev pub base_of : (ℕ → Pt ℤ) → ℕ → ℕ → ℕ → Side → Pt ℤ
base_of P a b c s0 = P a
base_of P a b c s1 = P b
base_of P a b c s2 = P c

-- the sheet rules 1 to 5 and 7 of document 01, of a net's triangles as its slots have them
pub record Rules (P : ℕ → Pt ℤ) (B : Side → Pt ℤ) (rk : ℕ → ℕ) (n : ℕ) (m : Net) : Type 0 where
  -- 1
  pub some : 1 ≤ m.tris
  pub few : m.tris + 5 ≤ 2 * n
  pub low : (h : ℕ) → h < 3 * m.tris → m.org h < n
  pub distinct : (h : ℕ) → h < 3 * m.tris → ¬ (m.org h ≡ dst m h)
  pub ccw : (t : ℕ) → t < m.tris → Pos (tri P m orient t)
  -- 2
  pub once : (h g : ℕ) → h < 3 * m.tris → g < 3 * m.tris → m.org g ≡ m.org h → dst m g ≡ dst m h → g ≡ h
  -- 3
  pub met : (h : ℕ) → h < 3 * m.tris →
      ((g : ℕ) × (g < 3 * m.tris) × (m.org g ≡ dst m h) × (dst m g ≡ m.org h)) ⊎ OnSide P B (m.org h) (dst m h)
  -- 4
  pub present : Present m n
  -- 5
  pub areas : sum_to m.tris (tri P m orient) ≡ orient (B s0) (B s1) (B s2)
  -- 7: an unmarked edge and its reverse, by their far corners
  pub settled : (h g : ℕ) → h < 3 * m.tris → g < 3 * m.tris → m.org g ≡ dst m h → dst m g ≡ m.org h → m.con h ≡ 0 →
      ¬ Gains P rk (m.org h) (m.org (nxt h)) (m.org (prv h)) (m.org (prv g))
  -- the number of triangles
  pub count : m.tris + 2 + on_rim P B n ≡ 2 * n

-- p in the closed triangle of slot t
pub record Holds (P : ℕ → Pt ℤ) (m : Net) (p : Pt ℤ) (t : ℕ) : Type 0 where
  pub ab : NonNeg (orient (P (m.org (3 * t))) (P (m.org (3 * t + 1))) p)
  pub bc : NonNeg (orient (P (m.org (3 * t + 1))) (P (m.org (3 * t + 2))) p)
  pub ca : NonNeg (orient (P (m.org (3 * t + 2))) (P (m.org (3 * t))) p)

-- ---- steps 1 to 3 for the first k points, from the base a, b, c on: the net, and its newest triangle; o is what was there before

pub data Builds (P : ℕ → Pt ℤ) (rk : ℕ → ℕ) (a b c : ℕ) (o : Net) : ℕ → Net → ℕ → Type 0 where
  alone : Builds P rk a b c o 3 (start o a b c) 0
  more : {k : ℕ} {m m' : Net} {z z' : ℕ} → Builds P rk a b c o k m z →
      Legal P rk (inserted P m z k).net (inserted P m z k).suspects (inserted P m z k).newest m' z' → Builds P rk a b c o (suc k) m' z'

-- what the building steps make of the first k points: a tiling by them that step 3 leaves as it is, in which each is a corner, of
-- 2 k - 2 - h triangles; no edge is marked
pub record Built (P : ℕ → Pt ℤ) (B : Side → Pt ℤ) (rk : ℕ → ℕ) (k : ℕ) (m : Net) (z : ℕ) : Type 0 where
  pub tile : Tiling P B k m
  pub rest : (h g : ℕ) → h < 3 * m.tris → ¬ Wants P rk m h g
  pub present : Present m k
  pub count : m.tris + 2 + on_rim P B k ≡ 2 * k
  pub few : m.tris + 5 ≤ 2 * k
  pub newest : z < m.tris
  pub unmarked : Unmarked m

-- ---- the building steps on a list of points

-- the base reads 0, 1, 2, or 0, 2, 1 where that is clockwise
abbrev pub second_corner : List ℤ → ℕ
second_corner ps = cond (clockwise ps) 2 1

abbrev pub third_corner : List ℤ → ℕ
third_corner ps = cond (clockwise ps) 1 2

-- steps 1 to 3 for the first k points
abbrev pub BuildsTo : List ℤ → Net → ℕ → Net → ℕ → Type 0
BuildsTo ps o k m z = Builds (point ps) (rank ps) 0 (second_corner ps) (third_corner ps) o k m z

abbrev pub BuiltFrom : List ℤ → ℕ → Net → ℕ → Type 0
BuiltFrom ps k m z = Built (point ps) (base ps) (rank ps) k m z
