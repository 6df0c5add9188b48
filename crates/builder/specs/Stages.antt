-- How far the building steps have come in the working area, and what they leave when all points are in. Definitions only.
use Rattle.std.specs.Prelude.{List, ◌≡◌, ℕ, suc, ◌*◌, ◌<◌, ◌≤◌, ℤ, length, get_or}
use Rattle.tables.specs.Data.{point_count}
use Rattle.tables.specs.Figures.{Figure}
use Rattle.tables.specs.Rules.{rank}
use Rattle.nets.specs.Building.{start, second_corner, third_corner, BuildsTo, BuiltFrom}
use Rattle.nets.specs.Layout.{net_of, rank_cell, Kept}
use Rattle.nets.specs.Nets.{Net}

-- the ranks stand at their places
abbrev pub Ranks : List ℤ → List ℕ → Type 0
Ranks ps w = (i : ℕ) → i < point_count ps → get_or w (rank_cell i) 0 ≡ rank ps i

-- the building steps have put in the first k points: T triangles, the newest in slot z. What stood in the area before is o.
pub record Stage (ps : List ℤ) (o : Net) (k : ℕ) (w : List ℕ) (T z : ℕ) : Type 0 where
  pub figure : Figure ps
  pub room : 64 * point_count ps ≤ length w
  pub ranks : Ranks ps w
  pub low : k ≤ point_count ps
  pub builds : BuildsTo ps o k (net_of w T) z

-- whatever stood in the area before
abbrev pub Staged : List ℤ → ℕ → List ℕ → ℕ → ℕ → Type 0
Staged ps k w T z = (o : Net) × Stage ps o k w T z

-- one point more is in
abbrev pub Follows : List ℤ → ℕ → List ℕ → ℕ → ℕ → List ℕ → ℕ → ℕ → Type 0
Follows ps k w T z w' T' z' = (o : Net) → Stage ps o k w T z → Stage ps o (suc k) w' T' z'

-- the base alone
pub record Begun (ps : List ℤ) (w w' : List ℕ) : Type 0 where
  pub net : net_of w' 1 ≡ start (net_of w 1) 0 (second_corner ps) (third_corner ps)
  pub kept : Kept (point_count ps) w w'

-- all points are in: the working area holds T triangles that the building steps make, a tiling that step 3 leaves as it is, with every
-- point a corner, and T = 2n - 2 - h; the ranks are still there, and nothing beyond the first 64n numbers has changed
pub record Delaunay (ps : List ℤ) (w w' : List ℕ) (T : ℕ) : Type 0 where
  pub steps : (o : Net) × (z : ℕ) × BuildsTo ps o (point_count ps) (net_of w' T) z
  pub built : (z : ℕ) × BuiltFrom ps (point_count ps) (net_of w' T) z
  pub ranks : Ranks ps w'
  pub size : length w' ≡ length w
  pub rest : (c : ℕ) → 64 * point_count ps ≤ c → get_or w' c 0 ≡ get_or w c 0
