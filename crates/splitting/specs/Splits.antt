-- What a point leaves in the working area: the split that it asks for, with the new triangles as suspects. Definitions only.
use Rattle.std.specs.Prelude.{List, ◌≡◌, ℕ, suc, ◌+◌, ◌*◌, ◌/◌, ◌≤◌, ℤ, length}
use Rattle.tables.specs.Data.{point_count, point, base}
use Rattle.tables.specs.Figures.{Figure}
use Rattle.nets.specs.Layout.{net_of, inside_list, side_list, edge_list, Kept}
use Rattle.nets.specs.Location.{Split}
use Rattle.nets.specs.Tilings.{Tiling}
use Rattle.suspects.specs.Stack.{stack, Suspects, pushed}

-- the triangles of a split become suspects in the order of their birth
unfoldable pub inside_pushed : List ℕ → ℕ → ℕ → ℕ → List ℕ
inside_pushed w T t p = pushed (pushed (pushed (inside_list w T t p) 0 t) 1 T) 2 (T + 1)

unfoldable pub side_pushed : List ℕ → ℕ → ℕ → ℕ → List ℕ
side_pushed w T h p = pushed (pushed (side_list w T h p) 0 (h / 3)) 1 T

unfoldable pub edge_pushed : List ℕ → ℕ → ℕ → ℕ → ℕ → List ℕ
edge_pushed w T h g p = pushed (pushed (pushed (pushed (edge_list w T h g p) 0 (h / 3)) 1 T) 2 (g / 3)) 3 (T + 1)

-- T triangles in the working area tile the base by the first k points, and there is room for all points
pub record Tiled (ps : List ℤ) (k : ℕ) (w : List ℕ) (T : ℕ) : Type 0 where
  pub figure : Figure ps
  pub tile : Tiling (point ps) (base ps) k (net_of w T)
  pub few : T + 5 ≤ 2 * k
  pub low : k ≤ point_count ps
  pub room : 64 * point_count ps ≤ length w

-- the split of nets' specs/Location stands in the working area, its suspects on the stack, the newest triangle in the last slot
pub record Grown (ps : List ℤ) (w : List ℕ) (s : Split) (w' : List ℕ) (count many : ℕ) : Type 0 where
  pub net : net_of w' count ≡ s.net
  pub suspects : stack w' many ≡ s.suspects
  pub newest : count ≡ suc s.newest
  pub ready : Suspects count w' (stack w' many)
  pub kept : Kept (point_count ps) w w'
