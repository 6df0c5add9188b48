-- The record of a triangle, read from the list from half-edge h on, and its numbers in range. Definitions only.
use Rattle.std.specs.Prelude.{List, [], ◌∷◌, ℕ, ◌+◌, ◌*◌, ◌≤◌, get_or}
use Rattle.plane.specs.Halfedges.{nxt}
use Rattle.nets.specs.Layout.{cell}
use Rattle.nets.specs.Nets.{prv}
use Rattle.store.specs.declared.Tri.{Tri}

unfoldable pub seen : List ℕ → ℕ → Tri
seen w h = record {
  v = get_or w (cell 0 h) 0 ∷ get_or w (cell 0 (nxt h)) 0 ∷ get_or w (cell 0 (prv h)) 0 ∷ [];
  adj = get_or w (cell 3 h) 0 ∷ get_or w (cell 3 (nxt h)) 0 ∷ get_or w (cell 3 (prv h)) 0 ∷ [];
  con = get_or w (cell 6 h) 0 ∷ get_or w (cell 6 (nxt h)) 0 ∷ get_or w (cell 6 (prv h)) 0 ∷ [];
}

-- the corners have their 16 numbers in a list of n, and the partners are half-edges of T triangles
pub record Low (T n : ℕ) (x : Tri) : Type 0 where
  pub v0 : 16 * get_or x.v 0 0 + 16 ≤ n
  pub v1 : 16 * get_or x.v 1 0 + 16 ≤ n
  pub v2 : 16 * get_or x.v 2 0 + 16 ≤ n
  pub a0 : get_or x.adj 0 0 ≤ 3 * T
  pub a1 : get_or x.adj 1 0 ≤ 3 * T
  pub a2 : get_or x.adj 2 0 ≤ 3 * T
