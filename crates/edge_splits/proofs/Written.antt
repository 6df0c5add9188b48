-- The writes of a split, one after another, make the list that the model says. The law takes the triangles as they were read, and every
-- list on the way, so that the proof of a function only names them.
use mathlib.Core.List.{List}
use mathlib.Core.Path.{◌≡◌}
use Prim.Native.Nat.{ℕ, ◌+◌, ◌*◌, ◌/◌}
use Rattle.nets.specs.Layout.{net_of, tell, tells, born, edge_list}
use Rattle.nets.specs.Steps.{edge_moves}
use Rattle.store.specs.declared.Tri.{Tri}
use Rattle.steps.specs.Seen.{seen}
use Rattle.steps.proofs.Written.{nine, v, a, m, up_0, up_1, up_2, on_0, on_2, to_1}

pub edge_written :
    (w : List ℕ) (T h g p : ℕ) {x y : Tri} {w1 w2 w3 w4 w5 w6 w7 w8 : List ℕ}
    → x ≡ seen w h → y ≡ seen w g
    → w1 ≡ born w (h / 3) (nine (v x 0) p (v x 2) (3 * T + 4) (3 * T + 3) (a x 2) (m x 0) 0 (m x 2))
    → w2 ≡ born w1 T (nine p (v x 1) (v x 2) (3 * (g / 3) + 1) (a x 1) (3 * (h / 3) + 2) (m x 0) (m x 1) 0)
    → w3 ≡ born w2 (g / 3) (nine (v x 1) p (v y 2) (3 * T + 1) (3 * T + 6) (a y 2) (m x 0) 0 (m y 2))
    → w4 ≡ born w3 (T + 1) (nine p (v x 0) (v y 2) (3 * (h / 3) + 1) (a y 1) (3 * (g / 3) + 2) (m x 0) (m y 1) 0)
    → w5 ≡ tell (a y 1) (3 * T + 4) w4
    → w6 ≡ tell (a y 2) (3 * (g / 3) + 2) w5
    → w7 ≡ tell (a x 1) (3 * T + 1) w6
    → w8 ≡ tell (a x 2) (3 * (h / 3) + 2) w7
    → w8 ≡ edge_list w T h g p
unfolding edge_list tells edge_moves net_of seen
edge_written w T h g p ex ey e1 e2 e3 e4 e5 e6 e7 e8 =
    rw
    (e8, e7, e6, e5, e4, e3, e2, e1, ey, ex, up_0 (3 * (h / 3)), up_1 (3 * (h / 3)), up_0 (3 * (g / 3)), up_1 (3 * (g / 3)), up_0 (3 * T), up_2 (3 * T), on_0 T, on_2 T, to_1 T)
