-- The writes of a split, one after another, make the list that the model says. Each law takes the triangles as they were read, and every
-- list on the way, so that the proof of a function only names them.
use mathlib.Core.List.{List}
use mathlib.Core.Path.{◌≡◌}
use Prim.Native.Nat.{ℕ, ◌+◌, ◌*◌, ◌/◌}
use Rattle.plane.proofs.Halfedges.{nxt0, nxt1}
use Rattle.nets.specs.Layout.{net_of, tell, tells, born, inside_list, side_list}
use Rattle.nets.specs.Steps.{inside_moves, side_moves}
use Rattle.store.specs.declared.Tri.{Tri}
use Rattle.steps.specs.Seen.{seen}
use Rattle.steps.proofs.Written.{nine, v, a, m, up_1, up_2, on_1, on_2, to_0}

pub inside_written :
    (w : List ℕ) (T t p : ℕ) {x : Tri} {w1 w2 w3 w4 w5 w6 : List ℕ}
    → x ≡ seen w (3 * t)
    → w1 ≡ born w t (nine (v x 0) (v x 1) p (a x 0) (3 * T + 3) (3 * T + 5) (m x 0) 0 0)
    → w2 ≡ born w1 T (nine (v x 1) (v x 2) p (a x 1) (3 * T + 6) (3 * t + 2) (m x 1) 0 0)
    → w3 ≡ born w2 (T + 1) (nine (v x 2) (v x 0) p (a x 2) (3 * t + 3) (3 * T + 2) (m x 2) 0 0)
    → w4 ≡ tell (a x 2) (3 * T + 3) w3
    → w5 ≡ tell (a x 1) (3 * T) w4
    → w6 ≡ tell (a x 0) (3 * t) w5
    → w6 ≡ inside_list w T t p
unfolding inside_list tells inside_moves net_of seen
inside_written w T t p ex e1 e2 e3 e4 e5 e6 =
    rw (e6, e5, e4, e3, e2, e1, ex, nxt0 t, nxt1 t, up_1 (3 * t), up_2 (3 * t), up_1 (3 * T), up_2 (3 * T), on_1 T, on_2 T, to_0 T)

pub side_written :
    (w : List ℕ) (T h p : ℕ) {x : Tri} {w1 w2 w3 w4 : List ℕ}
    → x ≡ seen w h
    → w1 ≡ born w (h / 3) (nine (v x 0) p (v x 2) 0 (3 * T + 3) (a x 2) (m x 0) 0 (m x 2))
    → w2 ≡ born w1 T (nine p (v x 1) (v x 2) 0 (a x 1) (3 * (h / 3) + 2) (m x 0) (m x 1) 0)
    → w3 ≡ tell (a x 1) (3 * T + 1) w2
    → w4 ≡ tell (a x 2) (3 * (h / 3) + 2) w3
    → w4 ≡ side_list w T h p
unfolding side_list tells side_moves net_of seen
side_written w T h p ex e1 e2 e3 e4 = rw (e4, e3, e2, e1, ex, up_1 (3 * (h / 3)), up_2 (3 * T))
