-- The writes of a step, one after another, make the list that the model says. Each law takes the triangles as they were read, and every
-- list on the way, so that the proof of a function only names them.
use mathlib.Core.List.{List}
use mathlib.Core.Path.{◌≡◌}
use Prim.Native.Nat.{ℕ, suc, ◌+◌, ◌*◌, ◌/◌}
use native.Mathlib.Omega.{arith}
use lib.ListN.{get_or}
use Rattle.nets.specs.Layout.{net_of, tell, tells, born, flip_list}
use Rattle.nets.specs.Slots.{Rec}
use Rattle.nets.specs.Steps.{flip_moves}
use Rattle.store.specs.declared.Tri.{Tri}
use Rattle.steps.specs.Seen.{seen}

-- ---- a triangle's record of nine numbers, and those of a triangle that was read

abbrev pub nine : (v0 v1 v2 a0 a1 a2 c0 c1 c2 : ℕ) → Rec
nine v0 v1 v2 a0 a1 a2 c0 c1 c2 = record { v0 = v0; v1 = v1; v2 = v2; a0 = a0; a1 = a1; a2 = a2; c0 = c0; c1 = c1; c2 = c2 }

abbrev pub v : Tri → ℕ → ℕ
v x k = get_or x.v k 0

abbrev pub a : Tri → ℕ → ℕ
a x k = get_or x.adj k 0

abbrev pub m : Tri → ℕ → ℕ
m x k = get_or x.con k 0

-- ---- the number of a half-edge and 1, as the model and as the code have it

pub up_0 : (n : ℕ) → suc n ≡ n + 1
up_0 n = omega arith

pub up_1 : (n : ℕ) → suc (n + 1) ≡ n + 2
up_1 n = omega arith

pub up_2 : (n : ℕ) → suc (n + 2) ≡ n + 3
up_2 n = omega arith

pub on_0 : (n : ℕ) → suc (3 * (n + 1)) ≡ 3 * n + 4
on_0 n = omega arith

pub on_1 : (n : ℕ) → suc (3 * (n + 1) + 1) ≡ 3 * n + 5
on_1 n = omega arith

pub on_2 : (n : ℕ) → suc (3 * (n + 1) + 2) ≡ 3 * n + 6
on_2 n = omega arith

pub to_0 : (n : ℕ) → 3 * (n + 1) ≡ 3 * n + 3
to_0 n = omega arith

pub to_1 : (n : ℕ) → 3 * (n + 1) + 1 ≡ 3 * n + 4
to_1 n = omega arith

-- ---- the flip

pub flip_written :
    (w : List ℕ) (h g : ℕ) {x y : Tri} {w1 w2 w3 w4 w5 w6 : List ℕ}
    → x ≡ seen w h → y ≡ seen w g
    → w1 ≡ born w (h / 3) (nine (v x 0) (v y 2) (v x 2) (a y 1) (3 * (g / 3) + 3) (a x 2) (m y 1) 0 (m x 2))
    → w2 ≡ born w1 (g / 3) (nine (v y 2) (v x 1) (v x 2) (a y 2) (a x 1) (3 * (h / 3) + 2) (m y 2) (m x 1) 0)
    → w3 ≡ tell (a x 1) (3 * (g / 3) + 1) w2
    → w4 ≡ tell (a y 2) (3 * (g / 3)) w3
    → w5 ≡ tell (a x 2) (3 * (h / 3) + 2) w4
    → w6 ≡ tell (a y 1) (3 * (h / 3)) w5
    → w6 ≡ flip_list w h g
unfolding flip_list tells flip_moves net_of seen
flip_written w h g ex ey e1 e2 e3 e4 e5 e6 = rw (e6, e5, e4, e3, e2, e1, ey, ex, up_1 (3 * (h / 3)), up_2 (3 * (g / 3)))
