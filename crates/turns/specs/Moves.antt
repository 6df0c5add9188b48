-- A turn of the walk: 0 if the triangle holds the point, 1 if there is no way on, and otherwise the next slot and 2. Definitions only.
use Rattle.std.specs.Prelude.{Bool, cond, ◌&&◌, not, List, ℕ, suc, ◌*◌, ◌<◌, ℤ}
use Rattle.plane.specs.Points.{Pt}
use Rattle.tables.specs.Data.{point_count}
use Rattle.nets.specs.Layout.{net_of}
use Rattle.nets.specs.Location.{holds, step, or_else, slot_of}
use Rattle.nets.specs.Nets.{Net}
use Rattle.turns.specs.declared.Turn.{Turn}
use Rattle.turns.specs.declared.Turn.TheVariants.{Here, NoWay, To}

-- every corner of the T triangles is a point number
abbrev pub Numbered : List ℤ → List ℕ → ℕ → Type 0
Numbered ps w T = (h : ℕ) → h < 3 * T → (net_of w T).org h < point_count ps

-- a turn as a number
abbrev pub turn_number : Turn → ℕ
turn_number Here = 0
turn_number NoWay = 1
turn_number (To t) = suc (suc t)

unfoldable pub move : (ℕ → Pt ℤ) → Net → Pt ℤ → ℕ → ℕ
move P m p t = cond (holds P m p t) 0 (suc (step P m p t))

-- the same, by what is asked of the three edges: whether the point is beyond it, and its partner
unfoldable pub chosen : Bool → Bool → Bool → ℕ → ℕ → ℕ → ℕ
chosen s0 s1 s2 a0 a1 a2 =
    cond (not s0 && not s1 && not s2) 0 (suc (or_else (cond s0 (slot_of a0) 0) (or_else (cond s1 (slot_of a1) 0) (cond s2 (slot_of a2) 0))))
