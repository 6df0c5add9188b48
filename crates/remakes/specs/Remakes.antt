-- What the recovery of a pair in the working area comes to, put together from the walk, the filling and the model. Definitions only.
use Rattle.std.specs.Prelude.{List, ◌≡◌, ℕ, suc, ◌+◌, ◌-◌, ◌*◌, ◌≤◌, ◌<◌, ℤ}
use Rattle.tables.specs.Data.{point_count, point, end_a, end_b, base}
use Rattle.nets.specs.Flipping.{Mem}
use Rattle.nets.specs.Layout.{net_of}
use Rattle.chains.specs.Areas.{slot_of, Room}
use Rattle.chains.specs.Recoveries.{WholeW, StuckW}
use Rattle.chains.specs.Sticking.{Leaves}
use Rattle.chains.specs.declared.Reason.{Reason}
use Rattle.sheets.specs.Keeps.{EdgeOf}
use Rattle.stages.specs.Stages.{Paired, Remade, Ground}

-- The area w' holds T triangles in which pair k is an edge, edge 0 of the last of the j crossed slots; the crossed slots are different triangles,
-- and with all of them for suspects the net is remade.
pub record Carved (ps : List ℤ) (qs : List ℕ) (k : ℕ) (w : List ℕ) (T j : ℕ) (w' : List ℕ) : Type 0 where
  pub some : 0 < j
  pub few : j ≤ T
  pub low : (y : ℕ) → y < j → slot_of (point_count ps) w' y < T
  pub apart : (y z : ℕ) → y < j → z < j → slot_of (point_count ps) w' y ≡ slot_of (point_count ps) w' z → y ≡ z
  pub remade : (q : List ℕ) → ((y : ℕ) → y < j → Mem (slot_of (point_count ps) w' y) q) →
      Remade ps qs k (net_of w T) (net_of w' T) q (3 * slot_of (point_count ps) w' (j - 1))

-- THEOREM: a recovery that ends carves.
abbrev pub Carves : Type 0
Carves =
    (ps : List ℤ) (qs : List ℕ) (k : ℕ) (w : List ℕ) (T x j : ℕ) (w' : List ℕ) →
    Paired ps qs k (net_of w T) → Room (point_count ps) T w → Leaves (point ps) (net_of w T) (end_a qs k) (end_b qs k) x →
    WholeW (point ps) (point_count ps) T (end_a qs k) (end_b qs k) w x j w' → Carved ps qs k w T j w'

-- THEOREM: one that sticks does so on refusal 11's ground, where the pair is no edge.
abbrev pub Grounds : Type 0
Grounds =
    (ps : List ℤ) (qs : List ℕ) (k : ℕ) (w : List ℕ) (T x : ℕ) (e : Reason) →
    Paired ps qs k (net_of w T) → Room (point_count ps) T w → ((h : ℕ) → h < 3 * T → ¬ EdgeOf (net_of w T) h (end_a qs k) (end_b qs k)) → Leaves (point ps) (net_of w T) (end_a qs k) (end_b qs k) x →
    StuckW (point ps) (point_count ps) T (end_a qs k) (end_b qs k) w x e → Ground ps qs k
