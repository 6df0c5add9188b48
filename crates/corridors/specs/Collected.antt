-- What the walk along the corridor asks for, and what it leaves. Definitions only.
use Rattle.std.specs.Prelude.{List, Result, Ok, Err, ⊤, ℕ, ◌+◌, ◌*◌, ◌≤◌, ℤ, length}
use Rattle.plane.specs.Points.{Pt}
use Rattle.nets.specs.Layout.{Kept}
use Rattle.chains.specs.Areas.{Sound, Room}
use Rattle.chains.specs.Walks.{Walks}
use Rattle.chains.specs.declared.Reason.{Reason}

-- what a single step asks for: there is room for n points, and the partners are in range
pub record Area (n : ℕ) (w : List ℕ) : Type 0 where
  pub some : 3 ≤ n
  pub few : n ≤ 4096
  pub long : 64 * n ≤ length w
  pub sound : Sound n w

-- on each side stands a corner at least, and with all of them there are no more triangles than t
abbrev pub Bounded : ℕ → Result (ℕ × ℕ) Reason → Type 0
Bounded t (Ok (l, r)) = (1 ≤ l) × (1 ≤ r) × (l + r ≤ t)
Bounded t (Err e) = ⊤

pub record Collected (P : ℕ → Pt ℤ) (n t a b : ℕ) (w : List ℕ) (x : ℕ) (out : Result (ℕ × ℕ) Reason) (w' : List ℕ) : Type 0 where
  pub walks : Walks P n t a b w 1 1 x out w'
  pub bounded : Bounded t out
  pub room : Room n t w'
  pub kept : Kept n w w'
