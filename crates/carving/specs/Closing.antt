-- What the closing of a cavity leaves, and what a mark asks for. Definitions only.
use Rattle.std.specs.Prelude.{List, Result, Ok, Err, ⊤, ◌≡◌, ℕ, ◌+◌, ◌*◌, ◌/◌, ◌≤◌, ◌<◌, ℤ, length}
use Rattle.plane.specs.Points.{Pt}
use Rattle.nets.specs.Layout.{Kept}
use Rattle.chains.specs.Areas.{adj, slot_of, Room}
use Rattle.chains.specs.Recoveries.{ClosedW, SidesW}
use Rattle.chains.specs.declared.Reason.{Reason}
use Rattle.chains.specs.declared.Reason.TheVariants.{Apex}

-- the closing of the cavity with l corners on the left and r on the right, whose t triangles have room
pub record Shut (P : ℕ → Pt ℤ) (n t : ℕ) (w : List ℕ) (l r : ℕ) (w' : List ℕ) : Type 0 where
  pub closed : ClosedW P n w l r w'
  pub room : Room n t w'
  -- the crossed slots are still in their places
  pub slots : slot_of n w' ≡ slot_of n w
  pub kept : Kept n w w'

abbrev pub Closing : (ℕ → Pt ℤ) → ℕ → ℕ → List ℕ → ℕ → ℕ → Result ⊤ Reason → List ℕ → Type 0
Closing P n t w l r (Ok done) w' = Shut P n t w l r w'
Closing P n t w l r (Err e) w' = (e ≡ Apex) × SidesW P n w l r × Kept n w w'

-- the marks of half-edge h and of its partner are in the area
abbrev pub CanMark : List ℕ → ℕ → Type 0
CanMark w h = (h < 24576) × (16 * (h / 3) + 16 ≤ length w) × (16 * ((adj w h + 2) / 3) ≤ length w)
