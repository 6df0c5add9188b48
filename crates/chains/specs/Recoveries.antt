-- The whole recovery of a pair in the working area, before its edge is marked, as a relation of the lists before and after. Definitions only.
use Rattle.std.specs.Prelude.{List, Result, Ok, Err, ⊤, ◌≡◌, ℕ, ◌+◌, ◌-◌, ◌*◌, ℤ, set}
use Rattle.plane.specs.Halfedges.{nxt}
use Rattle.plane.specs.Points.{Pt}
use Rattle.nets.specs.Layout.{Kept}
use Rattle.nets.specs.Nets.{prv}
use Rattle.chains.specs.Areas.{org, chain_of, slot_of, chain_cell, move_w, Room}
use Rattle.chains.specs.Fillings.{FillW, NoApex}
use Rattle.chains.specs.Walks.{enter_w, Walks}
use Rattle.chains.specs.declared.Reason.{Reason}
use Rattle.chains.specs.declared.Reason.TheVariants.{Apex}

-- the first triangle, which the segment leaves through half-edge x: both edges beside its corner a are parked, and both chains start at a
unfoldable pub begin_w : ℕ → List ℕ → ℕ → ℕ → List ℕ
begin_w n w a x =
    set (set (enter_w n (enter_w n w 0 x (nxt x) 0 1 (org w (nxt x))) 0 x (prv x) (2 * n - 2) (2 * n - 2) (org w x)) (chain_cell n 0) a) (chain_cell n (2 * n - 1)) a

-- both sides of the open cavity are filled, and the right root takes the place above the left one
pub record ClosedW (P : ℕ → Pt ℤ) (n : ℕ) (w : List ℕ) (l r : ℕ) (w' : List ℕ) : Type 0 where
  pub w1 : List ℕ
  pub w2 : List ℕ
  pub left : FillW P (6 * n) (chain_of n w) (slot_of n w) 0 (l + 1) 0 l (8 * n) w w1
  pub right : FillW P (6 * n) (chain_of n w) (slot_of n w) (2 * n - 2 - r) (2 * n - 1) l (l + r) (8 * n + 1) w1 w2
  pub root : w' ≡ move_w w2 (8 * n) (3 * slot_of n w (l + r - 1))

pub data SidesW (P : ℕ → Pt ℤ) (n : ℕ) (w : List ℕ) (l r : ℕ) : Type 0 where
  on_left : NoApex P (chain_of n w) 0 (l + 1) → SidesW P n w l r
  on_right : NoApex P (chain_of n w) (2 * n - 2 - r) (2 * n - 1) → SidesW P n w l r

abbrev pub ClosesW : (ℕ → Pt ℤ) → ℕ → List ℕ → ℕ → ℕ → Result ⊤ Reason → List ℕ → Type 0
ClosesW P n w l r (Ok done) w' = ClosedW P n w l r w'
ClosesW P n w l r (Err e) w' = (e ≡ Apex) × SidesW P n w l r

-- the corridor is walked from the half-edge x on, and k triangles are made anew
pub record WholeW (P : ℕ → Pt ℤ) (n t a b : ℕ) (w : List ℕ) (x k : ℕ) (w' : List ℕ) : Type 0 where
  pub l : ℕ
  pub r : ℕ
  pub w1 : List ℕ
  pub count : k ≡ l + r
  pub walk : Walks P n t a b (begin_w n w a x) 1 1 x (Ok (l, r)) w1
  pub closed : ClosedW P n w1 l r w'
  pub room : Room n t w'
  -- the crossed slots are still in their places
  pub slots : slot_of n w' ≡ slot_of n w1

pub data StuckW (P : ℕ → Pt ℤ) (n t a b : ℕ) (w : List ℕ) (x : ℕ) : Reason → Type 0 where
  on_way : {e : Reason} {w1 : List ℕ} → Walks P n t a b (begin_w n w a x) 1 1 x (Err e) w1 → StuckW P n t a b w x e
  at_apex : {l r : ℕ} {w1 : List ℕ} → Walks P n t a b (begin_w n w a x) 1 1 x (Ok (l, r)) w1 → SidesW P n w1 l r → StuckW P n t a b w x Apex

abbrev pub RecoversW : (ℕ → Pt ℤ) → ℕ → ℕ → ℕ → ℕ → List ℕ → ℕ → Result ℕ Reason → List ℕ → Type 0
RecoversW P n t a b w x (Ok k) w' = WholeW P n t a b w x k w' × Kept n w w'
RecoversW P n t a b w x (Err e) w' = StuckW P n t a b w x e × Kept n w w'
