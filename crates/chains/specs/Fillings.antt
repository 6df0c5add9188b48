-- The filling of a part of the chain in the working area, as a relation of the lists before and after. Definitions only.
use Rattle.std.specs.Prelude.{true, false, List, Result, Ok, Err, ⊤, ◌≡◌, ℕ, suc, ◌+◌, ◌-◌, ◌*◌, ◌<◌, ℤ}
use Rattle.plane.specs.Points.{Pt}
use Rattle.chains.specs.Areas.{chain_of, slot_of, move_w, cut_w, join_w, Room, Still}
use Rattle.chains.specs.Scans.{left_of, apex}
use Rattle.chains.specs.declared.Reason.{Reason}
use Rattle.chains.specs.declared.Reason.TheVariants.{Apex}

-- The part i .. j of the chain c is filled under the half-edge top with the crossed slots p .. q. The gap between the places x and x + 1 is
-- half-edge G + x. A part without a corner between its ends is a gap, which moves to the top. Else a triangle over the base is cut, both its
-- other sides are filled, and it becomes the partner of the top.
pub data FillW (P : ℕ → Pt ℤ) (G : ℕ) (c slot : ℕ → ℕ) : ℕ → ℕ → ℕ → ℕ → ℕ → List ℕ → List ℕ → Type 0 where
  gap : {i j p top : ℕ} {w w' : List ℕ} → j ≡ i + 1 → w' ≡ move_w w (G + i) top → FillW P G c slot i j p p top w w'
  node : {i j k p q r top : ℕ} {w w1 w2 w3 : List ℕ} → i + 1 < j → k ≡ apex P c i j → left_of P (c i) (c j) (c k) ≡ true
      → FillW P G c slot i k p q (3 * slot r + 2) (cut_w w (slot r) (c i) (c j) (c k)) w1
      → FillW P G c slot k j q r (3 * slot r + 1) w1 w2
      → w3 ≡ join_w w2 (3 * slot r) top → FillW P G c slot i j p (suc r) top w w3

-- It sticks, for an apex is not strictly left of its base: its own, or one of a part of it.
pub data NoApex (P : ℕ → Pt ℤ) (c : ℕ → ℕ) : ℕ → ℕ → Type 0 where
  here : {i j k : ℕ} → i + 1 < j → k ≡ apex P c i j → left_of P (c i) (c j) (c k) ≡ false → NoApex P c i j
  before : {i j k : ℕ} → i + 1 < j → k ≡ apex P c i j → left_of P (c i) (c j) (c k) ≡ true → NoApex P c i k → NoApex P c i j
  after : {i j k : ℕ} → i + 1 < j → k ≡ apex P c i j → left_of P (c i) (c j) (c k) ≡ true → NoApex P c k j → NoApex P c i j

pub record Filled (P : ℕ → Pt ℤ) (n t : ℕ) (w : List ℕ) (i j p top : ℕ) (w' : List ℕ) : Type 0 where
  pub fill : FillW P (6 * n) (chain_of n w) (slot_of n w) i j p (p + (j - i - 1)) top w w'
  pub still : Still n w w'
  pub room : Room n t w'

-- what the filling comes to; where it sticks, the lists are out of use
abbrev pub Came : (ℕ → Pt ℤ) → ℕ → ℕ → List ℕ → ℕ → ℕ → ℕ → ℕ → List ℕ → Result ⊤ Reason → Type 0
Came P n t w i j p top w' (Ok done) = Filled P n t w i j p top w'
Came P n t w i j p top w' (Err e) = (e ≡ Apex) × NoApex P (chain_of n w) i j × Still n w w'
