-- What a recovery leaves in the working area, seen as a net of the model. Definitions only.
use Rattle.std.specs.Prelude.{List, ◌≡◌, ℕ, suc, ◌+◌, ◌-◌, ◌*◌, ◌≤◌, ◌<◌, ℤ}
use Rattle.plane.specs.Points.{Pt}
use Rattle.cavities.specs.Corridors.{Figure}
use Rattle.cavities.specs.Nets.{Net}
use Rattle.cavities.specs.Recovery.{Recovery}
use Rattle.cavities.specs.Tilings.{CcwP}
use Rattle.chains.specs.Areas.{chain_of, slot_of}
use Rattle.mirrors.specs.Models.{Ghost, model_of}

-- The area holds the figure of a walk that met b: its corners stand in the chain, the left ones from the start up and the right ones from the
-- end down, its slots stand in their places, and the gap after a place of the chain is parked at that place's half-edge.
pub record Laid (n : ℕ) (w : List ℕ) (F : Figure) (l r : ℕ) : Type 0 where
  pub left : (z : ℕ) → z ≤ suc l → chain_of n w z ≡ F.cl z
  pub right : (z : ℕ) → z ≤ suc r → chain_of n w (2 * n - 1 - z) ≡ F.cr z
  pub slots : (y : ℕ) → y < l + r → slot_of n w y ≡ F.slot y
  pub left_gap : (z : ℕ) → z ≤ l → F.gl z ≡ 6 * n + z
  pub right_gap : (z : ℕ) → z ≤ r → F.gr z ≡ 6 * n + (2 * n - 2 - z)

-- The list w' is, for some ghosts, the net to which the model's recovery leads from the net σ, by k crossed triangles before the last one.
pub record Mirrored (P : ℕ → Pt ℤ) (n t : ℕ) (F : Figure) (k l r : ℕ) (σ : Net) (w' : List ℕ) : Type 0 where
  pub ghost : Ghost
  pub recovery : Recovery (CcwP P) F t k l r (8 * n) (8 * n + 1) σ (model_of n w' ghost)
