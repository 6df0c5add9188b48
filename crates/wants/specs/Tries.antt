-- What step 3 is asked of the working area, and its answers. Definitions only.
use Rattle.std.specs.Prelude.{Bool, true, false, Option, Some, None, List, ◌≡◌, ℕ, ◌+◌, ◌*◌, ◌/◌, ◌<◌, ◌≤◌, ℤ, length, get_or}
use Rattle.plane.specs.Points.{Pt}
use Rattle.tables.specs.Data.{point_count, point, base}
use Rattle.tables.specs.Rules.{rank}
use Rattle.nets.specs.Flipping.{Wants}
use Rattle.nets.specs.Layout.{net_of, rank_cell}
use Rattle.nets.specs.Nets.{Net}
use Rattle.nets.specs.Tilings.{Tiling}

-- count triangles by the points tile the base, the ranks stand in their places, and the working area has its 64 n numbers
pub record Ready (ps : List ℤ) (count : ℕ) (w : List ℕ) : Type 0 where
  pub tiling : Tiling (point ps) (base ps) (point_count ps) (net_of w count)
  pub ranks : (i : ℕ) → i < point_count ps → get_or w (rank_cell i) 0 ≡ rank ps i
  pub few : count + 5 ≤ 2 * point_count ps
  pub room : 64 * point_count ps ≤ length w

-- whether step 3 flips half-edge h
pub data Tried (P : ℕ → Pt ℤ) (rk : ℕ → ℕ) (m : Net) (h : ℕ) : Bool → Type 0 where
  flips : (g : ℕ) → Wants P rk m h g → Tried P rk m h true
  rests : ((g : ℕ) → ¬ Wants P rk m h g) → Tried P rk m h false

-- the first edge of slot t that step 3 flips
pub data First (P : ℕ → Pt ℤ) (rk : ℕ → ℕ) (m : Net) (t : ℕ) : Option ℕ → Type 0 where
  edge : (e g : ℕ) → e < 3 → Wants P rk m (3 * t + e) g → ((x y : ℕ) → x < 3 * t + e → x / 3 ≡ t → ¬ Wants P rk m x y) → First P rk m t (Some e)
  none : ((x y : ℕ) → x / 3 ≡ t → ¬ Wants P rk m x y) → First P rk m t None
