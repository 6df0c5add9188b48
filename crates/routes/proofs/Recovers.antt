-- RECOVERY DOES NOT STICK WHILE IT FILLS: in a tiling with the invariant, a walk that meets b opens a cavity whose two sides the scan
-- fills, apex by apex, and what comes of it is a tiling by as many triangles, in which all marked pairs are marked still, all corners are
-- corners still, and the demanded edge is there. Assumes nothing but what the tiling says (Sees).
use mathlib.Core.Path.{◌≡◌}
use Prim.Native.Nat.{ℕ, suc}
use lib.IntN.{ℤ}
use Rattle.plane.specs.Base.{Side}
use Rattle.plane.specs.Points.{Pt}
use Rattle.cavities.specs.Nets.{Net}
use Rattle.cavities.specs.Tilings.{world}
use Rattle.cavities.specs.Corridors.{Figure, Walk, Arrive}
use Rattle.cavities.specs.Recovery.{Tops}
use Rattle.cavities.specs.Recovered.{Begun, Recovered}
use Rattle.cavities.proofs.Recovered.{recovery_keeps}
use Rattle.routes.specs.Walks.{Sees, ByScan}
use Rattle.routes.proofs.Whole.{recovered}

module _ (pts : ℕ → Pt ℤ) (base : Side → Pt ℤ) (N : ℕ) (must : ℕ → ℕ → Type 0) (point : ℕ → Type 0) (Edge : ℕ → ℕ → Type 0) (a b : Pt ℤ) (F : Figure)
    (t cap n l r x f g PL PR : ℕ) (σ σ1 σ2 σ3 σ4 σ5 : Net) where
  pub walk_recovers : Begun pts base N must point F t cap n l r PL PR σ → Sees pts Edge a b F t σ → pts (F.cl (suc l)) ≡ b → Walk F t n l r x σ σ1 →
      Arrive F t n l r x f g σ1 σ2 σ3 σ4 → Tops σ4 σ5 PL PR (F.cl 0) (F.cl (suc l)) →
      (s : ByScan pts F t n l r PL PR σ σ5) × Recovered pts base must point t (F.cl 0) (F.cl (suc l)) s.never.closes.σ4
  walk_recovers begun sees to walk arr tops =
      let s = recovered (world pts base N must point) pts Edge a b F t cap n l r x f g PL PR σ σ1 σ2 σ3 σ4 σ5 begun.tiled sees begun.fits
      begun.room walk arr tops begun.from_a begun.to_b to in
      (s, recovery_keeps pts base N must point F t cap n l r PL PR σ s.never.closes.σ4 begun s.recovery)
