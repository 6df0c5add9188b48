-- THE THEOREM OF RECOVERY: a recovery that does not stick leads from a tiling to a tiling by as many triangles, in which all marked pairs
-- are marked still, all corners are corners still, and the demanded edge is there; and there are as many crossed triangles, the last one
-- with them, as corners on its left and right. Assumes nothing.
use mathlib.Core.Path.{◌≡◌}
use Prim.Native.Nat.{ℕ, suc, ◌+◌}
use lib.IntN.{ℤ}
use Rattle.plane.specs.Base.{Side}
use Rattle.plane.specs.Points.{Pt}
use Rattle.cavities.specs.Nets.{Net}
use Rattle.cavities.specs.Tilings.{CcwP}
use Rattle.cavities.specs.Corridors.{Figure}
use Rattle.cavities.specs.Recovery.{Recovery}
use Rattle.cavities.specs.Recovered.{Begun, Recovered}
use Rattle.cavities.proofs.Recover.{recovery_inv, recovery_whole, recovery_covers, recovery_edge, recovery_count}

module _ (pts : ℕ → Pt ℤ) (base : Side → Pt ℤ) (N : ℕ) (must : ℕ → ℕ → Type 0) (point : ℕ → Type 0) (F : Figure) (t cap n l r PL PR : ℕ) (σ σ' : Net) where
  pub recovery_keeps : Begun pts base N must point F t cap n l r PL PR σ → Recovery (CcwP pts) F t n l r PL PR σ σ' → Recovered pts base must point t (F.cl 0) (F.cl (suc l)) σ'
  recovery_keeps b rec = record {
    whole = recovery_whole pts base N must point F t cap n l r PL PR σ σ' b.tiled b.low b.fits b.from_a b.to_b b.room rec;
    covers = recovery_covers pts base N must point F t cap n l r PL PR σ σ' b.tiled b.low b.fits b.from_a b.to_b b.room rec b.numbers b.base_ccw;
    marked = (recovery_inv pts base N must point F t cap n l r PL PR σ σ' b.tiled b.low b.fits b.from_a b.to_b b.room rec).marked;
    corner = (recovery_inv pts base N must point F t cap n l r PL PR σ σ' b.tiled b.low b.fits b.from_a b.to_b b.room rec).corner;
    edge = recovery_edge pts base N must point F t cap n l r PL PR σ σ' b.tiled b.low b.fits b.from_a b.to_b b.room rec;
  }

  pub crossed : Begun pts base N must point F t cap n l r PL PR σ → Recovery (CcwP pts) F t n l r PL PR σ σ' → suc n ≡ l + r
  crossed b rec = recovery_count pts base N must point F t cap n l r PL PR σ σ' b.tiled b.low b.fits b.from_a b.to_b b.room rec
