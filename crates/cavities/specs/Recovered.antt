-- What a recovery starts from and what it leaves. That a recovery which does not stick leads from the one to the other is the theorem
-- recovery_keeps of proofs/Recovered.antt. The points are pts, the base is counterclockwise, and t is the number of triangles; the pairs
-- of must are those that are marked already, and the points of point are those that are corners already. Definitions only.
use Rattle.std.specs.Prelude.{◌≡◌, ℕ, suc, ◌*◌, ◌≤◌, ◌<◌, ℤ}
use Rattle.algebra.specs.Order.{Pos}
use Rattle.plane.specs.Base.{Side, area_of_base}
use Rattle.plane.specs.Mesh.{Covers}
use Rattle.plane.specs.Points.{Pt}
use Rattle.cavities.specs.Nets.{Net, Live, Edge, Marked, Corner}
use Rattle.cavities.specs.Tilings.{CcwP, world, mesh_of, Whole}
use Rattle.cavities.specs.Corridors.{Tiled, Figure}
use Rattle.cavities.specs.Recovery.{Room}

-- The net is a tiling with the invariant, its live half-edges are those of the t triangles, and there is room: of the numbers below N,
-- cap are free to park at, which is enough for the n + 3 gaps, and PL and PR are free too. Both chains of the figure lead from a to b.
pub record Begun (pts : ℕ → Pt ℤ) (base : Side → Pt ℤ) (N : ℕ) (must : ℕ → ℕ → Type 0) (point : ℕ → Type 0) (F : Figure) (t cap n l r PL PR : ℕ) (σ : Net) : Type 0 where
  pub base_ccw : Pos (area_of_base base)
  pub tiled : Tiled (world pts base N must point) (CcwP pts) F.vt t cap σ
  pub low : (h : ℕ) → Live σ h → h < 3 * t
  pub numbers : 3 * t ≤ N
  pub fits : suc (suc n) < cap
  pub room : Room (world pts base N must point) F.vt n PL PR σ
  pub from_a : F.cl 0 ≡ F.cr 0
  pub to_b : F.cl (suc l) ≡ F.cr (suc r)

-- The net is a tiling again, by as many triangles: they cover the base. All marked pairs are marked still, all corners are corners still,
-- and the demanded edge is there.
pub record Recovered (pts : ℕ → Pt ℤ) (base : Side → Pt ℤ) (must : ℕ → ℕ → Type 0) (point : ℕ → Type 0) (t a b : ℕ) (σ : Net) : Type 0 where
  pub whole : Whole pts base t σ
  pub covers : Covers (mesh_of pts base t σ)
  pub marked : (p q : ℕ) → must p q → Marked σ p q
  pub corner : (p : ℕ) → point p → Corner σ p
  pub edge : Edge σ b a
