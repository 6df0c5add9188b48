-- What the tiling says to a walk from a towards b, what the walk can meet, and the recovery that the scan carries out. Definitions only.
use Rattle.std.specs.Prelude.{◌≡◌, ℕ, suc, ◌+◌, ◌*◌, ◌<◌, ℤ}
use Rattle.algebra.specs.Order.{Pos, NonNeg}
use Rattle.plane.specs.Base.{Side}
use Rattle.plane.specs.Determinants.{orient}
use Rattle.plane.specs.Points.{Pt}
use Rattle.cavities.specs.Corridors.{Three, Figure}
use Rattle.cavities.specs.Nets.{Net, World}
use Rattle.cavities.specs.Recovery.{chain, gaps, Recovery}
use Rattle.cavities.specs.Tilings.{CcwP}
use Rattle.routes.specs.Gates.{Between}
use Rattle.routes.specs.Needles.{Pierce}
use Rattle.routes.specs.Routes.{Tidy}
use Rattle.routes.specs.Scans.{NeverSticks}

-- What the tiling says: its edges are tidy, the figure's left and right are the sides of a b, and b is in no closed triangle of which it
-- is no corner.
pub record Sees (pts : ℕ → Pt ℤ) (Edge : ℕ → ℕ → Type 0) (a b : Pt ℤ) (F : Figure) (t : ℕ) (σ : Net) : Type 0 where
  pub tidy : Tidy pts Edge
  pub edge : (h : ℕ) → h < 3 * t → Edge (σ.org h) (σ.dst h)
  pub left : (p : ℕ) → F.Left p → Pos (orient a b (pts p))
  pub right : (p : ℕ) → F.Right p → Pos (orient b a (pts p))
  pub from : pts (F.cl 0) ≡ a
  pub alone : (s e f g : ℕ) → s < t → Three s e f g → ¬ (b ≡ pts (σ.org e)) → ¬ (b ≡ pts (σ.org f)) → ¬ (b ≡ pts (σ.org g)) →
      NonNeg (orient (pts (σ.org e)) (pts (σ.org f)) b) → NonNeg (orient (pts (σ.org f)) (pts (σ.org g)) b) → NonNeg (orient (pts (σ.org g)) (pts (σ.org e)) b) → ⊥

-- no side of the base is crossed, and no corner lies between a and b
pub record Bars (W : World) (pts : ℕ → Pt ℤ) (a b : Pt ℤ) : Type 0 where
  pub side : (i : Side) (p q : ℕ) → W.Along i p q → ¬ Pierce a b (pts q) (pts p)
  pub clear : (p : ℕ) → ¬ Between a b (pts p)

-- the apex that is met
pub data Met (pts : ℕ → Pt ℤ) (a b : Pt ℤ) (w : ℕ) : Type 0 where
  meets : b ≡ pts w → Met pts a b w
  left_of : Pos (orient a b (pts w)) → Met pts a b w
  right_of : Pos (orient b a (pts w)) → Met pts a b w

-- the cavity is filled by the scan on both sides, and what comes of it is a recovery
pub record ByScan (pts : ℕ → Pt ℤ) (F : Figure) (t n l r PL PR : ℕ) (σ σ5 : Net) : Type 0 where
  pub never : NeverSticks pts (chain F l r) (gaps F l r) F.slot (suc l) (suc l + suc r) n PL PR σ5
  pub recovery : Recovery (CcwP pts) F t n l r PL PR σ never.closes.σ4
