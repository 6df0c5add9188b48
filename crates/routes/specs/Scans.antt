-- A filling whose apexes are all the scan's, and a cavity that is closed so. Definitions only.
use Rattle.std.specs.Prelude.{◌≡◌, ℕ, suc, ◌+◌, ℤ}
use Rattle.plane.specs.Points.{Pt}
use Rattle.cavities.specs.Nets.{Net}
use Rattle.cavities.specs.Plans.{Plan, leaf, fork, Closes}
use Rattle.cavities.specs.Tilings.{CcwP}
use Rattle.routes.specs.Needles.{scan}

-- the place of corner k
abbrev pub place : (ℕ → Pt ℤ) → (ℕ → ℕ) → ℕ → Pt ℤ
place pts c k = pts (c k)

-- each node's apex is the scan's
unfoldable pub Scans : (pts : ℕ → Pt ℤ) (c : ℕ → ℕ) {i j p q : ℕ} → Plan (CcwP pts) c i j p q → Type 0
Scans pts c leaf = Unit {0}
Scans pts c (fork {i = i} {k = k} {j = j} t f g) = (k ≡ scan (place pts c) i j) × Scans pts c f × Scans pts c g

-- a plan by the scan, with one slot for each corner between the ends
pub record Scanned (pts : ℕ → Pt ℤ) (c : ℕ → ℕ) (i j p : ℕ) : Type 0 where
  pub q : ℕ
  pub plan : Plan (CcwP pts) c i j p q
  pub scans : Scans pts c plan
  pub count : q + suc i ≡ p + j

-- an open cavity closes, and each side is filled by the scan
pub record NeverSticks (pts : ℕ → Pt ℤ) (c gp slot : ℕ → ℕ) (n m r PL PR : ℕ) (σ : Net) : Type 0 where
  pub left : Scanned pts c 0 n 0
  pub right : Scanned pts c n m left.q
  pub closes : Closes (CcwP pts) c gp slot n m left.q r PL PR σ
