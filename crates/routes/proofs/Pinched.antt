-- A pinched chain: over (0,0) (10,0) the corners (5,4), (5,2), (5,4) of an edge that hangs into the corridor. It has needles, so the scan
-- fills it with three triangles. The needles' hypotheses can be met. Assumes nothing.
use mathlib.Core.Path.{◌≡◌, ap}
use Prim.Native.Nat.{ℕ, zero, suc, ◌<◌}
use native.Mathlib.Omega.{arith}
use lib.IntN.{ℤ, pos, negsuc}
use Rattle.plane.specs.Determinants.{orient}
use Rattle.plane.specs.Points.{Pt, at}
use Rattle.routes.specs.Needles.{Pierce, Apart, Needles}
use Rattle.routes.specs.Scans.{Scanned}
use Rattle.routes.proofs.Scan.{fill_scan}

abbrev corner : ℕ → Pt ℤ
corner zero = at (pos 0) (pos 0)
corner (suc zero) = at (pos 5) (pos 4)
corner (suc (suc zero)) = at (pos 5) (pos 2)
corner (suc (suc (suc zero))) = at (pos 5) (pos 4)
corner (suc (suc (suc (suc k)))) = at (pos 10) (pos 0)

abbrev other : ℕ → Pt ℤ
other zero = at (pos 0) (pos 0)
other (suc zero) = at (pos 2) (negsuc 2)
other (suc (suc zero)) = at (pos 5) (negsuc 2)
other (suc (suc (suc k))) = at (pos 8) (negsuc 2)

pierced : (k : ℕ) → 0 < k → k < 4 → Pierce (corner 0) (corner 4) (corner k) (other k)
unfolding orient
pierced zero l h = absurd (none l)
  where
    none : 0 < 0 → ⊥
    none l = omega arith
pierced (suc zero) l h = record { left = record { lt = tt }; right = record { lt = tt }; before = record { lt = tt }; after = record { lt = tt } }
pierced (suc (suc zero)) l h = record { left = record { lt = tt }; right = record { lt = tt }; before = record { lt = tt }; after = record { lt = tt } }
pierced (suc (suc (suc zero))) l h = record { left = record { lt = tt }; right = record { lt = tt }; before = record { lt = tt }; after = record { lt = tt } }
pierced (suc (suc (suc (suc k)))) l h = absurd (none k h)
  where
    none : (k : ℕ) → suc (suc (suc (suc k))) < 4 → ⊥
    none k h = omega arith

ordered : (k l : ℕ) → 0 < k → k < l → l < 4 → Apart (corner k) (other k) (corner l) (other l)
unfolding orient
ordered (suc zero) (suc (suc zero)) i m h = record { q1 = λ h. record { lt = tt }; q2 = λ h. record { lt = tt }; qa = λ f g h k. f.lt; qb = λ e h k. k.lt; qc = λ e h k. h.lt }
ordered (suc zero) (suc (suc (suc zero))) i m h = record { q1 = λ h. record { lt = tt }; q2 = λ h. record { lt = tt }; qa = λ f g h k. f.lt; qb = λ e h k. k.lt; qc = λ e h k. h.lt }
ordered (suc (suc zero)) (suc (suc (suc zero))) i m h = record { q1 = λ h. record { lt = tt }; q2 = λ h. record { lt = tt }; qa = λ f g h k. f.lt; qb = λ e h k. k.lt; qc = λ e h k. h.lt }
ordered (suc zero) (suc zero) i m h = absurd (omega arith)
ordered (suc zero) (suc (suc (suc (suc l)))) i m h = absurd (omega arith)
ordered (suc (suc zero)) (suc zero) i m h = absurd (omega arith)
ordered (suc (suc zero)) (suc (suc zero)) i m h = absurd (omega arith)
ordered (suc (suc zero)) (suc (suc (suc (suc l)))) i m h = absurd (omega arith)
ordered (suc (suc (suc k))) l i m h = absurd (omega arith)
ordered zero l i m h = elim i [ ]
ordered (suc zero) zero i m h = elim m [ ]
ordered (suc (suc zero)) zero i m h = elim m [ ]

level : Pt ℤ → ℕ
level p = up p.y
  where
    up : ℤ → ℕ
    up (pos n) = n
    up (negsuc n) = 0

changing : (k : ℕ) → 0 < k → suc k < 4 → ¬ (corner k ≡ corner (suc k))
unfolding level
changing (suc zero) l h = λ e. let q : ◌≡◌ {A = ℕ} 4 2 = ap level e in omega arith
changing (suc (suc zero)) l h = λ e. let q : ◌≡◌ {A = ℕ} 2 4 = ap level e in omega arith
changing (suc (suc (suc k))) l h = absurd (omega arith)
changing zero l h = elim l [ ]

pinched : Needles corner other 0 4
pinched = record { pierce = pierced; apart = ordered; differ = changing }

pub filled : Scanned corner (λ k. k) 0 4 0
filled = fill_scan corner (λ k. k) other 0 4 0 (omega arith) pinched

pub three : filled.q ≡ 3
three = let e = filled.count in omega arith
