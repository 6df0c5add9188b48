-- The filling by the scan never sticks: a chain with needles has a plan, and at each node of it the apex is the scan's. Assumes nothing.
use mathlib.Core.Path.{◌≡◌, refl, subst}
use Prim.Native.Nat.{ℕ, zero, suc, ◌+◌, ◌≤◌, ◌<◌}
use native.Mathlib.Decide.{ℕ_discrete}
use native.Mathlib.Omega.{arith}
use lib.IntN.{ℤ}
use Rattle.plane.specs.Points.{Pt}
use Rattle.cavities.proofs.Run.{close_run}
use Rattle.cavities.specs.Closings.{Opened}
use Rattle.cavities.specs.Nets.{Net, World}
use Rattle.cavities.specs.Plans.{Plan, leaf, fork, Proper}
use Rattle.cavities.specs.Tilings.{CcwP}
use Rattle.routes.specs.Needles.{Needles, Apex, scan}
use Rattle.routes.specs.Scans.{place, Scans, Scanned, NeverSticks}
use Rattle.routes.proofs.Chain.{scan_apex, apex_left, before_apex, behind_apex}

module _ (pts : ℕ → Pt ℤ) (c : ℕ → ℕ) where
  -- from the parts before and behind the scan's apex
  join : (w : ℕ → Pt ℤ) (i j p : ℕ) → Needles (place pts c) w i j → suc i < j →
      ((k p : ℕ) → i < k → k < j → Needles (place pts c) w i k → Scanned pts c i k p) →
      ((k p : ℕ) → i < k → k < j → Needles (place pts c) w k j → Scanned pts c k j p) → Scanned pts c i j p
  unfolding Scans
  join w i j p ns some before behind = at (scan (place pts c) i j) refl (scan_apex (place pts c) w i j ns some)
    where
      at : (k : ℕ) → k ≡ scan (place pts c) i j → Apex (place pts c) i j k → Scanned pts c i j p
      at k e a =
          let f = before k p a.low a.high (before_apex (place pts c) w i j ns k a) in
          let g = behind k f.q a.low a.high (behind_apex (place pts c) w i j ns k a) in
          let x = f.count in
          let y = g.count in
          record { q = suc g.q; plan = fork (apex_left (place pts c) w i j ns k a) f.plan g.plan; scans = (e, f.scans, g.scans); count = omega arith }

  last : (i j p : ℕ) → suc i ≡ j → Scanned pts c i j p
  unfolding Scans
  last i j p e = subst (λ (t : ℕ). Scanned pts c i t p) e (record { q = p; plan = leaf; scans = tt; count = refl })

  fill_by : (w : ℕ → Pt ℤ) (fuel i j p : ℕ) → i < j → j ≤ i + fuel → Needles (place pts c) w i j → Scanned pts c i j p
  fill_by w zero i j p l h ns = absurd (none i j l h)
    where
      none : (i j : ℕ) → i < j → j ≤ i + 0 → ⊥
      none i j l h = omega arith
  fill_by w (suc fuel) i j p l h ns =
      go (ℕ_discrete (suc i) j) (λ k p a b m. fill_by w fuel i k p a (omega arith) m) (λ k p a b m. fill_by w fuel k j p b (omega arith) m)
    where
      go : Dec (suc i ≡ j) → ((k p : ℕ) → i < k → k < j → Needles (place pts c) w i k → Scanned pts c i k p) →
          ((k p : ℕ) → i < k → k < j → Needles (place pts c) w k j → Scanned pts c k j p) → Scanned pts c i j p
      go (yes e) f g = last i j p e
      go (no n) f g = join w i j p ns (omega arith) f g

  -- A CHAIN WITH NEEDLES IS FILLED BY THE SCAN
  pub fill_scan : (w : ℕ → Pt ℤ) (i j p : ℕ) → i < j → Needles (place pts c) w i j → Scanned pts c i j p
  fill_scan w i j p l ns = fill_by w j i j p l (omega arith) ns

-- BOTH SIDES OF AN OPEN CAVITY: it closes, and each side is filled by the scan
module _ (W : World) (pts : ℕ → Pt ℤ) (c gp slot : ℕ → ℕ) where
  pub never_sticks : (w w' : ℕ → Pt ℤ) (n m r PL PR : ℕ) (σ : Net) → Opened W c gp slot n m r PL PR σ → 0 < n → suc n < m → m ≡ suc (suc (suc r)) →
      Needles (place pts c) w 0 n → Needles (place pts c) w' n m → ¬ (c n ≡ c 0) → Proper c 0 m → NeverSticks pts c gp slot n m r PL PR σ
  never_sticks w w' n m r PL PR σ opn l k e left right two proper = record {
    left = f;
    right = g;
    closes = close_run W (CcwP pts) c gp slot n m f.q r PL PR σ opn (fits f.q f.count) two f.plan
        (subst (λ (t : ℕ). Plan (CcwP pts) c n m f.q t) (full f.q g.q f.count g.count) g.plan) proper;
  }
    where
      f : Scanned pts c 0 n 0
      f = fill_scan pts c w 0 n 0 l left

      g : Scanned pts c n m f.q
      g = fill_scan pts c w' n m f.q (omega arith) right

      fits : (q : ℕ) → q + 1 ≡ 0 + n → q ≤ r
      fits q a = omega arith

      full : (q t : ℕ) → q + 1 ≡ 0 + n → t + suc n ≡ q + m → t ≡ suc r
      full q t a b = omega arith
