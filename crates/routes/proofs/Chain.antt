-- A chain whose corners have needles through the base. The scan's choice is an apex strictly left of the base, no other corner of the
-- chain is at its place, and the chain before it and the chain behind it have needles through the two new bases. Assumes nothing.
use mathlib.Core.Path.{◌≡◌, sym, ◌∙◌, subst}
use Prim.Native.Nat.{ℕ, zero, suc, ◌-◌, ◌≤◌, ◌<◌}
use native.Mathlib.Decide.{ℕ_discrete, dec_lt}
use native.Mathlib.Omega.{arith}
use lib.IntN.{ℤ}
use Rattle.algebra.proofs.Order.{pos_by, not_both}
use Rattle.algebra.specs.Order.{Pos}
use Rattle.plane.specs.Determinants.{orient}
use Rattle.plane.specs.Points.{Pt}
use Rattle.cavities.proofs.Choice.{choice_clear}
use Rattle.cavities.specs.Choices.{Clear, Chosen}
use Rattle.routes.specs.Needles.{Pierce, Over, Needles, Apex, scan}
use Rattle.routes.proofs.Step.{step, turn}
use Rattle.routes.proofs.Mirror.{step'}

module _ (z w : ℕ → Pt ℤ) (i j : ℕ) (ns : Needles z w i j) where
  over : (k : ℕ) → i < k → k < j → Over (z i) (z j) (z k) (w k)
  over k l h = let p = ns.pierce k l h in record { left = p.left; before = p.before; after = p.after }

  pub scan_apex : suc i < j → Apex z i j (scan z i j)
  scan_apex some = go (choice_clear (z i) (z j) z (suc i) (j - suc (suc i)) (λ x l h. (ns.pierce x l (omega arith)).left))
    where
      go : {k : ℕ} → Chosen (z i) (z j) z (suc i) (j - suc (suc i)) k → Apex z i j k
      go {k} c = record { low = c.low; high = let h = c.high in omega arith; clear = λ x l h. c.clear x l (omega arith) }

  -- between two corners at one place, whose circle is clear, there is none at another place
  no_return : (l u h : ℕ) → i < l → l < u → u < h → h < j → z l ≡ z h → ¬ (z u ≡ z h) → Clear (z i) (z j) (z h) (z u) → ⊥
  no_return l u h il lu uh hj e n c = not_both after (pos_by (sym (turn (z u) (w u) (z h))) before)
    where
      pu : Pierce (z i) (z j) (z u) (w u)
      pu = ns.pierce u (omega arith) (omega arith)

      after : Pos (orient (z u) (w u) (z h))
      after = (step (z i) (z j) (z u) (w u) (z h) (w h) pu (over h (omega arith) hj) (ns.apart u h (omega arith) uh hj) n c).after

      before : Pos (orient (w u) (z u) (z h))
      before =
          subst (λ (p : Pt ℤ). Pos (orient (w u) (z u) p)) e
          (step' (z i) (z j) (z u) (w u) (z l) (w l) pu (over l il (omega arith)) (ns.apart l u il lu (omega arith)) (λ q. n (q ∙ e))
          (subst (λ (p : Pt ℤ). Clear (z i) (z j) p (z u)) (sym e) c)).before

  module _ (k : ℕ) (ap : Apex z i j k) where
    pub apex_left : Pos (orient (z i) (z j) (z k))
    apex_left = (ns.pierce k ap.low ap.high).left

    early : (m : ℕ) → i < m → m < k → ¬ (z m ≡ z k)
    early m im mk e = go (ℕ_discrete (suc m) k)
      where
        kj : k < j
        kj = ap.high

        n : ¬ (z (suc m) ≡ z m)
        n q = ns.differ m im (omega arith) (sym q)

        go : Dec (suc m ≡ k) → ⊥
        go (yes q) = n (subst (λ (t : ℕ). z t ≡ z m) (sym q) (sym e))
        go (no q) = no_return m (suc m) k im (omega arith) (omega arith) kj e (λ s. n (s ∙ sym e)) (ap.clear (suc m) (omega arith) (omega arith))

    late : (m : ℕ) → k ≤ m → suc m < j → ¬ (z (suc m) ≡ z k)
    late m km mj e = go (ℕ_discrete m k)
      where
        ik : i < k
        ik = ap.low

        n : ¬ (z m ≡ z (suc m))
        n = ns.differ m (omega arith) mj

        go : Dec (m ≡ k) → ⊥
        go (yes q) = n (subst (λ (t : ℕ). z t ≡ z (suc m)) (sym q) (sym e))
        go (no q) = no_return k m (suc m) ik (omega arith) (omega arith) mj (sym e) n (subst (λ (p : Pt ℤ). Clear (z i) (z j) p (z m)) (sym e) (ap.clear m (omega arith) (omega arith)))

    -- a place that comes twice is not picked
    pub once : (m : ℕ) → i < m → m < j → ¬ (m ≡ k) → ¬ (z m ≡ z k)
    once m im mj n e = go (dec_lt m k)
      where
        later : (m : ℕ) → k < m → m < j → ¬ (z m ≡ z k)
        later zero l h q = omega arith
        later (suc m) l h q = late m (omega arith) h q

        go : Dec (m < k) → ⊥
        go (yes l) = early m im l e
        go (no l) = later m (omega arith) mj e

    pub before_apex : Needles z w i k
    before_apex = record {
      pierce = λ x l h. let g = ap.high in step (z i) (z j) (z x) (w x) (z k) (w k) (ns.pierce x l (omega arith)) (over k ap.low g)
          (ns.apart x k l h g) (early x l h) (ap.clear x l (omega arith));
      apart = λ x y l m h. let g = ap.high in ns.apart x y l m (omega arith);
      differ = λ x l h. let g = ap.high in ns.differ x l (omega arith);
    }

    pub behind_apex : Needles z w k j
    behind_apex = record {
      pierce = λ x l h. let g = ap.low in step' (z i) (z j) (z x) (w x) (z k) (w k) (ns.pierce x (omega arith) h) (over k g ap.high)
          (ns.apart k x g l h) (once x (omega arith) h (omega arith)) (ap.clear x (omega arith) h);
      apart = λ x y l m h. let g = ap.low in ns.apart x y (omega arith) m h;
      differ = λ x l h. let g = ap.low in ns.differ x (omega arith) h;
    }
