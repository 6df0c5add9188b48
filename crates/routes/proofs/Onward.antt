-- The walk's next step in the net: the edge to leave by has a partner, its triangle is a new one, and its apex is b or lies strictly left
-- or right of a b. So a walk of n triangles has n at most their number. Assumes what the tiling says (Sees, Bars).
use mathlib.Core.Bool.{Bool, true, false}
use mathlib.Core.Path.{◌≡◌, refl, sym, ap, ◌∙◌, subst}
use Prim.Native.Nat.{ℕ, zero, suc, ◌≤◌, ◌<◌}
use native.Mathlib.Decide.{ℕ_discrete, dec_lt}
use native.Mathlib.Omega.{arith}
use lib.IntN.{ℤ}
use Rattle.plane.specs.Points.{Pt}
use Rattle.cavities.proofs.Fill.{le_self}
use Rattle.cavities.proofs.Walk.{walk_strip}
use Rattle.cavities.specs.Corridors.{Three, Tiled, Figure, Walk, Strip}
use Rattle.cavities.specs.Nets.{Net, World}
use Rattle.cavities.specs.Tilings.{CcwP}
use Rattle.routes.specs.Gates.{Next, to_left, to_right}
use Rattle.routes.specs.Needles.{Pierce}
use Rattle.routes.specs.Walks.{Sees, Bars, Met, meets, left_of, right_of}
use Rattle.routes.proofs.Follow.{follow, entered, beyond}
use Rattle.routes.proofs.Gate.{next}
use Rattle.routes.proofs.Route.{last_gate}

module _ (W : World) (pts : ℕ → Pt ℤ) (Edge : ℕ → ℕ → Type 0) (a b : Pt ℤ) (F : Figure) (t cap : ℕ) (σ : Net)
    (til : Tiled W (CcwP pts) F.vt t cap σ) (sees : Sees pts Edge a b F t σ) (bars : Bars W pts a b) (n l r x : ℕ) (σ1 : Net) (fits : n < cap)
    (walk : Walk F t n l r x σ σ1) where
  st : Strip W F t n l r x σ σ1
  st = walk_strip W (CcwP pts) F t cap til fits walk

  gate : Pierce a b (pts (F.cl l)) (pts (F.cr r))
  gate = (last_gate pts Edge F.cl F.cr a b (follow W pts Edge a b F t cap til sees fits walk)).pierce

  -- there is a neighbour
  pub neighbour : σ1.has x ≡ true
  neighbour = go (σ1.has x) refl
    where
      go : (v : Bool) → σ1.has x ≡ v → σ1.has x ≡ true
      go true e = e
      go false e =
          absurd (bars.side (σ1.side x) (σ1.org x) (σ1.dst x) ((st.core.inv.good x st.core.exit_live).along e)
          (subst (λ (X : Type 0). X) (λ i. Pierce a b (pts (sym st.exit.dst i)) (pts (sym st.exit.org i))) gate))

  -- the corner behind it
  pub onward : (f g : ℕ) → Three (F.slot n) (σ1.mate x) f g → F.slot n < t → (Dec (b ≡ pts (σ1.org g))) → Met pts a b (σ1.org g)
  onward f g three small (yes e) = meets e
  onward f g three small (no ne) =
      go (next a b (pts (F.cl l)) (pts (F.cr r)) (pts (σ1.org g)) gate
      (entered W pts Edge a b F t cap σ til sees n l r x f g σ1 fits st neighbour three small (σ1.org g) refl)
      (beyond W pts Edge a b F t cap σ til sees n l r x f g σ1 fits st neighbour three small (σ1.org g) refl gate ne) (bars.clear (σ1.org g)))
    where
      go : Next a b (pts (F.cl l)) (pts (F.cr r)) (pts (σ1.org g)) → Met pts a b (σ1.org g)
      go (to_left h p) = left_of h
      go (to_right h p) = right_of h

-- ---- as many different numbers below t

search_for : (f : ℕ → ℕ) (n s : ℕ) → Dec ((y : ℕ) × (y < n) × (f y ≡ s))
search_for f zero s = no (λ r. let l = r.1 in none r.0 l)
  where
    none : (y : ℕ) → y < 0 → ⊥
    none y l = omega arith
search_for f (suc n) s = go (search_for f n s) (ℕ_discrete (f n) s)
  where
    go : Dec ((y : ℕ) × (y < n) × (f y ≡ s)) → Dec (f n ≡ s) → Dec ((y : ℕ) × (y < suc n) × (f y ≡ s))
    go (yes r) d = yes (r.0, (let l = r.1 in omega arith), r.2)
    go (no r) (yes e) = yes (n, le_self, e)
    go (no r) (no e) = no (λ q. r (q.0, less q.0 q.1 q.2, q.2))
      where
        less : (y : ℕ) → y < suc n → f y ≡ s → y < n
        less y l w = let d : ¬ (y ≡ n) = (λ u. e (ap f (sym u) ∙ w)) in omega arith

skip : (y z : ℕ) → Dec (z < y) → ℕ
skip y z (yes l) = z
skip y z (no l) = suc z

skip_less : (y z n : ℕ) (d : Dec (z < y)) → z < n → skip y z d < suc n
unfolding skip
skip_less y z n (yes l) h = omega arith
skip_less y z n (no l) h = omega arith

skip_not : (y z : ℕ) (d : Dec (z < y)) → ¬ (skip y z d ≡ y)
unfolding skip
skip_not y z (yes l) = λ e. omega arith
skip_not y z (no l) = λ e. omega arith

skip_same : (y z w : ℕ) (d : Dec (z < y)) (e : Dec (w < y)) → skip y z d ≡ skip y w e → z ≡ w
unfolding skip
skip_same y z w (yes l) (yes m) q = q
skip_same y z w (yes l) (no m) q = omega arith
skip_same y z w (no l) (yes m) q = omega arith
skip_same y z w (no l) (no m) q = omega arith

pub pigeon : (t n : ℕ) (f : ℕ → ℕ) → ((y : ℕ) → y < n → f y < t) → ((y z : ℕ) → y < n → z < n → f y ≡ f z → y ≡ z) → n ≤ t
pigeon zero zero f low apart = le_self
pigeon zero (suc n) f low apart = let h = low 0 (omega arith) in absurd (none (f 0) h)
  where
    none : (y : ℕ) → y < 0 → ⊥
    none y l = omega arith
pigeon (suc t) zero f low apart = omega arith
pigeon (suc t) (suc n) f low apart = go (search_for f (suc n) t) (λ k g a b. pigeon t k g a b)
  where
    go : Dec ((y : ℕ) × (y < suc n) × (f y ≡ t)) → ((k : ℕ) (g : ℕ → ℕ) → ((y : ℕ) → y < k → g y < t) → ((y z : ℕ) → y < k → z < k → g y ≡ g z → y ≡ z) → k ≤ t) → suc n ≤ suc t
    go (no none) ih = let h = ih (suc n) f (λ y l. less (f y) (low y l) (λ e. none (y, l, e))) apart in omega arith
      where
        less : (v : ℕ) → v < suc t → ¬ (v ≡ t) → v < t
        less v l m = omega arith
    go (yes s) ih =
        let h = ih n (λ z. f (skip s.0 z (dec_lt z s.0))) (λ z l. under z l)
        (λ z w l m e. skip_same s.0 z w (dec_lt z s.0) (dec_lt w s.0)
        (apart (skip s.0 z (dec_lt z s.0)) (skip s.0 w (dec_lt w s.0)) (skip_less s.0 z n (dec_lt z s.0) l) (skip_less s.0 w n (dec_lt w s.0) m) e)) in
        omega arith
      where
        less : (v : ℕ) → v < suc t → ¬ (v ≡ t) → v < t
        less v l m = omega arith

        under : (z : ℕ) → z < n → f (skip s.0 z (dec_lt z s.0)) < t
        under z l =
            less (f (skip s.0 z (dec_lt z s.0))) (low (skip s.0 z (dec_lt z s.0)) (skip_less s.0 z n (dec_lt z s.0) l))
            (λ e. skip_not s.0 z (dec_lt z s.0) (apart (skip s.0 z (dec_lt z s.0)) s.0 (skip_less s.0 z n (dec_lt z s.0) l) s.1 (e ∙ sym s.2)))

-- the walk ends
pub walk_short : (W : World) (F : Figure) (t n l r x : ℕ) (σ σ1 : Net) → Strip W F t n l r x σ σ1 → n ≤ t
walk_short W F t n l r x σ σ1 st = pigeon t n F.slot st.core.slot_real st.core.slot_apart
