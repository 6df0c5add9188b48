-- The walk and the scan, by their turns. Assumes nothing.
use mathlib.Core.Bool.{Bool, true, false, cond}
use mathlib.Core.List.{List}
use mathlib.Core.Path.{◌≡◌, refl, sym, ap, ◌∙◌}
use Prim.Native.Nat.{ℕ, zero, suc, ◌+◌, ◌-◌, ◌*◌, ◌/◌, ◌≤◌, ◌<◌}
use native.Mathlib.Omega.{arith}
use lib.IntN.{ℤ}
use Rattle.std.specs.Option.{MatchOption}
use Rattle.std.specs.Prelude.{Option, None, Some}
use Rattle.plane.specs.Points.{Pt}
use Rattle.nets.specs.Layout.{net_of, InRange}
use Rattle.nets.specs.Location.{beyond, holds, step, over, or_else, slot_of, walk, scan, locate}
use Rattle.nets.specs.Nets.{Net}
use Rattle.turns.specs.Moves.{turn_number, move}
use Rattle.turns.specs.Numbers.{suc_or_0}
use Rattle.turns.specs.declared.Turn.{Turn}
use Rattle.turns.specs.declared.Turn.TheVariants.{Here, NoWay, To}

-- ---- a turn of the walk

stays : (b : Bool) (s : ℕ) → 0 ≡ cond b 0 (suc s) → b ≡ true
stays true s e = refl
stays false s e = absurd (let z : ⊥ = omega arith in z)

moves : (b : Bool) (s : ℕ) {n : ℕ} → suc n ≡ cond b 0 (suc s) → (b ≡ false) × (s ≡ n)
moves true s e = absurd (let z : ⊥ = omega arith in z)
moves false s e = (refl, omega arith)

module _ (P : ℕ → Pt ℤ) (m : Net) (p : Pt ℤ) where
  from_none : (n : ℕ) → walk P m p n 0 ≡ 0
  unfolding walk
  from_none zero = refl
  from_none (suc n) = refl

  -- a call told that slot t holds the point, or that it does not
  module _ (t : ℕ) where
    pub in_it : 0 ≡ move P m p t → holds P m p t ≡ true
    unfolding move
    in_it e = stays (holds P m p t) (step P m p t) e

    away : {n : ℕ} → suc n ≡ move P m p t → (holds P m p t ≡ false) × (step P m p t ≡ n)
    unfolding move
    away e = moves (holds P m p t) (step P m p t) e

    pub not_in : (to : Turn) → turn_number to ≡ move P m p t → ¬ (to ≡ Here) → holds P m p t ≡ false
    not_in Here e n = absurd (n refl)
    not_in NoWay e n = (away e).0
    not_in (To u) e n = (away e).0

    -- with at most c turns in all, turn i
    module _ (c i : ℕ) (l : i < c) where
      turn : {n : ℕ} → suc n ≡ move P m p t → walk P m p (c - i) (suc t) ≡ walk P m p (c - (i + 1)) n
      unfolding walk
      turn e = let d : c - i ≡ suc (c - (i + 1)) = omega arith in rw (d, (away e).0, (away e).1)

      pub here : 0 ≡ move P m p t → suc t ≡ walk P m p (c - i) (suc t)
      unfolding walk
      here e = let d : c - i ≡ suc (c - (i + 1)) = omega arith in rw (d, in_it e)

      pub ends : 1 ≡ move P m p t → 0 ≡ walk P m p (c - i) (suc t)
      ends e = sym (turn e ∙ from_none (c - (i + 1)))

      pub on : {n : ℕ} → suc (suc n) ≡ move P m p t → walk P m p (c - (i + 1)) (suc n) ≡ walk P m p (c - i) (suc t)
      on e = sym (turn e)

  -- there is nothing left of the walk
  pub walk_none : (c i at : ℕ) → c ≤ i → 0 ≡ walk P m p (c - i) at
  unfolding walk
  walk_none c i at l = let z : c - i ≡ 0 = omega arith in rw z

  -- ---- the scan

  scan_none : (n : ℕ) → ((k : ℕ) → k < n → holds P m p k ≡ false) → 0 ≡ scan P m p n
  unfolding scan
  scan_none zero f = refl
  scan_none (suc n) f = rw (← scan_none n (λ k l. f k (omega arith)), f n (omega arith))

  -- a slot that is found stays found
  scan_found : (d t : ℕ) → holds P m p t ≡ true → ((k : ℕ) → k < t → holds P m p k ≡ false) → suc t ≡ scan P m p (d + suc t)
  unfolding scan
  scan_found zero t h f = let z : 0 + suc t ≡ suc t = omega arith in rw (z, ← scan_none t f, h)
  scan_found (suc d) t h f = let z : suc d + suc t ≡ suc (d + suc t) = omega arith in rw (z, ← scan_found d t h f)

  pub scanned : (n : ℕ) (r : Option ℕ) → MatchOption r ((k : ℕ) → k < n → holds P m p k ≡ false) (λ t. (t < n) × (holds P m p t ≡ true) × ((k : ℕ) → k < t → holds P m p k ≡ false)) →
      suc_or_0 r ≡ scan P m p n
  scanned n None f = scan_none n f
  scanned n (Some t) f = let d : n - suc t + suc t ≡ n = omega (arith, f.0) in scan_found (n - suc t) t f.1 f.2 ∙ ap (scan P m p) d

-- ---- the walk, and the scan behind it

module _ (P : ℕ → Pt ℤ) (w : List ℕ) (T : ℕ) (p : Pt ℤ) (z : ℕ) where
  pub located : (x r : Option ℕ) {A : Type 0} → suc_or_0 x ≡ walk P (net_of w T) p (4 * T + 16) (suc z) → MatchOption x A (λ t. r ≡ Some t) →
      (A → suc_or_0 r ≡ scan P (net_of w T) p T) → suc_or_0 r ≡ locate P (net_of w T) p z
  unfolding locate net_of
  located None r e f g = rw (← e) (g f)
  located (Some t) r e f g = rw (f, ← e)

-- ---- the slots are in range

slot_low : (a T : ℕ) → a ≤ 3 * T → slot_of a ≤ T
slot_low zero T l = omega arith
slot_low (suc g) T l = let z : suc (g / 3) ≤ T = omega arith in z

cond_low : (b : Bool) {x T : ℕ} → x ≤ T → cond b x 0 ≤ T
cond_low true l = l
cond_low false l = omega arith

else_low : (x : ℕ) {y T : ℕ} → x ≤ T → y ≤ T → or_else x y ≤ T
else_low zero l k = k
else_low (suc x) l k = l

module _ (P : ℕ → Pt ℤ) (w : List ℕ) (T : ℕ) (p : Pt ℤ) (t : ℕ) (range : InRange T w) (l : t < T) where
  over_low : (h : ℕ) → h < 3 * T → over P (net_of w T) p h ≤ T
  over_low h k = cond_low (beyond P (net_of w T) p h) (slot_low ((net_of w T).adj h) T (range.partners h k))

  step_low : step P (net_of w T) p t ≤ T
  unfolding step
  step_low =
      else_low (over P (net_of w T) p (3 * t)) (over_low (3 * t) (omega arith))
      (else_low (over P (net_of w T) p (3 * t + 1)) (over_low (3 * t + 1) (omega arith)) (over_low (3 * t + 2) (omega arith)))

  pub move_low : move P (net_of w T) p t ≤ T + 1
  unfolding move
  move_low = go (holds P (net_of w T) p t)
    where
      go : (b : Bool) → cond b 0 (suc (step P (net_of w T) p t)) ≤ T + 1
      go true = omega arith
      go false = omega (arith, step_low)
