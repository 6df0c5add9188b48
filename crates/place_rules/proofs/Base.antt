-- The corners of the base by their numbers: 0, 1, 2, or 0, 2, 1 where the base is clockwise. Assumes nothing.
use mathlib.Core.Path.{◌≡◌, ap, ◌∙◌}
use mathlib.Core.Bool.{Bool, true, false, cond, ◌&&◌, ◌||◌}
use mathlib.Core.List.{List}
use Prim.Native.Nat.{ℕ, ◌≤◌, ◌<◌}
use native.Mathlib.Omega.{arith}
use lib.IntN.{ℤ, pos}
use Rattle.algebra.specs.Tests.{eq_z}
use Rattle.plane.specs.Determinants.{orient}
use Rattle.plane.specs.Base.{area_of_base}
use Rattle.tables.specs.Data.{point, clockwise, base}
use Rattle.tables.specs.Rules.{along_side}

-- b and c are the numbers of the second and of the third corner
pub record Corners (ps : List ℤ) (b c : ℕ) : Type 0 where
  second : b ≡ cond (clockwise ps) 2 1
  third : c ≡ cond (clockwise ps) 1 2

-- what the calls answered for the flag
pub corners : {ps : List ℤ} {b c : ℕ} (cw : Bool) → cw ≡ clockwise ps → b ≡ cond cw 2 1 → c ≡ cond cw 1 2 → Corners ps b c
corners cw e p q = record { second = p ∙ ap (λ (x : Bool). cond x 2 1) e; third = q ∙ ap (λ (x : Bool). cond x 1 2) e }

low : (x : Bool) (n i : ℕ) → 3 ≤ n → (i ≡ cond x 2 1 → i < n) × (i ≡ cond x 1 2 → i < n)
low true n i l = (λ e. omega arith, λ e. omega arith)
low false n i l = (λ e. omega arith, λ e. omega arith)

module _ {ps : List ℤ} {b c : ℕ} (k : Corners ps b c) where
  pub second_low : {n : ℕ} → 3 ≤ n → b < n
  second_low {n} l = (low (clockwise ps) n b l).0 k.second

  pub third_low : {n : ℕ} → 3 ≤ n → c < n
  third_low {n} l = (low (clockwise ps) n c l).1 k.third

  pub base_area : area_of_base (base ps) ≡ orient (point ps 0) (point ps b) (point ps c)
  unfolding base
  base_area = rw (← k.second, ← k.third)

  module _ (u v : ℕ) where
    abbrev on : ℕ → ℕ → Bool
    on i j = eq_z (orient (point ps i) (point ps j) (point ps u)) (pos 0) && eq_z (orient (point ps i) (point ps j) (point ps v)) (pos 0)

    along : along_side ps u v ≡ (on 0 b || on b c || on c 0)
    unfolding along_side base
    along = rw (← k.second, ← k.third)

    -- the sides, tried one after the other
    pub along_1 : {r : Bool} → r ≡ on 0 b → r ≡ true → true ≡ along_side ps u v
    along_1 e h = rw (along, ← e, h)

    pub along_2 : {r r' : Bool} → r ≡ on 0 b → r ≡ false → r' ≡ on b c → r' ≡ true → true ≡ along_side ps u v
    along_2 e h e' h' = rw (along, ← e, h, ← e', h')

    pub along_3 : {r r' r'' : Bool} → r ≡ on 0 b → r ≡ false → r' ≡ on b c → r' ≡ false → r'' ≡ on c 0 → r'' ≡ along_side ps u v
    along_3 e h e' h' e'' = rw (along, ← e, h, ← e', h') e''
