-- A triple is turned, and one triple more is gathered. Assumes nothing.
use mathlib.Core.List.{List}
use mathlib.Core.Logic.{◌⊎◌}
use mathlib.Core.Path.{◌≡◌, ◌∙◌}
use Prim.Native.Nat.{ℕ, ◌+◌, ◌*◌, ◌≤◌, ◌<◌}
use native.Mathlib.Decide.{ℕ_discrete}
use native.Mathlib.Omega.{arith}
use Rattle.std.proofs.lemmas.Bool.Decides.{nat_tests}
use Rattle.nets.specs.Location.{least, second, third}
use Rattle.sheets.specs.Steps.{Turned, Gathered}

-- ---- a triple is turned so that its least number is first: x, y, z are the numbers from there on

pub record Turns (a b c x y z : ℕ) : Type 0 where
  pub is_least : least a b c ≡ x
  pub is_second : second a b c ≡ y
  pub is_third : third a b c ≡ z

pub turns_a : (a b c : ℕ) → a ≤ b → a ≤ c → Turns a b c a b c
turns_a a b c h g = record { is_least = omega arith; is_second = grind (arith, nat_tests); is_third = grind (arith, nat_tests) }

pub turns_b : (a b c : ℕ) → (b < a) ⊎ (c < a) → b ≤ c → Turns a b c b c a
turns_b a b c n h = record { is_least = grind arith; is_second = grind (arith, nat_tests); is_third = grind (arith, nat_tests) }

pub turns_c : (a b c : ℕ) → (b < a) ⊎ (c < a) → c < b → Turns a b c c a b
turns_c a b c n h = record { is_least = grind arith; is_second = grind (arith, nat_tests); is_third = grind (arith, nat_tests) }

-- ---- one triple more is gathered

lt : (k n : ℕ) → k < n + 1 → ¬ (k ≡ n) → k < n
lt k n h e = omega arith

-- The slots are below lo, so the corners that are read are those of the working area as it was.
pub gathered_more : (w₀ : List ℕ) (lo k : ℕ) (w w' : List ℕ) → Gathered w₀ lo k w → 16 * k + 16 ≤ lo →
    Turned w k (lo + 3 * k) w' → Gathered w₀ lo (k + 1) w'
gathered_more w₀ lo k w w' o room t =
    let a = o.below (16 * k) (omega arith) in
    let b = o.below (16 * k + 1) (omega arith) in
    let c = o.below (16 * k + 2) (omega arith) in
    record {
      firsts = λ s h. elim (ℕ_discrete s k) [
        | yes e ↦ rw (e, ← a, ← b, ← c) t.first
        | no e ↦ let l = lt s k h e in t.below (lo + 3 * s) (omega arith) ∙ o.firsts s l
      ];
      seconds = λ s h. elim (ℕ_discrete s k) [
        | yes e ↦ rw (e, ← a, ← b, ← c) t.second
        | no e ↦ let l = lt s k h e in t.below (lo + 3 * s + 1) (omega arith) ∙ o.seconds s l
      ];
      thirds = λ s h. elim (ℕ_discrete s k) [
        | yes e ↦ rw (e, ← a, ← b, ← c) t.third
        | no e ↦ let l = lt s k h e in t.below (lo + 3 * s + 2) (omega arith) ∙ o.thirds s l
      ];
      below = λ p h. t.below p (omega arith) ∙ o.below p h;
      above = λ p h. t.above p (omega arith) ∙ o.above p (omega arith);
    }
