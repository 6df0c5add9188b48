-- One item more is filled in. Assumes nothing.
use mathlib.Core.List.{List}
use mathlib.Core.Path.{◌≡◌, ◌∙◌}
use Prim.Native.Nat.{ℕ, ◌+◌, ◌*◌, ◌<◌}
use native.Mathlib.Decide.{ℕ_discrete}
use native.Mathlib.Omega.{arith}
use lib.IntN.{ℤ, pos}
use lib.ListN.{get_or}
use Rattle.sorts.specs.Items.{Written}
use Rattle.tables.specs.Data.{point}
use Rattle.ranks.specs.Items.{word, Filled}

lt : (k n : ℕ) → k < n + 1 → ¬ (k ≡ n) → k < n
lt k n h e = omega arith

pub filled_more : (ps : List ℤ) (lo i : ℕ) (w₀ w w' : List ℕ) (a b : ℕ) → Filled ps lo i w₀ w → Written w (lo + 3 * i) a b i w' →
    a ≡ word (get_or ps (2 * i) (pos 0)) → b ≡ word (get_or ps (2 * i + 1) (pos 0)) → Filled ps lo (i + 1) w₀ w'
unfolding point
filled_more ps lo i w₀ w w' a b o t ea eb = record {
  xs = λ k h. elim (ℕ_discrete k i) [
    | yes e ↦ rw e (t.first ∙ ea)
    | no e ↦ let l = lt k i h e in t.below (lo + 3 * k) (omega arith) ∙ o.xs k l
  ];
  ys = λ k h. elim (ℕ_discrete k i) [
    | yes e ↦ rw e (t.second ∙ eb)
    | no e ↦ let l = lt k i h e in t.below (lo + 3 * k + 1) (omega arith) ∙ o.ys k l
  ];
  numbers = λ k h. elim (ℕ_discrete k i) [
    | yes e ↦ rw e t.third
    | no e ↦ let l = lt k i h e in t.below (lo + 3 * k + 2) (omega arith) ∙ o.numbers k l
  ];
  above = λ p h. t.above p (omega arith) ∙ o.above p (omega arith);
}
