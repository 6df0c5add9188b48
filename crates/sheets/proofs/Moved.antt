-- A sum whose terms are taken in another order. Assumes nothing.
use mathlib.Core.Bool.{cond}
use mathlib.Core.Path.{◌≡◌, sym, ap, ◌∙◌}
use Prim.Native.Nat.{ℕ, ◌<◌}
use native.Mathlib.Decide.{ℕ_discrete}
use lib.Dec.{eqb}
use lib.IntN.{ℤ, pos}
use Rattle.algebra.specs.Sum.{sum_to}
use Rattle.algebra.proofs.Sum.{sum_cong, sum_swap, sum_one, eqb_no, eqb_yes}

-- s sends the numbers below n one to one onto the numbers below n, and p sends them back.
module _ (n : ℕ) (s p : ℕ → ℕ) (s_low : (k : ℕ) → k < n → s k < n) (p-low : (j : ℕ) → j < n → p j < n)
    (there : (j : ℕ) → j < n → s (p j) ≡ j) (back : (k : ℕ) → k < n → p (s k) ≡ k) (f : ℕ → ℤ) where
  -- Term j of the sum, where s sends k to it.
  hit : ℕ → ℕ → ℤ
  hit k j = cond (eqb (s k) j) (f j) (pos 0)

  hit_s : (k j : ℕ) → hit k j ≡ cond (eqb (s k) j) (f (s k)) (pos 0)
  unfolding hit
  hit_s k j = elim (ℕ_discrete (s k) j) [
    | yes e ↦ ap (λ (i : ℕ). cond (eqb (s k) j) (f i) (pos 0)) (sym e)
    | no e ↦ rw (eqb_no (s k) j e)
  ]

  hit_p : (k j : ℕ) → k < n → j < n → hit k j ≡ cond (eqb (p j) k) (f j) (pos 0)
  unfolding hit
  hit_p k j h g = elim (ℕ_discrete (s k) j) [
    | yes e ↦ rw (eqb_yes (s k) j e, eqb_yes (p j) k (ap p (sym e) ∙ back k h))
    | no e ↦ rw (eqb_no (s k) j e, eqb_no (p j) k (λ q. e (ap s (sym q) ∙ there j g)))
  ]

  pub sum_moved : sum_to n (λ k. f (s k)) ≡ sum_to n f
  sum_moved =
      sum_cong n (λ k. f (s k)) (λ k. sum_to n (λ j. hit k j))
      (λ k h. sym (sum_cong n (λ j. hit k j) (λ j. cond (eqb (s k) j) (f (s k)) (pos 0)) (λ j g. hit_s k j) ∙ sum_one n (s k) (f (s k)) (s_low k h))) ∙
      sum_swap n n hit ∙
      sum_cong n (λ j. sum_to n (λ k. hit k j)) f
      (λ j g. sum_cong n (λ k. hit k j) (λ k. cond (eqb (p j) k) (f j) (pos 0)) (λ k h. hit_p k j h g) ∙ sum_one n (p j) (f j) (p-low j g))
