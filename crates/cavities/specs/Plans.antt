-- The plan of a filling, which is a tree of apexes, and when an open cavity can be closed. Definitions only.
use Rattle.std.specs.Prelude.{◌≡◌, ℕ, suc, ◌≤◌, ◌<◌}
use Rattle.cavities.specs.Closings.{Closing}
use Rattle.cavities.specs.Nets.{Net}

-- a plan for the part i .. j with the slots p .. q: each apex lies strictly left of its base
pub data Plan (Ccw : ℕ → ℕ → ℕ → Type 0) (c : ℕ → ℕ) : ℕ → ℕ → ℕ → ℕ → Type 0 where
  leaf : {i p : ℕ} → Plan Ccw c i (suc i) p p
  fork : {i k j p q r : ℕ} → Ccw (c i) (c j) (c k) → Plan Ccw c i k p q → Plan Ccw c k j q r → Plan Ccw c i j p (suc r)

-- no edge of the chain is a point
abbrev pub Proper : (ℕ → ℕ) → ℕ → ℕ → Type 0
Proper c i j = (x : ℕ) → i ≤ x → x < j → ¬ (c (suc x) ≡ c x)

-- the open cavity can be closed
pub record Closes (Ccw : ℕ → ℕ → ℕ → Type 0) (c gp slot : ℕ → ℕ) (n m q r PL PR : ℕ) (σ : Net) : Type 0 where
  pub σ1 : Net
  pub σ2 : Net
  pub σ3 : Net
  pub σ4 : Net
  pub closing : Closing Ccw c gp slot n m q r PL PR σ σ1 σ2 σ3 σ4
