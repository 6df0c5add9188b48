-- Numbers that are within the limit, and a call that is passed some of them, each through bits. Assumes nothing.
use mathlib.Core.Path.{◌≡◌, sym, ap, ◌∙◌}
use mathlib.Core.Bool.{Bool}
use mathlib.Core.List.{List, [], ◌∷◌}
use Prim.Native.Nat.{ℕ, zero, suc, ◌≤◌}
use lib.Dec.{lit≤}
use lib.IntN.{ℤ, nat_abs}
use mir.Syntax.{w32}
use Rattle.algebra.specs.Size.{Small}
use Rattle.algebra.proofs.Ring.{look}
use Rattle.algebra.proofs.Machine.{backs, backs_same}
use Rattle.signs.specs.Answers.{limit}

abbrev pub looks : List ℤ → List ℕ → List ℤ
looks ρ [] = []
looks ρ (i ∷ is) = look ρ i ∷ looks ρ is

pub look_small : (ρ : List ℤ) → Small limit ρ → (i : ℕ) → nat_abs (look ρ i) ≤ limit
look_small [] h i = lit≤ tt
look_small (x ∷ xs) h zero = h.0
look_small (x ∷ xs) h (suc i) = look_small xs h.1 i

module _ (ρ : List ℤ) (h : Small limit ρ) where
  pub some_small : (is : List ℕ) → Small limit (looks ρ is)
  some_small [] = tt
  some_small (i ∷ is) = (look_small ρ h i, some_small is)

  -- The call told r of what it was passed, and r turned out to be v.
  pub told : (is : List ℕ) (f : List ℤ → Bool) {r v : Bool} → r ≡ f (backs w32 (looks ρ is)) → r ≡ v → f (looks ρ is) ≡ v
  told is f e i = sym (ap f (backs_same w32 limit (looks ρ is) (some_small is) tt)) ∙ sym e ∙ i
