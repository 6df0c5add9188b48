-- The crossed slots become suspects. Definitions only.
use Rattle.std.specs.Prelude.{List, [], ◌∷◌, ◌≡◌, ℕ, zero, suc, ◌<◌}
use Rattle.nets.specs.Layout.{net_of, Kept}
use Rattle.suspects.specs.Stack.{stack, Suspects, Aside}
use Rattle.chains.specs.Areas.{slot_of}

-- the first k slots are different
abbrev pub Different : ℕ → (ℕ → ℕ) → Type 0
Different k slot = (i j : ℕ) → i < j → j < k → ¬ (slot i ≡ slot j)

-- slot (k - 1), .., slot 1, slot 0
unfoldable pub down_from : (ℕ → ℕ) → ℕ → List ℕ
down_from slot zero = []
down_from slot (suc k) = slot k ∷ down_from slot k

pub record Suspected (n t k : ℕ) (w w' : List ℕ) : Type 0 where
  pub stack_is : stack w' k ≡ down_from (slot_of n w) k
  pub suspects : Suspects t w' (stack w' k)
  pub net : (T : ℕ) → net_of w' T ≡ net_of w T
  pub aside : Aside t w w'
  pub kept : Kept n w w'
