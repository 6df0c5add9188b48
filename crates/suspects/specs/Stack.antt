-- The stack of suspects in the working area. Crate nets says in specs/Layout where a suspect and a slot's flag stand. Definitions only.
use Rattle.std.specs.Prelude.{Option, MatchOption, List, [], ◌∷◌, ◌≡◌, ℕ, zero, suc, ◌+◌, ◌*◌, ◌%◌, ◌<◌, ◌≤◌, length, get_or, set}
use Prim.{Unit}
use Rattle.nets.specs.Flipping.{leave}
use Rattle.nets.specs.Layout.{flag_cell, stack_cell}

-- the suspects, the last born first
unfoldable pub stack : List ℕ → ℕ → List ℕ
stack w zero = []
stack w (suc m) = get_or w (stack_cell m) 0 ∷ stack w m

-- s is not among them
unfoldable pub Fresh : ℕ → List ℕ → Type 0
Fresh s [] = Unit {0}
Fresh s (u ∷ q) = (¬ (u ≡ s)) × Fresh s q

-- slots below count, none twice, and each has its flag. The flag of a slot that is no suspect may be anything.
unfoldable pub Suspects : ℕ → List ℕ → List ℕ → Type 0
Suspects count w [] = Unit {0}
Suspects count w (s ∷ q) = (s < count) × (get_or w (flag_cell s) 0 ≡ 1) × Fresh s q × Suspects count w q

-- s comes on top of m suspects
unfoldable pub pushed : List ℕ → ℕ → ℕ → List ℕ
pushed w m s = set (set w (stack_cell m) s) (flag_cell s) 1

-- only flags of slots below count and the first count + 1 suspects may differ
pub record Aside (count : ℕ) (w w' : List ℕ) : Type 0 where
  pub len : length w' ≡ length w
  pub under : (c : ℕ) → c % 16 < 9 → get_or w' c 0 ≡ get_or w c 0
  pub over : (c : ℕ) → 11 ≤ c % 16 → get_or w' c 0 ≡ get_or w c 0
  pub beyond : (c : ℕ) → 16 * count + 16 ≤ c → get_or w' c 0 ≡ get_or w c 0

-- ---- a suspect is taken out

-- none of the suspects from suspect k on is s
abbrev pub NoneFrom : List ℕ → ℕ → ℕ → ℕ → Type 0
NoneFrom w m s k = (j : ℕ) → k ≤ j → j < m → ¬ (get_or w (stack_cell j) 0 ≡ s)

-- the search from the top: s is none of the m suspects, or it is suspect k and none above that
abbrev pub Placed : List ℕ → ℕ → ℕ → Option ℕ → Type 0
Placed w m s r = MatchOption r (NoneFrom w m s 0) (λ k. (k < m) × (get_or w (stack_cell k) 0 ≡ s) × NoneFrom w m s (k + 1))

-- of m suspects those above suspect k have come down by one
pub record Closed (w : List ℕ) (k m : ℕ) (w' : List ℕ) : Type 0 where
  pub len : length w' ≡ length w
  pub moved : (j : ℕ) → k ≤ j → j + 1 < m → get_or w' (stack_cell j) 0 ≡ get_or w (stack_cell (j + 1)) 0
  pub rest : (c : ℕ) → ((j : ℕ) → k ≤ j → j + 1 < m → ¬ (c ≡ stack_cell j)) → get_or w' c 0 ≡ get_or w c 0

-- s has left the m suspects, and r are left; the flags stay
pub record Left (w : List ℕ) (m s : ℕ) (w' : List ℕ) (r : ℕ) : Type 0 where
  pub len : length w' ≡ length w
  pub less : r ≤ m
  pub stack_is : stack w' r ≡ leave s (stack w m)
  pub rest : (c : ℕ) → ((j : ℕ) → j < m → ¬ (c ≡ stack_cell j)) → get_or w' c 0 ≡ get_or w c 0

-- n has left the m suspects, and t and then n have come on top: r suspects
pub record Reborn (count : ℕ) (w : List ℕ) (m t n : ℕ) (w' : List ℕ) (r : ℕ) : Type 0 where
  pub aside : Aside count w w'
  pub stack_is : stack w' r ≡ n ∷ t ∷ leave n (stack w m)
  pub suspects : Suspects count w' (stack w' r)
