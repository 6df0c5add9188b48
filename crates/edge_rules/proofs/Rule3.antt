-- Rule 3 by the length of the list. Assumes nothing.
use mathlib.Core.Path.{◌≡◌, ap}
use mathlib.Core.Bool.{Bool, ◌||◌}
use mathlib.Core.List.{List}
use Prim.Native.Nat.{ℕ, ◌%◌}
use lib.IntN.{ℤ}
use lib.ListN.{length}
use Rattle.algebra.specs.Tests.{all_to, any_to}
use Rattle.plane.specs.Halfedges.{nxt}
use Rattle.tables.specs.Rules.{corner, reverse, along_side, rule3}
use Rattle.list_rules.proofs.Once.{whole_length}

abbrev pub met : List ℤ → List ℕ → ℕ → Bool
met ps xs h = any_to (length xs) (reverse xs h) || along_side ps (corner xs h) (corner xs (nxt h))

pub all_met : (ps : List ℤ) (xs : List ℕ) → length xs % 3 ≡ 0 → rule3 ps xs ≡ all_to (length xs) (met ps xs)
unfolding rule3
all_met ps xs w = ap (λ (k : ℕ). all_to k (λ h. any_to k (reverse xs h) || along_side ps (corner xs h) (corner xs (nxt h)))) (whole_length xs w)
