-- Numbers that are at most k in size. Definitions only.
use Rattle.std.specs.Prelude.{List, [], ◌∷◌, ℕ, ◌≤◌, ℤ, nat_abs}

abbrev pub Small : ℕ → List ℤ → Type 0
Small k [] = Unit {0}
Small k (x ∷ xs) = (nat_abs x ≤ k) × Small k xs
