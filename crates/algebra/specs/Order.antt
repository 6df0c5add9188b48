-- A whole number against zero. Definitions only.
use Rattle.std.specs.Prelude.{ℤ, pos, ◌≤ℤ◌, ◌<ℤ◌}

abbrev pub Pos : ℤ → Type 0
Pos z = pos 0 <ℤ z

abbrev pub NonNeg : ℤ → Type 0
NonNeg z = pos 0 ≤ℤ z
