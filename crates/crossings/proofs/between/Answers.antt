use mathlib.Core.Path.{ap, ◌∙◌}
use mathlib.Core.List.{List, [], ◌∷◌}
use Prim.Native.Nat.{ℕ}
use lib.IntN.{ℤ, pos}
use lib.Signed.{le_z}
use mir.Syntax.{w32}
use Rattle.algebra.proofs.Ring.{var, ◌⊖◌, ◌⊗◌}
use Rattle.algebra.proofs.Machine.{Code, arg, minus, times, fits_small, is_small}
use Rattle.signs.specs.Answers.{limit}
use Rattle.crossings.proofs.Ranges.{between_product}
use Rattle.crossings.proofs.between.Goals as goal
use Rattle.crossings.proofs.between.Goals.{Start}

abbrev ρ : Start → List ℤ
ρ c = c.args.a ∷ c.args.b ∷ c.args.z ∷ []

-- This is z less an end.
abbrev dif : ℕ → Code
dif i = minus w32 (arg 2) (arg i)

pub returns : goal.returns
returns c = ap (λ (x : ℤ). le_z x (pos 0)) (is_small w32 limit (ρ (goal.at.returns c).Start) c.requires (times w32 (dif 0) (dif 1)) ((var 2 ⊖ var 0) ⊗ (var 2 ⊖ var 1)) tt tt) ∙ between_product c.args.a c.args.b c.args.z

pub overflow_sub-result : goal.overflow_sub-result
overflow_sub-result c = fits_small w32 limit (ρ (goal.at.overflow_sub-result c).Start) c.requires (dif 0) tt

pub overflow_sub-result-2 : goal.overflow_sub-result-2
overflow_sub-result-2 c = fits_small w32 limit (ρ (goal.at.overflow_sub-result-2 c).Start) c.requires (dif 1) tt

pub overflow_mul-result : goal.overflow_mul-result
overflow_mul-result c = fits_small w32 limit (ρ (goal.at.overflow_mul-result c).Start) c.requires (times w32 (dif 0) (dif 1)) tt
