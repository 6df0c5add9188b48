use mathlib.Core.Path.{◌≡◌, ap, ◌∙◌}
use mathlib.Core.List.{List, [], ◌∷◌}
use Prim.Native.Nat.{ℕ}
use lib.IntN.{ℤ, pos}
use lib.Signed.{lt_z}
use mir.Syntax.{w32}
use Rattle.algebra.specs.Size.{Small}
use Rattle.algebra.proofs.Ring.{var, ◌⊖◌, ◌⊗◌}
use Rattle.algebra.proofs.Machine.{Code, arg, minus, times, fits_small, is_small}
use Rattle.signs.specs.Answers.{limit}
use Rattle.crossings.specs.Boxes.{lower, upper}
use Rattle.crossings.proofs.Ends.{lower_told, upper_told, lower_near, upper_near, apart_told}
use Rattle.crossings.proofs.ranges_apart.Goals as goal
use Rattle.crossings.proofs.ranges_apart.Goals.{After-min, After-min-2, After-max, After-max-2, Start}

abbrev ρ : Start → List ℤ
ρ c = c.args.a ∷ c.args.b ∷ c.args.c ∷ c.args.d ∷ []

-- Each call was passed numbers that went through bits, so its answer is that of the numbers themselves.
from_c_d : (c : After-min) → c.min.result ≡ lower c.args.c c.args.d
from_c_d c = lower_told (ρ c.before) c.requires 2 3 c.min.ensures.value

to_a_b : (c : After-max) → c.max.result ≡ upper c.args.a c.args.b
to_a_b c = upper_told (ρ c.before.before) c.requires 0 1 c.max.ensures.value

from_a_b : (c : After-min-2) → c.min-2.result ≡ lower c.args.a c.args.b
from_a_b c = lower_told (ρ c.before.before.before) c.requires 0 1 c.min-2.ensures.value

to_c_d : (c : After-max-2) → c.max-2.result ≡ upper c.args.c c.args.d
to_c_d c = upper_told (ρ c.before.before.before.before) c.requires 2 3 c.max-2.ensures.value

-- The four ends are within the limit, so their differences and the product fit.
abbrev σ : After-max-2 → List ℤ
σ c = c.min.result ∷ c.max.result ∷ c.min-2.result ∷ c.max-2.result ∷ []

near : (c : After-max-2) → Small limit (σ c)
near c = (
  lower_near (ρ c.before.before.before.before) c.requires 2 3 (from_c_d c.before.before.before),
  (upper_near (ρ c.before.before.before.before) c.requires 0 1 (to_a_b c.before.before), (lower_near (ρ c.before.before.before.before) c.requires 0 1 (from_a_b c.before), (upper_near (ρ c.before.before.before.before) c.requires 2 3 (to_c_d c), tt))),
)

abbrev dif : ℕ → ℕ → Code
dif i j = minus w32 (arg i) (arg j)

pub returns : goal.returns
returns c = ap (λ (x : ℤ). lt_z x (pos 0)) (is_small w32 limit (σ (goal.at.returns c).After-max-2) (near (goal.at.returns c).After-max-2) (times w32 (dif 0 1) (dif 2 3)) ((var 0 ⊖ var 1) ⊗ (var 2 ⊖ var 3)) tt tt)
    ∙ apart_told c.args.a c.args.b c.args.c c.args.d (from_c_d (goal.at.returns c).After-min) (to_a_b (goal.at.returns c).After-max) (from_a_b (goal.at.returns c).After-min-2) (to_c_d (goal.at.returns c).After-max-2)

pub overflow_sub-result-2 : goal.overflow_sub-result-2
overflow_sub-result-2 c = fits_small w32 limit (σ (goal.at.overflow_sub-result-2 c).After-max-2) (near (goal.at.overflow_sub-result-2 c).After-max-2) (dif 2 3) tt

pub overflow_mul-result : goal.overflow_mul-result
overflow_mul-result c = fits_small w32 limit (σ (goal.at.overflow_mul-result c).After-max-2) (near (goal.at.overflow_mul-result c).After-max-2) (times w32 (dif 0 1) (dif 2 3)) tt
