use mathlib.Core.Path.{ap, ap₂, ◌∙◌}
use mathlib.Core.List.{List, [], ◌∷◌}
use Prim.Native.Nat.{ℕ}
use lib.IntN.{ℤ, pos}
use lib.Signed.{lt_z}
use mir.Syntax.{w64}
use Rattle.algebra.specs.Size.{Small}
use Rattle.algebra.proofs.Ring.{var, ◌⊗◌}
use Rattle.algebra.proofs.Size.{all, size_le, small_within}
use Rattle.algebra.proofs.Machine.{Code, arg, times, fits_small, is_small}
use Rattle.plane.specs.Determinants.{orient}
use Rattle.plane.proofs.Polynomials.{orient_e, on4}
use Rattle.signs.specs.Answers.{limit}
use Rattle.tables.specs.Refusals.{opposed}
use Rattle.crossings.proofs.Passed.{some_small}
use Rattle.crossings.proofs.Ranges.{opposed_product}
use Rattle.crossings.proofs.on_both_sides.Goals as goal
use Rattle.crossings.proofs.on_both_sides.Goals.{After-orient_det-2, Start}

abbrev ρ : Start → List ℤ
ρ c = c.args.a.x ∷ c.args.a.y ∷ c.args.b.x ∷ c.args.b.y ∷ c.args.c.x ∷ c.args.c.y ∷ c.args.d.x ∷ c.args.d.y ∷ []

-- The determinants are at most 2^29 in size, so their product fits.
abbrev bound : ℕ
bound = 536870912

abbrev σ : After-orient_det-2 → List ℤ
σ c = c.orient_det.result ∷ c.orient_det-2.result ∷ []

near : (c : After-orient_det-2) → Small bound (σ c)
unfolding orient
near c =
    let β = all limit (ρ c.before.before) in
    let w = small_within limit (ρ c.before.before) c.requires in
    (rw c.orient_det.ensures (size_le (on4 (λ a b c d. orient_e a b c)) (ρ c.before.before) β w), (rw c.orient_det-2.ensures (size_le (on4 (λ a b c d. orient_e a b d)) (ρ c.before.before) β w), tt))

abbrev product : Code
product = times w64 (arg 0) (arg 1)

pub returns : goal.returns
returns c = ap (λ (x : ℤ). lt_z x (pos 0)) (is_small w64 bound (σ (goal.at.returns c).After-orient_det-2) (near (goal.at.returns c).After-orient_det-2) product (var 0 ⊗ var 1) tt tt)
    ∙ opposed_product c.orient_det.result c.orient_det-2.result ∙ ap₂ opposed c.orient_det.ensures c.orient_det-2.ensures

pub orient_det-requires : goal.orient_det-requires
orient_det-requires c = some_small (ρ (goal.at.orient_det-requires c).Start) c.requires (0 ∷ 1 ∷ 2 ∷ 3 ∷ 4 ∷ 5 ∷ [])

pub orient_det-requires-2 : goal.orient_det-requires-2
orient_det-requires-2 c = some_small (ρ (goal.at.orient_det-requires-2 c).Start) c.requires (0 ∷ 1 ∷ 2 ∷ 3 ∷ 6 ∷ 7 ∷ [])

pub overflow_mul-result : goal.overflow_mul-result
overflow_mul-result c = fits_small w64 bound (σ (goal.at.overflow_mul-result c).After-orient_det-2) (near (goal.at.overflow_mul-result c).After-orient_det-2) product tt
