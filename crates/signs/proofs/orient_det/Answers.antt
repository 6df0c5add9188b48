use mathlib.Core.List.{List, [], ◌∷◌}
use Prim.Native.Nat.{ℕ}
use lib.Dec.{T}
use lib.IntN.{ℤ}
use mir.Syntax.{w32, w64}
use mir.Val.{SFits}
use Rattle.algebra.proofs.Machine.{Code, arg, wide, minus, times, raw, good, fits_small, is_small}
use Rattle.algebra.proofs.Size.{all}
use Rattle.plane.specs.Determinants.{orient}
use Rattle.plane.proofs.Polynomials.{orient_e, on3}
use Rattle.signs.specs.Answers.{limit}
use Rattle.signs.proofs.orient_det.Goals as goal
use Rattle.signs.proofs.orient_det.Goals.{Start}

-- `orient_det` meets its contract: each operation's result fits, by its computed size, and what is read back is the determinant. Assumes nothing.
-- the code
abbrev cast : ℕ → Code
cast i = wide w32 (arg i)

abbrev dif : ℕ → ℕ → Code
dif i j = minus w64 (cast i) (cast j)

abbrev l : Code
l = times w64 (dif 0 4) (dif 3 5)

abbrev r : Code
r = times w64 (dif 1 5) (dif 2 4)

abbrev ρ : (c : Start) → List ℤ
ρ c = c.args.a.x ∷ c.args.a.y ∷ c.args.b.x ∷ c.args.b.y ∷ c.args.c.x ∷ c.args.c.y ∷ []

ok : (c : Start) → (e : Code) → T (good w64 e (all limit (ρ c))) → SFits w64 (raw e (ρ c))
ok c e t = fits_small w64 limit (ρ c) c.requires e t

pub returns : goal.returns
unfolding orient
returns c = is_small w64 limit (ρ (goal.at.returns c).Start) c.requires (minus w64 l r) (on3 orient_e) tt tt

pub overflow_mul-result : goal.overflow_mul-result
overflow_mul-result c = ok (goal.at.overflow_mul-result c).Start l tt

pub overflow_mul-result-2 : goal.overflow_mul-result-2
overflow_mul-result-2 c = ok (goal.at.overflow_mul-result-2 c).Start r tt

pub overflow_sub-result : goal.overflow_sub-result
overflow_sub-result c = ok (goal.at.overflow_sub-result c).Start (minus w64 l r) tt
