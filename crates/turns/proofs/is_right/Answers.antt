use mathlib.Core.List.{List, [], ◌∷◌}
use mathlib.Core.Path.{ap, ◌∙◌}
use Prim.Native.Nat.{ℕ, ◌+◌, ◌*◌}
use lib.Dec.{T}
use lib.IntN.{ℤ, pos}
use lib.ListN.{get_or}
use lib.Signed.{lt_z}
use mir.Syntax.{w32}
use mir.Val.{SFits}
use Rattle.algebra.specs.Size.{Small}
use Rattle.algebra.proofs.Machine.{Code, arg, minus, times, raw, good, fits_small, is_small}
use Rattle.algebra.proofs.Size.{all}
use Rattle.plane.specs.Determinants.{orient}
use Rattle.plane.proofs.Polynomials.{orient_e, on3}
use Rattle.signs.specs.Answers.{limit}
use Rattle.tables.specs.Data.{point}
use Rattle.turns.proofs.Moves.{neg_lt}
use Rattle.turns.proofs.is_right.Goals as goal
use Rattle.turns.proofs.is_right.Goals.{After-bpy-1, Start}

-- Each operation's result fits 32 bits, by its computed size, and what is read back is the determinant. Assumes nothing.
-- the code, over the coordinates of a, b and p in a row
abbrev dif : ℕ → ℕ → Code
dif i j = minus w32 (arg i) (arg j)

abbrev l : Code
l = times w32 (dif 0 4) (dif 3 5)

abbrev r : Code
r = times w32 (dif 1 5) (dif 2 4)

abbrev at : (c : Start) → ℕ → ℤ
at c k = get_or c.args.points.now k (pos 0)

abbrev ρ : (c : Start) → List ℤ
ρ c = (at c) (2 * c.args.a) ∷ (at c) (2 * c.args.a + 1) ∷ (at c) (2 * c.args.b) ∷ (at c) (2 * c.args.b + 1) ∷ (at c) (2 * c.args.p) ∷ (at c) (2 * c.args.p + 1) ∷ []

small : (c : Start) → Small limit (ρ c)
small c = let n = c.requires.near in (n (2 * c.args.a), (n (2 * c.args.a + 1), (n (2 * c.args.b), (n (2 * c.args.b + 1), (n (2 * c.args.p), (n (2 * c.args.p + 1), tt))))))

ok : (c : Start) → (e : Code) → T (good w32 e (all limit (ρ c))) → SFits w32 (raw e (ρ c))
ok c e t = fits_small w32 limit (ρ c) (small c) e t

-- the record at the last read
pub returns : goal.returns
unfolding orient point
returns c = ap (λ (x : ℤ). lt_z x (pos 0)) (is_small w32 limit (ρ (goal.at.returns c).Start) (small (goal.at.returns c).Start) (minus w32 l r) (on3 orient_e) tt tt) ∙
    neg_lt (orient (point c.args.points.now c.args.a) (point c.args.points.now c.args.b) (point c.args.points.now c.args.p))

pub overflow_sub-apx : goal.overflow_sub-apx
overflow_sub-apx c = ok (goal.at.overflow_sub-apx c).Start (dif 0 4) tt

pub overflow_sub-apy : goal.overflow_sub-apy
overflow_sub-apy c = ok (goal.at.overflow_sub-apy c).Start (dif 1 5) tt

pub overflow_sub-bpx : goal.overflow_sub-bpx
overflow_sub-bpx c = ok (goal.at.overflow_sub-bpx c).Start (dif 2 4) tt

pub overflow_sub-bpy : goal.overflow_sub-bpy
overflow_sub-bpy c = ok (goal.at.overflow_sub-bpy (goal.at.overflow_sub-bpy c).After-bpy-1).Start (dif 3 5) tt

pub overflow_mul-result : goal.overflow_mul-result
overflow_mul-result c = ok (goal.at.overflow_mul-result (goal.at.overflow_mul-result c).After-bpy-1).Start l tt

pub overflow_mul-result-2 : goal.overflow_mul-result-2
overflow_mul-result-2 c = ok (goal.at.overflow_mul-result-2 (goal.at.overflow_mul-result-2 c).After-bpy-1).Start r tt

pub overflow_sub-result : goal.overflow_sub-result
overflow_sub-result c = ok (goal.at.overflow_sub-result (goal.at.overflow_sub-result c).After-bpy-1).Start (minus w32 l r) tt
