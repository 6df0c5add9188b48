use mathlib.Core.List.{List, [], ◌∷◌}
use Prim.Native.Nat.{ℕ}
use lib.Dec.{T}
use lib.IntN.{ℤ}
use mir.Syntax.{w32, w64}
use mir.Val.{SFits}
use Rattle.algebra.proofs.Machine.{Code, arg, wide, plus, minus, times, raw, good, fits_small, is_small}
use Rattle.algebra.proofs.Size.{all}
use Rattle.plane.specs.Determinants.{incircle}
use Rattle.plane.proofs.Polynomials.{incircle_e, on4}
use Rattle.signs.specs.Answers.{limit}
use Rattle.signs.proofs.circle_det.Goals as goal
use Rattle.signs.proofs.circle_det.Goals.{Start}

-- `circle_det` meets its contract: each operation's result fits, by its computed size, and what is read back is the determinant. Assumes nothing.
-- the code
abbrev cast : ℕ → Code
cast i = wide w32 (arg i)

abbrev add : Code → Code → Code
add a b = plus w64 a b

abbrev sub : Code → Code → Code
sub a b = minus w64 a b

abbrev mul : Code → Code → Code
mul a b = times w64 a b

abbrev sq : Code → Code
sq a = times w64 a a

abbrev adx : Code
adx = sub (cast 0) (cast 6)

abbrev ady : Code
ady = sub (cast 1) (cast 7)

abbrev bdx : Code
bdx = sub (cast 2) (cast 6)

abbrev bdy : Code
bdy = sub (cast 3) (cast 7)

abbrev cdx : Code
cdx = sub (cast 4) (cast 6)

abbrev cdy : Code
cdy = sub (cast 5) (cast 7)

abbrev al : Code
al = add (sq adx) (sq ady)

abbrev bl : Code
bl = add (sq bdx) (sq bdy)

abbrev cl : Code
cl = add (sq cdx) (sq cdy)

abbrev bc : Code
bc = sub (mul bdx cdy) (mul cdx bdy)

abbrev ca : Code
ca = sub (mul cdx ady) (mul adx cdy)

abbrev ab : Code
ab = sub (mul adx bdy) (mul bdx ady)

abbrev whole : Code
whole = add (add (mul al bc) (mul bl ca)) (mul cl ab)

abbrev ρ : (c : Start) → List ℤ
ρ c = c.args.a.x ∷ c.args.a.y ∷ c.args.b.x ∷ c.args.b.y ∷ c.args.c.x ∷ c.args.c.y ∷ c.args.d.x ∷ c.args.d.y ∷ []

ok : (c : Start) → (e : Code) → T (good w64 e (all limit (ρ c))) → SFits w64 (raw e (ρ c))
ok c e t = fits_small w64 limit (ρ c) c.requires e t

pub returns : goal.returns
unfolding incircle
returns c = is_small w64 limit (ρ (goal.at.returns c).Start) c.requires whole (on4 incircle_e) tt tt

pub overflow_mul-alift : goal.overflow_mul-alift
overflow_mul-alift c = ok (goal.at.overflow_mul-alift c).Start (sq adx) tt

pub overflow_mul-alift-2 : goal.overflow_mul-alift-2
overflow_mul-alift-2 c = ok (goal.at.overflow_mul-alift-2 c).Start (sq ady) tt

pub overflow_add-alift : goal.overflow_add-alift
overflow_add-alift c = ok (goal.at.overflow_add-alift c).Start al tt

pub overflow_mul-blift : goal.overflow_mul-blift
overflow_mul-blift c = ok (goal.at.overflow_mul-blift c).Start (sq bdx) tt

pub overflow_mul-blift-2 : goal.overflow_mul-blift-2
overflow_mul-blift-2 c = ok (goal.at.overflow_mul-blift-2 c).Start (sq bdy) tt

pub overflow_add-blift : goal.overflow_add-blift
overflow_add-blift c = ok (goal.at.overflow_add-blift c).Start bl tt

pub overflow_mul-clift : goal.overflow_mul-clift
overflow_mul-clift c = ok (goal.at.overflow_mul-clift c).Start (sq cdx) tt

pub overflow_mul-clift-2 : goal.overflow_mul-clift-2
overflow_mul-clift-2 c = ok (goal.at.overflow_mul-clift-2 c).Start (sq cdy) tt

pub overflow_add-clift : goal.overflow_add-clift
overflow_add-clift c = ok (goal.at.overflow_add-clift c).Start cl tt

pub overflow_mul-bc : goal.overflow_mul-bc
overflow_mul-bc c = ok (goal.at.overflow_mul-bc c).Start (mul bdx cdy) tt

pub overflow_mul-bc-2 : goal.overflow_mul-bc-2
overflow_mul-bc-2 c = ok (goal.at.overflow_mul-bc-2 c).Start (mul cdx bdy) tt

pub overflow_sub-bc : goal.overflow_sub-bc
overflow_sub-bc c = ok (goal.at.overflow_sub-bc c).Start bc tt

pub overflow_mul-ca : goal.overflow_mul-ca
overflow_mul-ca c = ok (goal.at.overflow_mul-ca c).Start (mul cdx ady) tt

pub overflow_mul-ca-2 : goal.overflow_mul-ca-2
overflow_mul-ca-2 c = ok (goal.at.overflow_mul-ca-2 c).Start (mul adx cdy) tt

pub overflow_sub-ca : goal.overflow_sub-ca
overflow_sub-ca c = ok (goal.at.overflow_sub-ca c).Start ca tt

pub overflow_mul-ab : goal.overflow_mul-ab
overflow_mul-ab c = ok (goal.at.overflow_mul-ab c).Start (mul adx bdy) tt

pub overflow_mul-ab-2 : goal.overflow_mul-ab-2
overflow_mul-ab-2 c = ok (goal.at.overflow_mul-ab-2 c).Start (mul bdx ady) tt

pub overflow_sub-ab : goal.overflow_sub-ab
overflow_sub-ab c = ok (goal.at.overflow_sub-ab c).Start ab tt

pub overflow_mul-result : goal.overflow_mul-result
overflow_mul-result c = ok (goal.at.overflow_mul-result c).Start (mul al bc) tt

pub overflow_mul-result-2 : goal.overflow_mul-result-2
overflow_mul-result-2 c = ok (goal.at.overflow_mul-result-2 c).Start (mul bl ca) tt

pub overflow_add-result : goal.overflow_add-result
overflow_add-result c = ok (goal.at.overflow_add-result c).Start (add (mul al bc) (mul bl ca)) tt

pub overflow_mul-result-3 : goal.overflow_mul-result-3
overflow_mul-result-3 c = ok (goal.at.overflow_mul-result-3 c).Start (mul cl ab) tt

pub overflow_add-result-2 : goal.overflow_add-result-2
overflow_add-result-2 c = ok (goal.at.overflow_add-result-2 c).Start whole tt
