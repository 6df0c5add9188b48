use Rattle.std.proofs.Common.{Option, ◌≡◌, ℤ, ◌∙◌}
use lib.Ieee.{of_bits}
use Rattle.plane.specs.Points.{Pt}
use Rattle.plane.specs.Determinants.{orient}
use Rattle.float_signs.specs.Filter.{WholePoint, orient_filter, decided}
use Rattle.float_signs.specs.declared.Vec2.{Vec2}
use Rattle.signs.specs.declared.Sign.{Sign}
use Rattle.float_signs.proofs.Filtering.{orient_exact}
use Rattle.float_signs.proofs.Library.{abs_told}
use Rattle.float_signs.proofs.orient2d_filter.Goals as goal

-- the formula's answer is the whole numbers' too
both : {a b c : Vec2} {r : Option Sign} → r ≡ orient_filter a b c
    → (r ≡ orient_filter a b c) × ((p q s : Pt ℤ) → WholePoint 8192 a p → WholePoint 8192 b q → WholePoint 8192 c s → r ≡ decided (orient p q s))
both {a} {b} {c} h = (h, (λ p q s ia ib ic. h ∙ orient_exact a b c p q s ia ib ic))

pub returns : goal.returns
unfolding orient_filter of_bits
returns c = let the_clauses = both (rw (abs_told _ c.abs.ensures.value, abs_told _ c.abs-2.ensures.value) at c.certify.ensures) in record { formula = the_clauses.0; whole = the_clauses.1 }
