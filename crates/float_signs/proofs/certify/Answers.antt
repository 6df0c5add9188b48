use Rattle.std.proofs.Common.{Some, ◌≡◌, Bool, false, sym, ap, ◌∙◌}
use lib.Ieee.{Float, lt, of_bits}
use Rattle.std.specs.Float.{float_with_sign}
use Rattle.floats.specs.Whole.{abs_f}
use Rattle.float_signs.proofs.Filtering.{small, infinite, near, far}
use Rattle.float_signs.proofs.Library.{finite_told, abs_told}
use Rattle.float_signs.proofs.certify.Goals as goal
use Rattle.float_signs.proofs.certify.Goals.{else-permanent-via-then-permanent+then-is_finite+else-abs-errbound, else-permanent-via-then-permanent+else-is_finite, else-permanent-via-else-permanent}

-- a test of det's size
size : (k det : Float) {a : Float} {b : Bool} → a ≡ float_with_sign false det → lt k a ≡ b → lt k (abs_f det) ≡ b
size k det e h = ap (λ (q : Float). lt k q) (sym (abs_told det e)) ∙ h

pub returns-then-abs-errbound : goal.returns-then-abs-errbound
unfolding of_bits
returns-then-abs-errbound c = ap Some c.of_f64.ensures ∙ far _ _ _ c.if-permanent.true (finite_told _ c.is_finite.ensures.value c.if-is_finite.true) (size _ _ c.abs.ensures.value c.if-abs-errbound.true)

pub returns-else-permanent : goal.returns-else-permanent
unfolding of_bits
returns-else-permanent c = elim c.else-permanent.branch [
  | else-permanent-via-then-permanent+then-is_finite+else-abs-errbound w ↦ near _ _ _ w.if-permanent.true (finite_told _ w.is_finite.ensures.value w.if-is_finite.true) (size _ _ w.abs.ensures.value w.if-abs-errbound.false)
  | else-permanent-via-then-permanent+else-is_finite w ↦ infinite _ _ _ w.if-permanent.true (finite_told _ w.is_finite.ensures.value w.if-is_finite.false)
  | else-permanent-via-else-permanent w ↦ small _ _ _ w.if-permanent.false
]
