-- What the library's methods of a float tell, in the words of crate floats. Assumes nothing.
use Rattle.std.proofs.Common.{◌≡◌, Bool, false, sym, refl, ◌∙◌}
use Rattle.std.specs.Float.{float_is_finite, float_with_sign}
use lib.Ieee.{Float, nan, inf, fin}
use lib.Ieee.Scale.{finite}
use Rattle.floats.specs.Whole.{abs_f}

finite_is : (x : Float) → float_is_finite x ≡ finite x
unfolding float_is_finite
finite_is nan = refl
finite_is (inf s) = refl
finite_is (fin s m e) = refl

pub finite_told : (x : Float) {r v : Bool} → r ≡ float_is_finite x → r ≡ v → finite x ≡ v
finite_told x e h = sym (finite_is x) ∙ sym e ∙ h

abs_is : (x : Float) → float_with_sign false x ≡ abs_f x
unfolding float_with_sign abs_f
abs_is nan = refl
abs_is (inf s) = refl
abs_is (fin s m e) = refl

pub abs_told : (x : Float) {r : Float} → r ≡ float_with_sign false x → r ≡ abs_f x
abs_told x e = e ∙ abs_is x
