-- The sign of a number. Definitions only.
use Rattle.std.specs.Prelude.{true, false, zero, suc, ℤ, pos, negsuc, Float}
use Rattle.std.specs.Float.{nan, inf, fin}
use Rattle.signs.specs.declared.Sign.{Sign}
use Rattle.signs.specs.declared.Sign.TheVariants.{Neg, Zero, Pos}

unfoldable pub sign_z : ℤ → Sign
sign_z (pos zero) = Zero
sign_z (pos (suc n)) = Pos
sign_z (negsuc n) = Neg

-- the sign of a float's number; a NaN gives zero
unfoldable pub sign_f : Float → Sign
sign_f nan = Zero
sign_f (inf true) = Neg
sign_f (inf false) = Pos
sign_f (fin s zero e) = Zero
sign_f (fin true (suc m) e) = Neg
sign_f (fin false (suc m) e) = Pos

abbrev pub flipped : Sign → Sign
flipped Neg = Pos
flipped Zero = Zero
flipped Pos = Neg

-- a sign as a number
abbrev pub number : Sign → ℤ
number Neg = negsuc 0
number Zero = pos 0
number Pos = pos 1
