-- The tests that the code makes of signs. Definitions only.
use Rattle.std.specs.Prelude.{Bool, true, false}
use Rattle.signs.specs.declared.Sign.{Sign}
use Rattle.signs.specs.declared.Sign.TheVariants.{Neg, Zero, Pos}

abbrev pub is_pos : Sign → Bool
is_pos Neg = false
is_pos Zero = false
is_pos Pos = true

abbrev pub is_neg : Sign → Bool
is_neg Neg = true
is_neg Zero = false
is_neg Pos = false

abbrev pub is_zero : Sign → Bool
is_zero Neg = false
is_zero Zero = true
is_zero Pos = false
