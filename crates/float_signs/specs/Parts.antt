-- A float's odd mantissa and exponent: its number is m · 2^e. The library's account of floats writes each finite float fin s m e with an
-- odd m, or with m = 0 and e = 0, so these are the parts; `Reduced` says so again of the answer. Definitions, and document 01's examples.
use Rattle.std.specs.Prelude.{◌≡◌, ◌%◌, Bool, true, false, ◌⊎◌, ℤ, pos, negsuc, unsigned_abs, refl, Float, Option, Some, None}
use Rattle.std.specs.Float.{nan, inf, fin, binary64}
use Rattle.std.specs.Float.Ieee.{of_bits}
use Rattle.floats.specs.Whole.{signed}
use Rattle.float_signs.specs.declared.Dyadic.{Dyadic}

abbrev pub dyadic : ℤ → ℤ → Dyadic
dyadic m e = record { mantissa = m; exponent = e }

unfoldable pub decomp_of : Float → Option Dyadic
decomp_of nan = None
decomp_of (inf s) = None
decomp_of (fin s m e) = Some (dyadic (signed s m) e)

-- the mantissa is odd, or both parts are 0
abbrev pub Reduced : Option Dyadic → Type 0
Reduced (Some d) = (unsigned_abs d.mantissa % 2 ≡ 1) ⊎ ((d.mantissa ≡ pos 0) × (d.exponent ≡ pos 0))
Reduced None = Unit

-- an answer as numbers: whether there are parts, and each part, or what was there before
abbrev pub is_finite : Option Dyadic → Bool
is_finite (Some d) = true
is_finite None = false

abbrev pub mantissa_or : Option Dyadic → ℤ → ℤ
mantissa_or (Some d) old = d.mantissa
mantissa_or None old = old

abbrev pub exponent_or : Option Dyadic → ℤ → ℤ
exponent_or (Some d) old = d.exponent
exponent_or None old = old

-- 12.0, -0.5, 0.0 and -0.0, by their bits
twelve : decomp_of (of_bits binary64 0x4028_0000_0000_0000) ≡ Some (dyadic (pos 3) (pos 2))
unfolding decomp_of of_bits
twelve = refl

minus_half : decomp_of (of_bits binary64 0xbfe0_0000_0000_0000) ≡ Some (dyadic (negsuc 0) (negsuc 0))
unfolding decomp_of of_bits
minus_half = refl

zero_is : decomp_of (of_bits binary64 0) ≡ Some (dyadic (pos 0) (pos 0))
unfolding decomp_of of_bits
zero_is = refl

minus_zero_is : decomp_of (of_bits binary64 0x8000_0000_0000_0000) ≡ Some (dyadic (pos 0) (pos 0))
unfolding decomp_of of_bits
minus_zero_is = refl
