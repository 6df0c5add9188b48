-- A float as the whole number that it stands for. A finite float is fin s m e: its number is m · 2^e, negative where s is true, and
-- m · 2^e is the fraction (m * up e) / down e. Definitions only.
use Rattle.std.specs.Prelude.{◌≡◌, Bool, true, false, ℕ, ◌*◌, ℤ, pos, negsuc, neg_ℤ, Float}
use Rattle.std.specs.Float.{nan, inf, fin}
use Rattle.std.specs.Float.Ieee.{up, down}

-- n, negative where s is true
abbrev pub signed : Bool → ℕ → ℤ
signed false n = pos n
signed true n = neg_ℤ (pos n)

-- x is finite, and its number is the whole number z
abbrev pub Is : Float → ℤ → Type 0
Is nan z = ⊥
Is (inf s) z = ⊥
Is (fin s m e) z = (n : ℕ) × (m * up e ≡ n * down e) × (z ≡ signed s n)

-- the float with its sign cleared, as the Rust's `abs` gives it
unfoldable pub abs_f : Float → Float
abs_f nan = nan
abs_f (inf s) = inf false
abs_f (fin s m e) = fin false m e

-- 2^-1022, the least normal number: the Rust's `f64::MIN_POSITIVE`
abbrev pub min_positive : Float
min_positive = fin false 1 (negsuc 1021)
