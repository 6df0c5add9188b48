-- Tests that compute: of a whole number's sign, of equality, and of every or some number below n. Definitions only.
use Rattle.std.specs.Prelude.{Bool, true, false, ◌&&◌, ◌||◌, ℕ, zero, suc, eqb, ℤ, pos, negsuc}
use Rattle.std.specs.Int.Signed.{lt_z}

-- positive
abbrev pub posb : ℤ → Bool
posb z = lt_z (pos 0) z

abbrev pub eq_z : ℤ → ℤ → Bool
eq_z (pos m) (pos n) = eqb m n
eq_z (pos m) (negsuc n) = false
eq_z (negsuc m) (pos n) = false
eq_z (negsuc m) (negsuc n) = eqb m n

-- f holds of every number below n
unfoldable pub all_to : ℕ → (ℕ → Bool) → Bool
all_to zero f = true
all_to (suc n) f = all_to n f && f n

-- f holds of some number below n
unfoldable pub any_to : ℕ → (ℕ → Bool) → Bool
any_to zero f = false
any_to (suc n) f = any_to n f || f n
