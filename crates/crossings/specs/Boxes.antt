-- The tests that the code makes of boxes. Definitions only.
use Rattle.std.specs.Prelude.{Bool, cond, ℤ, pos, ◌-ℤ◌, ◌*ℤ◌}
use Rattle.std.specs.Int.Signed.{lt_z}

abbrev pub lower : ℤ → ℤ → ℤ
lower a b = cond (lt_z a b) a b

abbrev pub upper : ℤ → ℤ → ℤ
upper a b = cond (lt_z a b) b a

-- The range of a and b and the range of c and d have no number in common. Of the two gaps, from one range up to the other, at most one
-- is positive, and the other is then negative: so their product tells.
abbrev pub apart : ℤ → ℤ → ℤ → ℤ → Bool
apart a b c d = lt_z ((lower c d -ℤ upper a b) *ℤ (lower a b -ℤ upper c d)) (pos 0)
