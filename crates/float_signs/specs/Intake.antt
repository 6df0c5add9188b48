-- The intake of float coordinates, tested in document 01's order: not finite; magnitude above the limit; not whole; else the whole
-- number. A finite float fin s m e is (m * up e) / down e in size. Definitions only.
use Rattle.std.specs.Prelude.{◌*◌, ◌/◌, ◌%◌, cond, ℤ, pos, ◌==◌, nat_lt, Float}
use Rattle.std.specs.Float.{nan, inf, fin}
use Rattle.std.specs.Float.Ieee.{up, down}
use Rattle.floats.specs.Whole.{signed}
use Rattle.signs.specs.Answers.{limit}
use Rattle.float_signs.specs.declared.Vec2.{Vec2}
use Rattle.float_signs.specs.declared.Intake.{Intake}
use Rattle.float_signs.specs.declared.Intake.TheVariants.{Whole, NotFinite, TooLarge, Fraction}
use Rattle.float_signs.specs.declared.PointIntake.{PointIntake}
use Rattle.float_signs.specs.declared.PointIntake.TheVariants as Point

unfoldable pub intake_of : Float → Intake
intake_of nan = NotFinite nan
intake_of (inf s) = NotFinite (inf s)
intake_of (fin s m e) =
    cond (nat_lt (limit * down e) (m * up e)) (TooLarge (fin s m e))
    (cond (m * up e % down e == 0) (Whole (signed s (m * up e / down e))) (Fraction (fin s m e)))

-- a point's coordinates: both whole, or the refusal of x, or the refusal of y
abbrev pub then_y : ℤ → Intake → PointIntake
then_y x (Whole y) = Point.Whole x y
then_y x (NotFinite v) = Point.NotFinite v
then_y x (TooLarge v) = Point.TooLarge v
then_y x (Fraction v) = Point.Fraction v

abbrev pub both : Intake → Intake → PointIntake
both (Whole x) second = then_y x second
both (NotFinite v) second = Point.NotFinite v
both (TooLarge v) second = Point.TooLarge v
both (Fraction v) second = Point.Fraction v

abbrev pub point_intake_of : Vec2 → PointIntake
point_intake_of p = both (intake_of p.x) (intake_of p.y)

-- an answer as a number, and what it leaves in a number that is lent
abbrev pub intake_number : Intake → ℤ
intake_number (Whole z) = pos 0
intake_number (NotFinite v) = pos 1
intake_number (TooLarge v) = pos 2
intake_number (Fraction v) = pos 3

abbrev pub intake_leaves : Intake → ℤ → ℤ
intake_leaves (Whole z) old = z
intake_leaves (NotFinite v) old = old
intake_leaves (TooLarge v) old = old
intake_leaves (Fraction v) old = old
