use Rattle.std.proofs.Common.{◌≡◌, sym, ap, ◌∙◌, ap₂, to_z-of_z, w32, SFits, rules}
use Rattle.float_signs.specs.Intake.{intake_of, both}
use Rattle.float_signs.specs.declared.Intake.{Intake}
use Rattle.float_signs.specs.declared.Intake.TheVariants.{Whole}
use Rattle.float_signs.specs.declared.PointIntake.TheVariants as Point
use Rattle.float_signs.proofs.take_in_point.Goals as goal
use Rattle.float_signs.proofs.take_in_point.Goals.{After-take_in-second}

-- the answer on x is q: the point's answer is that of q and y
by_x : {i q : Intake} (x y : Intake) → i ≡ x → i ≡ q → both q y ≡ both x y
by_x x y e g = ap (λ (j : Intake). both j y) (sym g ∙ e)

-- the same on x and y
by_both : {i j q r : Intake} (x y : Intake) → i ≡ x → j ≡ y → i ≡ q → j ≡ r → both q r ≡ both x y
by_both x y e f g h = ap₂ both (sym g ∙ e) (sym h ∙ f)

pub returns-in-NotFinite : goal.returns-in-NotFinite
returns-in-NotFinite c = by_x _ _ c.take_in-first.ensures c.in-NotFinite.is

pub returns-in-TooLarge : goal.returns-in-TooLarge
returns-in-TooLarge c = by_x _ _ c.take_in-first.ensures c.in-TooLarge.is

pub returns-in-Fraction : goal.returns-in-Fraction
returns-in-Fraction c = by_x _ _ c.take_in-first.ensures c.in-Fraction.is

-- what is known where x is whole and y has been asked
y_is : (c : After-take_in-second) → {r : Intake} → (h : c.take_in-second.result ≡ r) → both (Whole c.in-Whole.x) r ≡ both (intake_of c.args.p.x) (intake_of c.args.p.y)
y_is c {r} h = by_both _ _ c.take_in-first.ensures c.take_in-second.ensures c.in-Whole.is h

pub returns-in-NotFinite-second : goal.returns-in-NotFinite-second
returns-in-NotFinite-second c = y_is (goal.at.returns-in-NotFinite-second c).After-take_in-second c.in-NotFinite-second.is

pub returns-in-TooLarge-second : goal.returns-in-TooLarge-second
returns-in-TooLarge-second c = y_is (goal.at.returns-in-TooLarge-second c).After-take_in-second c.in-TooLarge-second.is

pub returns-in-Fraction-second : goal.returns-in-Fraction-second
returns-in-Fraction-second c = y_is (goal.at.returns-in-Fraction-second c).After-take_in-second c.in-Fraction-second.is

pub returns-in-Whole-second : goal.returns-in-Whole-second
returns-in-Whole-second c = let x : SFits w32 c.in-Whole.x = search rules in
    let y : SFits w32 c.in-Whole-second.y = search rules in
    ap₂ Point.Whole (to_z-of_z x) (to_z-of_z y) ∙ y_is (goal.at.returns-in-Whole-second c).After-take_in-second c.in-Whole-second.is
