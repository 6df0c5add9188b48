use borrow.Author.Rules.{rules}
use mathlib.Core.Path.{sym, ap, ◌∙◌}
use mir.Syntax.{w32}
use mir.Facts.{to_z-of_z}
use mir.Val.{SFits}
use Rattle.float_signs.specs.Intake.{intake_number, intake_leaves}
use Rattle.float_signs.specs.declared.Intake.{Intake}
use Rattle.signs_c.proofs.signs_take_in.Goals as goal

pub returns-in-Whole : goal.returns-in-Whole
returns-in-Whole c = let z : SFits w32 c.in-Whole.z = search rules in
    let p = sym c.in-Whole.is ∙ c.take_in.ensures in
    (ap intake_number p, to_z-of_z z ∙ ap (λ (i : Intake). intake_leaves i c.args.whole.now) p)

pub returns-in-NotFinite : goal.returns-in-NotFinite
returns-in-NotFinite c = let p = sym c.in-NotFinite.is ∙ c.take_in.ensures in
    (ap intake_number p, ap (λ (i : Intake). intake_leaves i c.args.whole.now) p)

pub returns-in-TooLarge : goal.returns-in-TooLarge
returns-in-TooLarge c = let p = sym c.in-TooLarge.is ∙ c.take_in.ensures in
    (ap intake_number p, ap (λ (i : Intake). intake_leaves i c.args.whole.now) p)

pub returns-in-Fraction : goal.returns-in-Fraction
returns-in-Fraction c = let p = sym c.in-Fraction.is ∙ c.take_in.ensures in
    (ap intake_number p, ap (λ (i : Intake). intake_leaves i c.args.whole.now) p)
