use borrow.Author.Rules.{rules}
use mathlib.Core.Path.{sym, ap, ◌∙◌}
use mir.Syntax.{w32, w64}
use mir.Facts.{to_z-of_z}
use mir.Val.{SFits}
use Rattle.std.proofs.Common.{Option}
use Rattle.float_signs.specs.Parts.{is_finite, mantissa_or, exponent_or}
use Rattle.float_signs.specs.declared.Dyadic.{Dyadic}
use Rattle.signs_c.proofs.signs_decomp.Goals as goal

pub returns-in-Some : goal.returns-in-Some
returns-in-Some c =
    let m : SFits w64 c.in-Some.d.mantissa = search rules in
    let e : SFits w32 c.in-Some.d.exponent = search rules in
    let p = sym c.in-Some.is ∙ c.decomp.ensures.parts in
    (ap is_finite p, to_z-of_z m ∙ ap (λ (d : Option Dyadic). mantissa_or d c.args.m.now) p, to_z-of_z e ∙ ap (λ (d : Option Dyadic). exponent_or d c.args.e.now) p)

pub returns-in-None : goal.returns-in-None
returns-in-None c =
    let p = sym c.in-None.is ∙ c.decomp.ensures.parts in
    (ap is_finite p, ap (λ (d : Option Dyadic). mantissa_or d c.args.m.now) p, ap (λ (d : Option Dyadic). exponent_or d c.args.e.now) p)
