use mathlib.Core.Path.{sym, ◌∙◌}
use Rattle.texts.proofs.Numbers.{number_short, number_not, number_big, number_is}
use Rattle.texts.proofs.number_at.Goals as goal

pub returns-then-end-i : goal.returns-then-end-i
returns-then-end-i c = number_short c.args.text.now c.args.start c.args.minus c.args.i c.args.end c.if-end-i.true

pub returns-in_default : goal.returns-in_default
returns-in_default c = number_not c.args.text.now c.args.start c.args.minus c.args.i c.args.end (sym c.read_digits.ensures ∙ c.in_default.is) c.if-end-i.false

pub returns-then-v-gt4294967295 : goal.returns-then-v-gt4294967295
returns-then-v-gt4294967295 c = number_big c.args.text.now c.args.start c.args.minus c.args.i c.args.end c.in-Some.v
    (sym c.read_digits.ensures ∙ c.in-Some.is) c.if-end-i.false c.if-v-gt4294967295.true

pub returns : goal.returns
returns c = number_is c.args.text.now c.args.start c.args.minus c.args.i c.args.end c.in-Some.v
    (sym c.read_digits.ensures ∙ c.in-Some.is) c.if-end-i.false c.if-v-gt4294967295.false
