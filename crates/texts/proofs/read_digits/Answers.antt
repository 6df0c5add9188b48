use mathlib.Core.Path.{sym, ◌∙◌}
use native.Mathlib.Omega.{arith}
use Rattle.texts.proofs.Words.{read_none, read_more, read_small, fails_is, value_is, digit_from, digit_to}
use Rattle.texts.proofs.read_digits.Goals as goal

pub loop-i-init : goal.loop-i-init
loop-i-init c = read_none _ _

pub more-v-requires : goal.more-v-requires
more-v-requires c = let l = c.loop-i in
    let d = sym c.is_digit.ensures ∙ c.if-not-is_digit.false in
    (read_small _ _ _ _ l.invariant, digit_from _ d, digit_to _ d)

pub loop-i-preserved : goal.loop-i-preserved
loop-i-preserved c = let l = c.loop-i in
    read_more c.args.text.now c.args.from l.i l.v l.invariant c.more-v.result
    (sym c.is_digit.ensures ∙ c.if-not-is_digit.false) c.more-v.ensures

pub returns-then-not-is_digit : goal.returns-then-not-is_digit
returns-then-not-is_digit c = let l = c.loop-i in
    fails_is c.args.text.now c.args.from l.i l.v l.invariant c.args.end c.loop-i-test.true (sym c.is_digit.ensures ∙ c.if-not-is_digit.true)

pub returns : goal.returns
returns c = let l = c.loop-i in
    value_is c.args.text.now c.args.from l.i l.v l.invariant c.args.end (let a = l.auto in let b = c.loop-i-test.false in omega arith)
