use mathlib.Core.Path.{◌≡◌, refl, sym, ◌∙◌}
use native.Mathlib.Omega.{arith}
use lib.ListN.{length}
use Rattle.texts.specs.Words.{is_black}
use Rattle.texts.proofs.Words.{black, not_black, first_here, first_later, first_end}
use Rattle.texts.proofs.word_start.Goals as goal

pub returns-then-not-is_space : goal.returns-then-not-is_space
returns-then-not-is_space c = let l = c.loop-i in
    let t = c.args.text.now in
    sym (l.invariant.0 ∙ first_here is_black t l.i (length t) c.loop-i-test.true (black _ (sym c.is_space.ensures ∙ c.if-not-is_space.true)))

pub loop-i-init : goal.loop-i-init
loop-i-init c = (refl, omega arith)

pub loop-i-preserved : goal.loop-i-preserved
loop-i-preserved c = let l = c.loop-i in
    let t = c.args.text.now in
    (l.invariant.0 ∙ first_later is_black t l.i (length t) c.loop-i-test.true (not_black _ (sym c.is_space.ensures ∙ c.if-not-is_space.false)), omega arith)

pub returns : goal.returns
returns c = let l = c.loop-i in
    let t = c.args.text.now in
    let e : c.max.result ≡ l.i = (let a = l.auto.i in let b = c.max.ensures in let d = c.loop-i-test.false in let f = l.invariant.1 in omega arith) in
    e ∙ sym (l.invariant.0 ∙ first_end is_black t l.i (length t) c.loop-i-test.false)
