use mathlib.Core.Path.{◌≡◌, sym, ◌∙◌}
use native.Mathlib.Omega.{arith}
use lib.ListN.{length}
use Rattle.texts.specs.Words.{is_space}
use Rattle.texts.proofs.Words.{first_here, first_later, first_end}
use Rattle.texts.proofs.word_end.Goals as goal

pub returns-then-is_space : goal.returns-then-is_space
returns-then-is_space c = let l = c.loop-i in
    let t = c.args.text.now in
    let a = l.auto.i in
    (sym (l.invariant ∙ first_here is_space t l.i (length t) c.loop-i-test.true (sym c.is_space.ensures ∙ c.if-is_space.true)), omega arith, omega arith)

pub loop-i-preserved : goal.loop-i-preserved
loop-i-preserved c = let l = c.loop-i in
    let t = c.args.text.now in
    l.invariant ∙ first_later is_space t l.i (length t) c.loop-i-test.true (sym c.is_space.ensures ∙ c.if-is_space.false)

pub returns : goal.returns
returns c = let l = c.loop-i in
    let t = c.args.text.now in
    let e : l.i ≡ length t = (let a = l.auto in let b = c.loop-i-test.false in omega arith) in
    (sym (l.invariant ∙ first_end is_space t l.i (length t) (omega arith) ∙ e), omega arith, omega arith)
