use mathlib.Core.Path.{ap, ◌∙◌}
use native.Mathlib.Omega.{arith}
use Prim.Native.Nat.{ℕ}
use Rattle.std.specs.Prelude.{Err}
use Rattle.texts.specs.declared.Fault.TheVariants.{TooMany}
use Rattle.texts.proofs.Figures.{ended_more, ended_none}
use Rattle.texts.proofs.finish.Goals as goal

pub returns-then-start-text : goal.returns-then-start-text
returns-then-start-text c = let a = c.args in
    let e = c.word_start-start.ensures in
    ap (λ (x : ℕ). Err (TooMany x)) e ∙ ended_more a.text.now a.figure.points a.figure.pairs a.at (let l = c.if-start-text.true in omega arith)

pub returns : goal.returns
returns c = let a = c.args in
    let e = c.word_start-start.ensures in
    ended_none a.text.now a.figure.points a.figure.pairs a.at (let l = c.if-start-text.false in omega arith)
