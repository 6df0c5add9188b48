use mathlib.Core.Path.{◌≡◌, ap, ap₂, ◌∙◌}
use Rattle.std.proofs.Common.{rules}
use Prim.Native.Nat.{◌<◌}
use native.Mathlib.Omega.{arith}
use lib.ListN.{length}
use Rattle.texts.specs.Words.{word_start, word_end, word_at, some}
use Rattle.texts.proofs.Numbers.{next_none, next_some}
use Rattle.texts.proofs.next_word.Goals as goal

pub returns-then-start-text : goal.returns-then-start-text
returns-then-start-text c = let e = c.word_start-start.ensures in next_none c.args.text.now c.args.from (let l = c.if-start-text.true in omega arith)

pub returns : goal.returns
returns c = let t = c.args.text.now in
    let s = c.word_start-start.ensures in
    let e : c.word_end-end.result ≡ word_end t (word_start t c.args.from) = c.word_end-end.ensures.0 ∙ ap (word_end t) s in
    let w = c.word_at.ensures ∙ ap₂ (word_at t) s e in
    let m : c.map.result ≡ some c.word_at.result = search rules in
    let l : word_start t c.args.from < length t = (let b = c.if-start-text.false in omega arith) in
    m ∙ ap some w ∙ next_some t c.args.from l
