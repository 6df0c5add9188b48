use mathlib.Core.Path.{◌∙◌}
use Rattle.texts.proofs.Numbers.{word_minus, word_plain}
use Rattle.texts.proofs.word_at.Goals as goal

pub returns-then-text-start-eq45 : goal.returns-then-text-start-eq45
returns-then-text-start-eq45 c = c.number_at.ensures ∙ word_minus c.args.text.now c.args.start c.args.end c.if-text-start-eq45.true

pub returns : goal.returns
returns c = c.number_at-2.ensures ∙ word_plain c.args.text.now c.args.start c.args.end c.if-text-start-eq45.false
