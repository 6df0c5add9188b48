use Rattle.std.proofs.Common.{rules}
use mathlib.Core.Path.{◌∙◌}
use Rattle.ranges.proofs.Tests.{all_below}
use Rattle.list_rules.proofs.Once.{lastb, once}
use Rattle.list_rules.proofs.edges_once.Goals as goal

pub returns : goal.returns
returns c = let xs = c.args.list.now in
    let whole = c.requires.whole in
    all_below (lastb xs whole) c.all.ensures.ran (λ x b q k. search rules) ∙ once xs whole
