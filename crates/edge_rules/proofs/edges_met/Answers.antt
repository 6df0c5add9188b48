use Rattle.std.proofs.Common.{rules}
use mathlib.Core.Path.{sym, ◌∙◌}
use Rattle.ranges.proofs.Tests.{all_below}
use Rattle.edge_rules.proofs.Rule3.{met, all_met}
use Rattle.edge_rules.proofs.edges_met.Goals as goal

pub returns : goal.returns
returns c = let ps = c.args.points.now in
    let xs = c.args.list.now in
    all_below (met ps xs) c.all.ensures.ran (λ x b q k. search rules) ∙ sym (all_met ps xs c.requires.3.whole)
