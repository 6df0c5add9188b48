use Rattle.std.proofs.Common.{rules}
use Rattle.tables.specs.Refusals.{crossing}
use Rattle.pair_checks.proofs.Lowest.{lowest_below}
use Rattle.pair_checks.proofs.crossing_pair.Goals as goal

pub returns : goal.returns
returns c = lowest_below _ _ (crossing c.args.points.now c.args.pairs.now) _ c.find.ensures.ran (λ x b q k. search rules)
