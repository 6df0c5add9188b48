use Rattle.std.proofs.Common.{rules}
use Rattle.tables.specs.Refusals.{bad_pair}
use Rattle.pair_checks.proofs.Lowest.{lowest_below}
use Rattle.pair_checks.proofs.bad_pair.Goals as goal

pub returns : goal.returns
returns c = lowest_below _ _ (bad_pair c.args.n c.args.pairs.now) _ c.find.ensures.ran (λ x b q k. search rules)
