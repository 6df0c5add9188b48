use Rattle.std.proofs.Common.{rules}
use Rattle.tables.specs.Refusals.{again}
use Rattle.pair_checks.proofs.Lowest.{lowest_below}
use Rattle.point_checks.proofs.equal_point.Goals as goal

pub returns : goal.returns
returns c = lowest_below _ _ (again c.args.points.now) _ c.find.ensures.ran (λ x b q k. search rules)
