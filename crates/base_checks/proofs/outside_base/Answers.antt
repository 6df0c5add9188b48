use Rattle.std.proofs.Common.{rules}
use Rattle.base_checks.specs.Base.{outside_of}
use Rattle.pair_checks.proofs.Lowest.{lowest_below}
use Rattle.base_checks.proofs.outside_base.Goals as goal

pub returns : goal.returns
returns c = lowest_below _ _ (outside_of c.args.points.now c.args.b c.args.c) _ c.find.ensures.ran (λ x b q k. search rules)
