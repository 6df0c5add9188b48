use Rattle.std.proofs.Common.{rules}
use Rattle.tables.specs.Data.{point, end_a, end_b}
use Rattle.tables.specs.Refusals.{in_segment}
use Rattle.ranges.proofs.Tests.{any_below}
use Rattle.pair_checks.proofs.is_blocked.Goals as goal

pub returns : goal.returns
returns c = let p = point c.args.points.now in
    any_below (λ i. in_segment (p (end_a c.args.pairs.now c.args.k)) (p (end_b c.args.pairs.now c.args.k)) (p i)) c.any.ensures.ran (λ x b q k. search rules)
