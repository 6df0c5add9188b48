use Rattle.std.proofs.Common.{rules}
use Rattle.tables.specs.Data.{point, end_a, end_b}
use Rattle.tables.specs.Refusals.{crosses}
use Rattle.ranges.proofs.Tests.{any_below}
use Rattle.pair_checks.proofs.is_crossing.Goals as goal

pub returns : goal.returns
returns c = let p = point c.args.points.now in
    let qs = c.args.pairs.now in
    any_below (λ j. crosses (p (end_a qs j)) (p (end_b qs j)) (p (end_a qs c.args.k)) (p (end_b qs c.args.k))) c.any.ensures.ran (λ x b q k. search rules)
