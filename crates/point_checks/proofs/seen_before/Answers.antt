use Rattle.std.proofs.Common.{rules}
use Rattle.tables.specs.Data.{point, same}
use Rattle.ranges.proofs.Tests.{any_below}
use Rattle.point_checks.proofs.seen_before.Goals as goal

pub returns : goal.returns
returns c = let p = point c.args.points.now in
    any_below (λ j. same (p j) (p c.args.i)) c.any.ensures.ran (λ x b q k. search rules)
