use Rattle.std.proofs.Common.{rules}
use native.Mathlib.Omega.{arith}
use Prim.Native.Nat.{◌+◌}
use Rattle.std.proofs.lemmas.Iterator.{serves_from_Range}
use Rattle.ranges.proofs.Tests.{any_within}
use Rattle.tables.proofs.Table.{near_list}
use Rattle.spans.proofs.Between.{inside, by_rank}
use Rattle.ranks.specs.Ranked.{at_rank}
use Rattle.tables.specs.Data.{point_count}
use Rattle.spans.proofs.holds_point.Goals as goal

pub any-requires-clause-callable : goal.any-requires-clause-callable
any-requires-clause-callable c = serves_from_Range (λ x q r. search rules) (λ x a b.
    let near = near_list c.args.points.now c.requires.figure.even c.requires.figure.near in
    let small = c.requires.ordered.0.small x (omega arith) in
    search (rules, near, small))

pub returns : goal.returns
returns c = let w = c.args.work.now in
    by_rank c.args.points.now w c.args.a c.args.b c.args.lo c.args.hi c.requires.ordered.0 c.requires.figure c.requires.a_bound c.requires.lo_bound _
    (any_within _ _ _ (λ r. inside c.args.points.now c.args.a c.args.b (at_rank (point_count c.args.points.now) w r)) c.any.ensures.ran (λ x b q k. search rules))
