use Rattle.std.proofs.Common.{rules}
use Rattle.ranges.proofs.Tests.{first_below}
use Rattle.tables.specs.Data.{point}
use Rattle.nets.specs.Layout.{net_of}
use Rattle.nets.specs.Location.{holds}
use Rattle.location.proofs.Walks.{scanned}
use Rattle.location.proofs.scan.Goals as goal

pub returns : goal.returns
returns c = let x = c.args in
    let P = point x.points.now in
    let m = net_of x.work.now x.count in
    scanned P m (P x.p) x.count c.find.result (first_below _ _ (holds P m (P x.p)) c.find.result c.find.ensures.ran (λ y b q k. search rules))
