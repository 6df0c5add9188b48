use Rattle.std.proofs.Common.{rules}
use Rattle.tables.specs.Data.{point}
use Rattle.location.proofs.Walks.{located}
use Rattle.location.proofs.locate.Goals as goal

pub returns : goal.returns
returns c = let x = c.args in
    let P = point x.points.now in
    located P x.work.now x.count (P x.p) x.newest c.walk.result c.or_else.result c.walk.ensures c.or_else.ensures (λ k. search rules)
