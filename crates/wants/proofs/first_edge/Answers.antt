use Rattle.tables.specs.Data.{point}
use Rattle.tables.specs.Rules.{rank}
use Rattle.nets.specs.Layout.{net_of}
use Rattle.wants.proofs.Cases.{edge_0, edge_1, edge_2, edge_none}
use Rattle.wants.proofs.first_edge.Goals as goal

pub returns-then-tries : goal.returns-then-tries
returns-then-tries c = let x = c.args in
    edge_0 (point x.points.now) (rank x.points.now) (net_of x.work.now x.count) x.t c.tries.ensures c.if-tries.true

pub returns-then-tries-2 : goal.returns-then-tries-2
returns-then-tries-2 c = let x = c.args in
    edge_1 (point x.points.now) (rank x.points.now) (net_of x.work.now x.count) x.t c.tries.ensures c.if-tries.false c.tries-else-tries.ensures c.if-tries-2.true

pub returns-then-tries-3 : goal.returns-then-tries-3
returns-then-tries-3 c = let x = c.args in
    edge_2 (point x.points.now) (rank x.points.now) (net_of x.work.now x.count) x.t c.tries.ensures c.if-tries.false c.tries-else-tries.ensures c.if-tries-2.false
    c.tries-else-tries-2.ensures c.if-tries-3.true

pub returns-else-tries-3 : goal.returns-else-tries-3
returns-else-tries-3 c = let x = c.args in
    edge_none (point x.points.now) (rank x.points.now) (net_of x.work.now x.count) x.t c.tries.ensures c.if-tries.false c.tries-else-tries.ensures c.if-tries-2.false
    c.tries-else-tries-2.ensures c.if-tries-3.false
