use Rattle.tables.specs.Data.{point}
use Rattle.turns.proofs.Corners.{Low, lows}
use Rattle.turns.proofs.Moves.{edge0, edge1, edge2, no_edge}
use Rattle.location.proofs.edge_at.Goals as goal
use Rattle.location.proofs.edge_at.Goals.{Start}

-- each corner is a point number
low : (s : Start) → Low s.args.points.now s.args.work.now s.args.t
low s = lows s.args.points.now s.args.work.now s.args.count s.args.t s.requires.numbered s.requires.p_bound.1

pub is_flat-requires : goal.is_flat-requires
is_flat-requires c = record { near = c.requires.near; a_bound = ((low (goal.at.is_flat-requires c).Start).0, (low (goal.at.is_flat-requires c).Start).1, c.requires.p_bound.0) }

pub is_flat-requires-else-is_flat : goal.is_flat-requires-else-is_flat
is_flat-requires-else-is_flat c = record { near = c.requires.near; a_bound = ((low (goal.at.is_flat-requires-else-is_flat c).Start).1, (low (goal.at.is_flat-requires-else-is_flat c).Start).2, c.requires.p_bound.0) }

pub is_flat-requires-else-is_flat-2 : goal.is_flat-requires-else-is_flat-2
is_flat-requires-else-is_flat-2 c = record { near = c.requires.near; a_bound = ((low (goal.at.is_flat-requires-else-is_flat-2 c).Start).2, (low (goal.at.is_flat-requires-else-is_flat-2 c).Start).0, c.requires.p_bound.0) }

pub returns-then-is_flat : goal.returns-then-is_flat
returns-then-is_flat c = let x = c.args in
    edge0 (point x.points.now) x.work.now x.count (point x.points.now x.p) x.t c.is_flat.ensures c.if-is_flat.true

pub returns-then-is_flat-2 : goal.returns-then-is_flat-2
returns-then-is_flat-2 c = let x = c.args in
    edge1 (point x.points.now) x.work.now x.count (point x.points.now x.p) x.t c.is_flat.ensures c.if-is_flat.false c.is_flat-else-is_flat.ensures c.if-is_flat-2.true

pub returns-then-is_flat-3 : goal.returns-then-is_flat-3
returns-then-is_flat-3 c = let x = c.args in
    edge2 (point x.points.now) x.work.now x.count (point x.points.now x.p) x.t c.is_flat.ensures c.if-is_flat.false c.is_flat-else-is_flat.ensures c.if-is_flat-2.false
    c.is_flat-else-is_flat-2.ensures c.if-is_flat-3.true

pub returns-else-is_flat-3 : goal.returns-else-is_flat-3
returns-else-is_flat-3 c = let x = c.args in
    no_edge (point x.points.now) x.work.now x.count (point x.points.now x.p) x.t c.is_flat.ensures c.if-is_flat.false c.is_flat-else-is_flat.ensures c.if-is_flat-2.false
    c.is_flat-else-is_flat-2.ensures c.if-is_flat-3.false
