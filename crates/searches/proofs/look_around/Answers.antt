use Rattle.tables.proofs.Table.{near_list}
use Rattle.looks.proofs.Laws.{start_low}
use Rattle.searches.proofs.look_around.Goals as goal

pub turn-met-requires-clause-near : goal.turn-met-requires-clause-near
turn-met-requires-clause-near c = near_list c.args.points.now c.requires.figure.even c.requires.figure.near

pub turn-met-requires-clause-a_bound : goal.turn-met-requires-clause-a_bound
turn-met-requires-clause-a_bound c = let x = c.args in (c.requires.a_bound.0, c.requires.a_bound.1, start_low x.work.now x.count x.a c.in-Some.h c.in-Some.is c.start.ensures)

pub scan-requires-clause-near : goal.scan-requires-clause-near
scan-requires-clause-near c = near_list c.args.points.now c.requires.figure.even c.requires.figure.near
