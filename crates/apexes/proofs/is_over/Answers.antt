use Rattle.tables.specs.Data.{point}
use Rattle.chains.specs.Areas.{chain_of}
use Rattle.seams.proofs.Fitting.{figure_near}
use Rattle.apexes.proofs.Scanning.{left_is}
use Rattle.apexes.proofs.is_over.Goals as goal

pub is_left-requires-clause-near : goal.is_left-requires-clause-near
is_left-requires-clause-near c = figure_near c.requires.0

pub returns : goal.returns
returns c = let x = c.args in
    left_is (point x.points.now) (chain_of x.n x.work.now) x.i x.j c.corner.ensures c.corner-2.ensures
    c.corner-3.ensures c.is_left.ensures
