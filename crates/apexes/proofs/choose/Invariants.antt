use Rattle.tables.specs.Data.{point}
use Rattle.chains.specs.Areas.{chain_of}
use Rattle.apexes.proofs.Scanning.{Scan}
use Rattle.apexes.proofs.choose.Given as goal

abbrev pub invariant-loop-x : goal.invariant-loop-x
invariant-loop-x l = Scan (point l.points) (chain_of l.n l.work) l.i l.j l.k l.x
