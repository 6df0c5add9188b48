use Rattle.tables.specs.Data.{point_count}
use Rattle.nets.specs.Layout.{Kept}
use Rattle.recovery.specs.Lines.{Lined}
use Rattle.recovery.proofs.recover_pairs.Given as goal

abbrev pub invariant-loop-k : goal.invariant-loop-k
invariant-loop-k l = Lined l.points l.pairs l.k l.work l.count × Kept (point_count l.points) l.initial.work l.work
