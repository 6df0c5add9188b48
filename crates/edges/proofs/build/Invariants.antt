use Prim.Native.Nat.{◌+◌}
use lib.ListN.{length}
use Rattle.rooms.specs.Rest.{Rest}
use Rattle.edges.specs.Index.{Indexed}
use Rattle.edges.proofs.build.Given as goal

abbrev pub invariant-loop-h : goal.invariant-loop-h
invariant-loop-h l = Indexed l.n l.list l.h l.work × Rest (l.n + length l.list) l.initial.work l.work
