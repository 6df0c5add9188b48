use Prim.Native.Nat.{◌+◌, ◌-◌}
use Rattle.tables.specs.Data.{point}
use Rattle.corridors.proofs.Turns.{Live}
use Rattle.corridors.proofs.collect.Given as goal

abbrev pub invariant-loop-l : goal.invariant-loop-l
invariant-loop-l l = Live (point l.points) l.n l.count l.a l.b l.initial.work l.x0 l.work l.l l.r l.x

abbrev pub decreases-loop-l : goal.decreases-loop-l
decreases-loop-l l = l.count + 1 - (l.l + l.r)
