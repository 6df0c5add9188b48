use Rattle.flipping.proofs.Live.{left, Live}
use Rattle.flipping.proofs.legalize_suspects.Given as goal

abbrev pub invariant-loop-m : goal.invariant-loop-m
invariant-loop-m l = Live l.points l.initial.work l.count l.many l.newest l.work l.m l.z

abbrev pub decreases-loop-m : goal.decreases-loop-m
decreases-loop-m l = left l.points l.count l.work l.m
