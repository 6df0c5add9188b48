use Prim.Native.Nat.{◌+◌}
use Rattle.suspects.specs.Stack.{Closed}
use Rattle.suspects.proofs.close_gap.Given as goal

abbrev pub invariant-loop-j : goal.invariant-loop-j
invariant-loop-j l = Closed l.initial.work l.k (l.j + 1) l.work
