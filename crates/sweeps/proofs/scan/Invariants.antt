use Prim.Native.Nat.{◌-◌, ◌≤◌, ◌<◌}
use Rattle.sweeps.proofs.Least.{State}
use Rattle.sweeps.proofs.scan.Given as goal

abbrev pub invariant-loop-q : goal.invariant-loop-q
invariant-loop-q l = (l.p < l.q) × (l.q ≤ l.m) × State l.points l.pairs l.at l.work l.p l.q l.least l.kept

abbrev pub decreases-loop-q : goal.decreases-loop-q
decreases-loop-q l = l.m - l.q
