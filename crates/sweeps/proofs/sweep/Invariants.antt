use Prim.Native.Nat.{◌-◌, ◌≤◌}
use Rattle.sweeps.specs.Least.{Found, Swept, Together}
use Rattle.sweeps.proofs.sweep.Given as goal

abbrev pub invariant-loop-p : goal.invariant-loop-p
invariant-loop-p l = (l.p ≤ l.m) × (l.end ≤ l.m) × Together l.work l.at l.p l.end × Found l.points l.pairs l.least × Swept l.points l.pairs l.at l.work l.p l.least

abbrev pub decreases-loop-p : goal.decreases-loop-p
decreases-loop-p l = l.m - l.p
