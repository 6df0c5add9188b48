use Prim.Native.Nat.{ℕ, ◌<◌}
use Rattle.tables.specs.Data.{point}
use Rattle.nets.specs.Layout.{net_of}
use Rattle.looks.specs.Around.{Passed}
use Rattle.searches.proofs.scan.Given as goal

abbrev pub invariant-loop-h : goal.invariant-loop-h
invariant-loop-h l = (x : ℕ) → x < l.h → Passed (point l.points) (net_of l.work l.count) l.a l.b x
