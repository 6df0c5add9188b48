use mathlib.Core.Path.{◌≡◌}
use Prim.Native.Nat.{suc, ◌+◌, ◌-◌, ◌*◌, ◌<◌}
use Rattle.tables.specs.Data.{point}
use Rattle.nets.specs.Layout.{net_of}
use Rattle.nets.specs.Location.{walk}
use Rattle.location.proofs.walk.Given as goal

-- what is left of the walk answers what the whole walk does
abbrev pub invariant-loop : goal.invariant-loop
invariant-loop l = record {
  low : l.t < l.count;
  same : walk (point l.points) (net_of l.work l.count) (point l.points l.p) (4 * l.count + 16 - l.counter) (suc l.t) ≡ walk (point l.points) (net_of l.work l.count) (point l.points l.p) (4 * l.count + 16) (suc l.newest);
}
