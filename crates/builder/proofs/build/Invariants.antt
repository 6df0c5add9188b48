use mathlib.Core.Path.{◌≡◌}
use Prim.Native.Nat.{ℕ, ◌*◌, ◌≤◌}
use lib.ListN.{length, get_or}
use Rattle.tables.specs.Data.{point_count}
use Rattle.builder.specs.Stages.{Staged}
use Rattle.builder.proofs.build.Given as goal

abbrev pub invariant-loop-p : goal.invariant-loop-p
invariant-loop-p l = record {
  staged : Staged l.points l.p l.work l.at.count l.at.newest;
  size : length l.work ≡ length l.initial.work;
  rest : (c : ℕ) → 64 * point_count l.points ≤ c → get_or l.work c 0 ≡ get_or l.initial.work c 0;
}
