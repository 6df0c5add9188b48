use Rattle.std.proofs.Common.{length, ◌≡◌}
use Rattle.sheets.specs.Steps.{Copied}
use Rattle.sheets.proofs.hand_out.Given as goal

abbrev pub invariant-loop-k : goal.invariant-loop-k
invariant-loop-k l = (length l.out ≡ length l.initial.out) × Copied l.work l.lo l.k l.initial.out l.out
