use Prim.Native.Nat.{◌*◌, ◌<◌}
use Rattle.searches.proofs.turn.Given as goal

abbrev pub invariant-loop : goal.invariant-loop
invariant-loop l = l.h < 3 * l.count
