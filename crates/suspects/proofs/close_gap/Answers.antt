use Prim.Native.Nat.{ℕ, ◌+◌}
use mathlib.Core.Path.{◌≡◌, subst}
use native.Mathlib.Omega.{arith}
use Rattle.suspects.specs.Stack.{Closed}
use Rattle.suspects.proofs.Stack.{closed_more}
use Rattle.suspects.proofs.close_gap.Goals as goal

pub loop-j-preserved : goal.loop-j-preserved
loop-j-preserved c = let x = c.args in closed_more x.work.now c.loop-j.work x.k c.loop-j.j (omega arith) (omega arith) c.loop-j.invariant

pub returns : goal.returns
returns c = let x = c.args in
    let e : c.loop-j.j + 1 ≡ x.m = omega arith in
    subst (λ (i : ℕ). Closed x.work.now x.k i c.loop-j.work) e c.loop-j.invariant
