use Prim.Native.Nat.{◌+◌, ◌≤◌}
use native.Mathlib.Omega.{arith}
use lib.ListN.{length}
use Rattle.edges.proofs.Index.{more_indexed, more_rest}
use Rattle.edges.proofs.build.Goals as goal

pub loop-h-preserved : goal.loop-h-preserved
loop-h-preserved c = let l = c.loop-h in
    let xs = c.args.list.now in
    let here = c.loop-h-test.true in
    let room : c.args.n + length xs ≤ length l.work = omega (arith, c.requires.1.room, l.invariant.1.size) in
    (more_indexed c.args.n xs l.work l.h here c.requires.0 room l.invariant.0, more_rest c.args.n xs l.work l.h here c.requires.0 room l.invariant.0 c.args.work.now l.invariant.1)
