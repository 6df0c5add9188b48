use Prim.Native.Nat.{◌*◌, ◌<◌}
use native.Mathlib.Omega.{arith}
use Rattle.std.proofs.Common.{rules}
use Rattle.tables.specs.Data.{point}
use Rattle.looks.proofs.Laws.{passed_on, none}
use Rattle.searches.proofs.scan.Goals as goal

pub loop-h-preserved : goal.loop-h-preserved
loop-h-preserved c = let x = c.args in passed_on (point x.points.now) x.work.now x.count x.a x.b c.loop-h.h c.loop-h.invariant (search rules)

pub returns : goal.returns
returns c = let x = c.args in
    none (point x.points.now) x.work.now x.count x.a x.b c.loop-h.h (let k : ¬ (c.loop-h.h < 3 * x.count) = omega arith in k) c.loop-h.invariant
