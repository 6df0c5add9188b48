use native.Mathlib.Omega.{arith}
use Rattle.sheets.proofs.Steps.{gathered_more}
use Rattle.sheets.proofs.gather.Goals as goal

pub loop-t-preserved : goal.loop-t-preserved
loop-t-preserved c = let l = c.loop-t in
    gathered_more c.args.work.now c.args.lo l.t l.work _ l.invariant (omega arith) c.turn.ensures
