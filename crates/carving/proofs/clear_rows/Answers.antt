use Rattle.carving.proofs.Clears.{cleared}
use Rattle.carving.proofs.clear_rows.Goals as goal

pub returns : goal.returns
returns c = let s = c.args in
    cleared s.n s.count s.work.now c.wipe_rows.new.work _
    c.wipe_rows.ensures c.wipe_rows-2.ensures
