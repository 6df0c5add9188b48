use Rattle.splits.proofs.Written.{side_written}
use Rattle.splits.proofs.split_side.Goals as goal

pub returns : goal.returns
returns c = let s = c.args in
    side_written s.work.now s.count s.h s.p
    c.seen_from-x.ensures.value
    c.record.ensures
    c.record-2.ensures
    c.rewire.ensures
    c.rewire-2.ensures
