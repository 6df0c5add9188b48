use Rattle.splits.proofs.Written.{inside_written}
use Rattle.splits.proofs.split_interior.Goals as goal

pub returns : goal.returns
returns c = let s = c.args in
    inside_written s.work.now s.count s.t s.p
    c.seen_from-x.ensures.value
    c.record.ensures
    c.record-2.ensures
    c.record-3.ensures
    c.rewire.ensures
    c.rewire-2.ensures
    c.rewire-3.ensures
