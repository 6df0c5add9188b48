use Rattle.edge_splits.proofs.Written.{edge_written}
use Rattle.edge_splits.proofs.split_edge.Goals as goal

pub returns : goal.returns
returns c = let s = c.args in
    edge_written s.work.now s.count s.h s.g s.p
    c.seen_from-x.ensures.value
    c.seen_from-y.ensures.value
    c.record.ensures
    c.record-2.ensures
    c.record-3.ensures
    c.record-4.ensures
    c.rewire.ensures
    c.rewire-2.ensures
    c.rewire-3.ensures
    c.rewire-4.ensures
