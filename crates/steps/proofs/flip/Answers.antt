use Rattle.steps.proofs.Written.{flip_written}
use Rattle.steps.proofs.flip.Goals as goal

pub returns : goal.returns
returns c = let s = c.args in
    flip_written s.work.now s.h s.g
    c.seen_from-x.ensures.value
    c.seen_from-y.ensures.value
    c.record.ensures
    c.record-2.ensures
    c.rewire.ensures
    c.rewire-2.ensures
    c.rewire-3.ensures
    c.rewire-4.ensures
