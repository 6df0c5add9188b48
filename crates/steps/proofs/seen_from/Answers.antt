use Rattle.steps.proofs.Laws.{seen_read, seen_low}
use Rattle.steps.proofs.seen_from.Goals as goal

pub returns : goal.returns
returns c = let e = seen_read c.args.work.now c.args.h c.next.ensures
    c.previous.ensures in
    record { value = e; low = rw e (seen_low c.args.work.now c.args.h c.args.count c.requires.in_range c.requires.h_bound) }
