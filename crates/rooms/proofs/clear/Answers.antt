use Rattle.rooms.proofs.Cleared.{cleared_fill}
use Rattle.rooms.proofs.clear.Goals as goal

pub returns : goal.returns
returns c = cleared_fill c.args.k c.args.work.now c.fill.new.self (c.fill.ensures.after (λ y h. h))
