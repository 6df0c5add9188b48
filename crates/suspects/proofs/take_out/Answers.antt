use Rattle.suspects.proofs.Stack.{left_unflagged, left_unplaced, left_closed}
use Rattle.suspects.proofs.take_out.Goals as goal

pub returns-then-work-s-eq0 : goal.returns-then-work-s-eq0
returns-then-work-s-eq0 c = let x = c.args in left_unflagged x.count x.work.now x.m x.s c.requires.suspects c.if-work-s-eq0.true

pub returns-in-None : goal.returns-in-None
returns-in-None c = let x = c.args in left_unplaced x.work.now x.m x.s (rw c.in-None.is at c.find.ensures)

pub returns-in-Some : goal.returns-in-Some
returns-in-Some c = let x = c.args in
    left_closed x.count x.work.now x.m x.s c.in-Some.k c.requires.suspects (rw c.in-Some.is at c.find.ensures) c.close_gap.new.work c.close_gap.ensures
