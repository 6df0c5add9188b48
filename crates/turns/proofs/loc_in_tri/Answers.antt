use Rattle.tables.specs.Data.{point}
use Rattle.turns.proofs.Corners.{Low, lows}
use Rattle.turns.proofs.Moves.{moved}
use Rattle.turns.proofs.loc_in_tri.Goals as goal
use Rattle.turns.proofs.loc_in_tri.Goals.{Start}

-- each corner is a point number
low : (s : Start) → Low s.args.points.now s.args.work.now s.args.t
low s = lows s.args.points.now s.args.work.now s.args.count s.args.t s.requires.numbered s.requires.p_bound.1

pub is_right-s0-requires : goal.is_right-s0-requires
is_right-s0-requires c = record { near = c.requires.near; a_bound = ((low (goal.at.is_right-s0-requires c).Start).0, (low (goal.at.is_right-s0-requires c).Start).1, c.requires.p_bound.0) }

pub is_right-s1-requires : goal.is_right-s1-requires
is_right-s1-requires c = record { near = c.requires.near; a_bound = ((low (goal.at.is_right-s1-requires c).Start).1, (low (goal.at.is_right-s1-requires c).Start).2, c.requires.p_bound.0) }

pub is_right-s2-requires : goal.is_right-s2-requires
is_right-s2-requires c = record { near = c.requires.near; a_bound = ((low (goal.at.is_right-s2-requires c).Start).2, (low (goal.at.is_right-s2-requires c).Start).0, c.requires.p_bound.0) }

pub returns : goal.returns
returns c = let x = c.args in
    moved (point x.points.now) x.work.now x.count (point x.points.now x.p) x.t
    c.is_right-s0.ensures c.is_right-s1.ensures c.is_right-s2.ensures c.choose.ensures
