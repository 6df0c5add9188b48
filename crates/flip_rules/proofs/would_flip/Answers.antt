use Rattle.flip_rules.proofs.Step3.{inside, outside, tie_lost, tie_won}
use Rattle.flip_rules.proofs.would_flip.Goals as goal

pub returns-in-Pos : goal.returns-in-Pos
returns-in-Pos c = let x = c.args in
    inside x.points.now x.a x.b x.c x.d c.circle_at.ensures c.in-Pos.is c.can_turn.ensures

pub returns-then-pair_below : goal.returns-then-pair_below
returns-then-pair_below c = let x = c.args in
    tie_won x.points.now x.a x.b x.c x.d c.circle_at.ensures c.in-Zero.is c.pair_below.ensures c.if-pair_below.true c.can_turn-then-pair_below.ensures

pub returns-else-pair_below : goal.returns-else-pair_below
returns-else-pair_below c = let x = c.args in
    tie_lost x.points.now x.a x.b x.c x.d c.circle_at.ensures c.in-Zero.is c.pair_below.ensures c.if-pair_below.false

pub returns-in-Neg : goal.returns-in-Neg
returns-in-Neg c = let x = c.args in
    outside x.points.now x.a x.b x.c x.d c.circle_at.ensures c.in-Neg.is
