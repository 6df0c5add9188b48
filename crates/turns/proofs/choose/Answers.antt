use Rattle.turns.proofs.Moves.{some_beyond, goes0, goes1, goes2, stuck, stays}
use Rattle.turns.proofs.choose.Goals as goal

pub returns-in-Some : goal.returns-in-Some
returns-in-Some c = let x = c.args in goes0 x.s0 x.s1 x.s2 x.a0 x.a1 x.a2 c.over.result c.over.ensures c.in-Some.is

pub returns-in-Some-over : goal.returns-in-Some-over
returns-in-Some-over c = let x = c.args in
    goes1 x.s0 x.s1 x.s2 x.a0 x.a1 x.a2 c.over.result c.over.ensures c.in_default.is c.over-2.result c.over-2.ensures c.in-Some-over.is

pub returns-in-Some-over-2 : goal.returns-in-Some-over-2
returns-in-Some-over-2 c = let x = c.args in
    goes2 x.s0 x.s1 x.s2 x.a0 x.a1 x.a2 c.over.result c.over.ensures c.in_default.is c.over-2.result c.over-2.ensures c.in_default-over.is c.over-3.result c.over-3.ensures c.in-Some-over-2.is

pub returns-then-s2 : goal.returns-then-s2
returns-then-s2 c = let x = c.args in
    stuck x.s0 x.s1 x.s2 x.a0 x.a1 x.a2 c.over.result c.over.ensures c.in_default.is c.over-2.result c.over-2.ensures c.in_default-over.is c.over-3.result c.over-3.ensures c.in_default-over-2.is (some_beyond c.if-s2.either)

pub returns-else-s2 : goal.returns-else-s2
returns-else-s2 c = let x = c.args in
    let n = c.if-s2.false in
    stays x.s0 x.s1 x.s2 x.a0 x.a1 x.a2 (rw (n.0, n.1, n.2))
