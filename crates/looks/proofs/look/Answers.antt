use mathlib.Core.Path.{sym, ◌∙◌}
use Rattle.tables.specs.Data.{point}
use Rattle.looks.proofs.Laws.{elsewhere, end_low, third_low, to_b, from_b, not_right, not_left, enters}
use Rattle.looks.proofs.look.Goals as goal
use Rattle.looks.proofs.look.Goals.{else-is_right-via-then-is_right+else-is_left, else-is_right-via-else-is_right}

pub returns-then-work-t : goal.returns-then-work-t
returns-then-work-t c = let x = c.args in elsewhere (point x.points.now) x.work.now x.count x.a x.b x.h c.if-work-t.true

pub returns-then-u-b : goal.returns-then-u-b
returns-then-u-b c = let x = c.args in to_b (point x.points.now) x.work.now x.count x.a x.b x.h c.requires.a_bound.2 c.if-work-t.false c.if-u-b.true

pub returns-then-v-b : goal.returns-then-v-b
returns-then-v-b c = let x = c.args in from_b (point x.points.now) x.work.now x.count x.a x.b x.h c.requires.a_bound.2 c.if-work-t.false c.if-v-b.true

pub is_right-requires-clause-a_bound : goal.is_right-requires-clause-a_bound
is_right-requires-clause-a_bound c = let x = c.args in
    (c.requires.a_bound.0, c.requires.a_bound.1, end_low x.points.now x.work.now x.count x.h c.requires.ranged c.requires.a_bound.2)

pub is_left-requires-clause-a_bound : goal.is_left-requires-clause-a_bound
is_left-requires-clause-a_bound c = let x = c.args in
    (c.requires.a_bound.0, c.requires.a_bound.1, third_low x.points.now x.work.now x.count x.h c.requires.ranged c.requires.a_bound.2)

pub returns-then-is_left : goal.returns-then-is_left
returns-then-is_left c = let x = c.args in
    enters (point x.points.now) x.work.now x.count x.a x.b x.h c.requires.a_bound.2 c.if-work-t.false (sym c.is_right.ensures ∙ c.if-is_right.true) (sym c.is_left.ensures ∙ c.if-is_left.true)

pub returns : goal.returns
returns c = let x = c.args in
    elim c.else-is_right.branch [
      | else-is_right-via-then-is_right+else-is_left w ↦ not_left (point x.points.now) x.work.now x.count x.a x.b x.h c.if-u-b.false c.if-v-b.false (sym w.is_left.ensures ∙ w.if-is_left.false)
      | else-is_right-via-else-is_right w ↦ not_right (point x.points.now) x.work.now x.count x.a x.b x.h c.if-u-b.false c.if-v-b.false (sym c.is_right.ensures ∙ w.if-is_right.false)
    ]
