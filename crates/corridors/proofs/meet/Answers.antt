use mathlib.Core.Path.{sym, ap}
use Rattle.tables.specs.Data.{point}
use Rattle.seams.proofs.Fitting.{figure_near}
use Rattle.segments.specs.Tests.{is_pos, is_neg}
use Rattle.segments.proofs.SignTests.{pos_told, neg_told}
use Rattle.corridors.proofs.Looks.{met_last, met_left, met_right, met_line}
use Rattle.corridors.proofs.meet.Goals as goal

pub returns-then-c-b : goal.returns-then-c-b
returns-then-c-b c = let s = c.args in met_last (point s.points.now) s.a s.b s.y s.c c.if-c-b.true

pub orient_at-side-requires-clause-near : goal.orient_at-side-requires-clause-near
orient_at-side-requires-clause-near c = figure_near c.requires.figure

pub returns-in-Pos : goal.returns-in-Pos
returns-in-Pos c = let s = c.args in
    met_left (point s.points.now) s.a s.b s.y s.c c.if-c-b.false (sym (pos_told _ c.orient_at-side.ensures (sym (ap is_pos c.in-Pos.is))))

pub returns-in-Neg : goal.returns-in-Neg
returns-in-Neg c = let s = c.args in
    let o = c.orient_at-side.ensures in
    met_right (point s.points.now) s.a s.b s.y s.c c.if-c-b.false (sym (pos_told _ o (sym (ap is_pos c.in-Neg.is)))) (sym (neg_told _ o (sym (ap is_neg c.in-Neg.is))))

pub returns-in-Zero : goal.returns-in-Zero
returns-in-Zero c = let s = c.args in
    let o = c.orient_at-side.ensures in
    met_line (point s.points.now) s.a s.b s.y s.c c.if-c-b.false (sym (pos_told _ o (sym (ap is_pos c.in-Zero.is)))) (sym (neg_told _ o (sym (ap is_neg c.in-Zero.is))))
