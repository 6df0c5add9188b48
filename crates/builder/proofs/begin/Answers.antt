use Rattle.tables.specs.Data.{clockwise}
use mathlib.Core.Path.{sym, ◌∙◌}
use Rattle.tables.proofs.Table.{near_list}
use Rattle.builder.proofs.Stages.{begun_turned, begun_plain}
use Rattle.builder.proofs.begin.Goals as goal
use Rattle.builder.proofs.begin.Goals.{then-is_right, else-is_right}

pub is_right-requires-clause-near : goal.is_right-requires-clause-near
is_right-requires-clause-near c = near_list _ c.requires.figure.even c.requires.figure.near

pub returns : goal.returns
unfolding clockwise
returns c =
    let x = c.args in
    elim c.if-is_right.branch [
      | then-is_right w ↦
          begun_turned x.points.now x.work.now c.requires.figure c.requires.points_in_bounds (sym c.is_right.ensures ∙ w.if-is_right.true) (rw w.corners-is at c.record.ensures)
      | else-is_right w ↦
          begun_plain x.points.now x.work.now c.requires.figure c.requires.points_in_bounds (sym c.is_right.ensures ∙ w.if-is_right.false) (rw w.corners-is at c.record.ensures)
    ]
