use mathlib.Core.Path.{sym, ap, ◌∙◌}
use Rattle.tables.specs.Answers.{of_checked}
use Rattle.cutter.proofs.Cuts.{rows_asked, passed_so}
use Rattle.cutter.proofs.cut.Goals as goal

pub rows-requires : goal.rows-requires
rows-requires c = rows_asked c.args.points.now c.args.pairs.now c.args.out.now c.args.work.now c.is_short-short.ensures

-- no row refuses, and the sheet is made or the recovery sticks
pub returns : goal.returns
returns c = passed_so c.args.points.now c.args.pairs.now c.args.out.now c.args.work.now c.is_short-short.ensures c.rows.ensures.work
    (ap of_checked (sym c.in_ok-rows.was) ∙ c.rows.ensures.answer) c.make_sheet.ensures.passed c.make_sheet.ensures.work_after
