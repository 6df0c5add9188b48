use Rattle.std.proofs.Common.{rules}
use mathlib.Core.Path.{◌≡◌, sym, ap, ◌∙◌}
use Prim.Native.Nat.{◌*◌}
use Rattle.tables.specs.Answers.{Paper}
use Rattle.tables.specs.Data.{point_count}
use Rattle.tables.specs.Refusals.{rows, rows4to10}
use Rattle.tables.specs.Verdicts.{left_work}
use Rattle.rooms.proofs.Cleared.{cleared_over}
use Rattle.checks.proofs.Leaves.{rows_leave}
use Rattle.checks.proofs.rows.Goals as goal

-- rows 1 to 3 are passed
pub returns-clause-work : goal.returns-clause-work
returns-clause-work c = let ps = c.args.points.now in
    let qs = c.args.pairs.now in
    let w = c.args.work.now in
    let e : rows c.args.odd c.args.short ps qs ≡ rows4to10 ps qs = search rules in
    c.clear.ensures ∙ cleared_over (64 * point_count ps) w _ c.rows_4_to_10-answer.ensures.rest
    ∙ sym (ap (λ (p : Paper). left_work p (point_count ps) w) e ∙ rows_leave ps qs (point_count ps) w)
