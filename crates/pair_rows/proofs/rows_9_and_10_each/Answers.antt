use mathlib.Core.Path.{sym, ap, ◌∙◌}
use Rattle.tables.specs.Answers.{yes, row_at}
use Rattle.std.specs.Prelude.{Option, ℕ}
use Rattle.tables.proofs.Table.{row_at_stops, row_at_passes}
use Rattle.pair_rows.proofs.rows_9_and_10_each.Goals as goal

pub returns-in-Some : goal.returns-in-Some
returns-in-Some c = sym (row_at_stops 9 _ (sym c.blocked_pair.ensures ∙ c.in-Some.is))

-- row 9 is passed
pub returns : goal.returns
returns c = c.row_10.ensures
    ∙ sym (row_at_passes 9 _ (sym c.blocked_pair.ensures ∙ c.in_default.is) ∙ ap (λ (l : Option ℕ). row_at 10 l yes) (sym c.crossing_pair.ensures))
