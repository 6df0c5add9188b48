use mathlib.Core.Path.{sym}
use Rattle.tables.proofs.Table.{row_at_stops, row_at_passes}
use Rattle.pair_rows.proofs.row_10.Goals as goal

pub returns-in-Some : goal.returns-in-Some
returns-in-Some c = sym (row_at_stops 10 _ c.in-Some.is)

pub returns-in-None : goal.returns-in-None
returns-in-None c = sym (row_at_passes 10 _ c.in-None.is)
