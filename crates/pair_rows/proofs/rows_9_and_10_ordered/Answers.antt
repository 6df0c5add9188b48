use mathlib.Core.List.{List}
use mathlib.Core.Path.{◌≡◌, sym, ap, ◌∙◌}
use Prim.Native.Nat.{ℕ, ◌*◌, ◌≤◌}
use lib.ListN.{length}
use Rattle.tables.specs.Answers.{yes, row_at, lowest}
use Rattle.tables.specs.Data.{point_count, pair_count}
use Rattle.tables.specs.Refusals.{blocked}
use Rattle.std.specs.Prelude.{Option, None}
use Rattle.tables.proofs.Table.{row_at_stops, row_at_passes}
use Rattle.rooms.specs.Rest.{Rest}
use Rattle.rooms.proofs.Cleared.{rest_then}
use Rattle.pair_rows.proofs.rows_9_and_10_ordered.Goals as goal
use Rattle.pair_rows.proofs.rows_9_and_10_ordered.Goals.{After-rank_points, In_default}

-- the points are in order
abbrev w1 : (c : After-rank_points) → List ℕ
w1 c = c.rank_points.new.work

rest : (c : After-rank_points) → Rest (64 * point_count c.args.points.now) c.args.work.now (w1 c)
rest c = record { size = c.rank_points.ensures.size; same = c.rank_points.ensures.rest }

long : (c : After-rank_points) → 64 * point_count c.args.points.now ≤ length (w1 c)
long c = rw (rest c).size c.requires.points_in_bounds.0

pub blocked_pair-requires : goal.blocked_pair-requires
blocked_pair-requires c = record { figure = c.requires.figure; ends = c.requires.ends; ordered = (c.rank_points.ensures.ordered, long (goal.at.blocked_pair-requires c).After-rank_points) }

pub returns-in-Some : goal.returns-in-Some
returns-in-Some c = record { result_value = sym (row_at_stops 9 _ (sym c.blocked_pair.ensures ∙ c.in-Some.is)); rest = rest (goal.at.returns-in-Some c).After-rank_points }

-- row 9 is passed
none_9 : (c : In_default) → lowest (pair_count c.args.pairs.now) (blocked c.args.points.now c.args.pairs.now) ≡ None
none_9 c = sym c.blocked_pair.ensures ∙ c.in_default.is

pub crossing_pair-requires : goal.crossing_pair-requires
crossing_pair-requires c = record { figure = c.requires.figure; ends = c.requires.ends; ordered = (c.rank_points.ensures.ordered, long (goal.at.crossing_pair-requires c).After-rank_points, c.requires.points_in_bounds.1) }

pub returns : goal.returns
returns c = record { result_value = c.row_10.ensures ∙ sym (row_at_passes 9 _ (none_9 (goal.at.returns c).In_default) ∙ ap (λ (l : Option ℕ). row_at 10 l yes) (sym c.crossing_pair.ensures.value)); rest = rest_then (rest (goal.at.returns c).After-rank_points) c.crossing_pair.ensures.rest }
