use borrow.Author.Tests.{lt-ltb, ltb-false}
use mathlib.Core.Bool.{true≢false}
use mathlib.Core.Path.{◌≡◌, sym, ◌∙◌}
use Prim.Native.Nat.{◌*◌, ◌≤◌}
use native.Mathlib.Omega.{arith}
use Rattle.segments.specs.Near.{Near}
use Rattle.tables.specs.Answers.{lowest}
use Rattle.tables.specs.Data.{point_count, pair_count}
use Rattle.tables.specs.Refusals.{bad_pair}
use Rattle.std.specs.Prelude.{None}
use Rattle.tables.proofs.Table.{row_at_stops, row_at_passes, near_list}
use Rattle.rooms.proofs.Cleared.{rest_none}
use Rattle.pair_checks.specs.Ends.{Ends}
use Rattle.pair_rows.proofs.Above.{ends_points}
use Rattle.pair_rows.proofs.rows_8_to_10.Goals as goal
use Rattle.pair_rows.proofs.rows_8_to_10.Goals.{Else-n-m, In_default, then-m-lt-FEW, else-m-lt-FEW}

pub returns-in-Some : goal.returns-in-Some
returns-in-Some c = record { result_value = sym (row_at_stops 8 _ (sym c.bad_pair.ensures ∙ c.in-Some.is)); rest = rest_none _ _ }

-- row 8 is passed
none_8 : (c : In_default) → lowest (pair_count c.args.pairs.now) (bad_pair (point_count c.args.points.now) c.args.pairs.now) ≡ None
none_8 c = sym c.bad_pair.ensures ∙ c.in_default.is

ends : (c : In_default) → Ends c.args.points.now c.args.pairs.now
ends c = ends_points c.args.points.now c.args.pairs.now c.requires.pairs_len.0 (none_8 c)

near : (c : In_default) → Near c.args.points.now
near c = near_list c.args.points.now c.requires.figure.even c.requires.figure.near

pub overflow_mul-n : goal.overflow_mul-n
overflow_mul-n c = let a = c.requires.figure.few in omega arith

pub rows_9_and_10_each-requires : goal.rows_9_and_10_each-requires
rows_9_and_10_each-requires c = record { near = near (goal.at.rows_9_and_10_each-requires c).In_default; ends = ends (goal.at.rows_9_and_10_each-requires c).In_default }

-- the pairs are not more than the working area holds
held : (c : Else-n-m) → pair_count c.args.pairs.now ≤ 10 * point_count c.args.points.now
held c =
    elim c.if-m-lt-FEW.branch [
      | then-m-lt-FEW x ↦ absurd (true≢false (sym (lt-ltb _ _ x.if-m-lt-FEW.true) ∙ sym x.value-is ∙ c.if-n-m.false))
      | else-m-lt-FEW x ↦ ltb-false _ _ (sym x.value-is ∙ c.if-n-m.false)
    ]

pub rows_9_and_10_ordered-requires : goal.rows_9_and_10_ordered-requires
rows_9_and_10_ordered-requires c = record { figure = c.requires.figure; ends = ends (goal.at.rows_9_and_10_ordered-requires c).In_default; points_in_bounds = (c.requires.pairs_len.1, held (goal.at.rows_9_and_10_ordered-requires c).Else-n-m) }

pub returns-then-n-m : goal.returns-then-n-m
returns-then-n-m c = record { result_value = c.rows_9_and_10_each.ensures ∙ sym (row_at_passes 8 _ (none_8 (goal.at.returns-then-n-m c).In_default)); rest = rest_none _ _ }

pub returns-else-n-m : goal.returns-else-n-m
returns-else-n-m c = record { result_value = c.rows_9_and_10_ordered.ensures.result_value ∙ sym (row_at_passes 8 _ (none_8 (goal.at.returns-else-n-m c).In_default)); rest = c.rows_9_and_10_ordered.ensures.rest }
