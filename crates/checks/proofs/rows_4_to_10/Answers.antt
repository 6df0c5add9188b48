use mathlib.Core.Path.{sym, ◌∙◌}
use Rattle.tables.specs.Data.{point_count}
use Rattle.tables.specs.Refusals.{far, outside, again}
use Rattle.tables.proofs.Table.{lowest_nowhere, near_list}
use Rattle.checks.proofs.rows_4_to_10.Goals as goal

pub no_area-requires-clause-near : goal.no_area-requires-clause-near
no_area-requires-clause-near c = let ps = c.args.points.now in
    near_list ps c.requires.points_len.0 (lowest_nowhere (far ps) (point_count ps) (sym c.far_point.ensures ∙ c.in_default.is))

pub outside_point-requires-clause-near : goal.outside_point-requires-clause-near
outside_point-requires-clause-near c = let ps = c.args.points.now in
    near_list ps c.requires.points_len.0 (lowest_nowhere (far ps) (point_count ps) (sym c.far_point.ensures ∙ c.in_default.is))

pub rows_8_to_10-requires-clause-figure : goal.rows_8_to_10-requires-clause-figure
rows_8_to_10-requires-clause-figure c = let ps = c.args.points.now in record {
  even = c.requires.points_len.0;
  enough = c.requires.bound.0;
  few = c.requires.bound.1;
  near = lowest_nowhere (far ps) (point_count ps) (sym c.far_point.ensures ∙ c.in_default.is);
  area = sym c.no_area.ensures ∙ c.if-no_area.false;
  within = lowest_nowhere (outside ps) (point_count ps) (sym c.outside_point.ensures ∙ c.in_default-outside_point.is);
  distinct = lowest_nowhere (again ps) (point_count ps) (sym c.equal_point.ensures ∙ c.in_default-equal_point.is);
}
