use mathlib.Core.Path.{refl, subst}
use Prim.Native.Nat.{◌<◌}
use native.Mathlib.Omega.{arith}
use Rattle.tables.specs.Data.{point_count, pair_count}
use Rattle.nets.specs.Layout.{Kept}
use Rattle.stages.specs.Stages.{Ground}
use Rattle.recovery.specs.Lines.{Lined, AllGo}
use Rattle.cutter.specs.Cuts.{Passed}
use Rattle.cutter.proofs.Cuts.{is_figure, work_room, clear_asked, lined, long3, stuck_left, sheet_asked, long4, sheet_left, written}
use Rattle.cutter.proofs.make_sheet.Goals as goal
use Rattle.cutter.proofs.make_sheet.Goals.{In_default, In-Err}

pub build-count-requires : goal.build-count-requires
build-count-requires c =
    let ps = c.args.points.now in
    let qs = c.args.pairs.now in
    let out = c.args.out.now in
    let w = c.args.work.now in
    record { figure = is_figure ps qs out w c.requires; points_in_bounds = work_room ps qs out w c.requires }

-- the points are in
pub clear_rows-requires : goal.clear_rows-requires
clear_rows-requires c = clear_asked c.args.points.now c.args.pairs.now c.args.out.now c.args.work.now c.requires c.build-count.ensures

-- the rows are clear
pub recover_pairs-requires : goal.recover_pairs-requires
recover_pairs-requires c =
    lined c.args.points.now c.args.pairs.now c.args.out.now c.args.work.now c.requires c.build-count.ensures c.clear_rows.ensures

-- the pairs have come, and all are in
all_in : (c : In_default) →
    Lined c.args.points.now c.args.pairs.now (pair_count c.args.pairs.now) c.recover_pairs.new.work c.build-count.result ×
    Kept (point_count c.args.points.now) c.clear_rows.new.work c.recover_pairs.new.work
all_in c = subst (AllGo c.args.points.now c.args.pairs.now c.clear_rows.new.work c.build-count.result c.recover_pairs.new.work) c.in_default.is c.recover_pairs.ensures

pub write_sheet-requires : goal.write_sheet-requires
write_sheet-requires c =
    let i = all_in (goal.at.write_sheet-requires c).In_default in
    let a = sheet_asked c.args.points.now c.args.pairs.now c.args.out.now c.args.work.now c.requires c.build-count.ensures c.clear_rows.ensures i.1 i.0 in
    record { count_bound = a.0; n_in_bounds = a.1; count_in_bounds = a.2 }

-- the list is written
pub overflow_mul-n : goal.overflow_mul-n
overflow_mul-n c =
    let ps = c.args.points.now in
    let qs = c.args.pairs.now in
    let out = c.args.out.now in
    let w = c.args.work.now in
    let a = (is_figure ps qs out w c.requires).few in omega arith

pub clear-requires : goal.clear-requires
clear-requires c =
    let i = all_in (goal.at.clear-requires c).In_default in
    long4 c.args.points.now c.args.pairs.now c.args.out.now c.args.work.now c.requires c.build-count.ensures c.clear_rows.ensures i.1 i.0 c.write_sheet.ensures

pub returns-in_default : goal.returns-in_default
returns-in_default c =
    let ps = c.args.points.now in
    let qs = c.args.pairs.now in
    let out = c.args.out.now in
    let w = c.args.work.now in
    let i = all_in (goal.at.returns-in_default c).In_default in record {
      passed = Passed.sheet c.build-count.result (written ps qs out w c.requires c.build-count.ensures c.clear_rows.ensures i.1 i.0 c.write_sheet.ensures);
      work_after = sheet_left ps qs out w c.requires c.build-count.ensures c.clear_rows.ensures i.1 i.0 c.write_sheet.ensures c.clear.ensures;
    }

-- one is stuck
at : (c : In-Err) →
    (c.in-Err.stuck.pair < pair_count c.args.pairs.now) × Ground c.args.points.now c.args.pairs.now c.in-Err.stuck.pair ×
    Kept (point_count c.args.points.now) c.clear_rows.new.work c.recover_pairs.new.work
at c = subst (AllGo c.args.points.now c.args.pairs.now c.clear_rows.new.work c.build-count.result c.recover_pairs.new.work) c.in-Err.is c.recover_pairs.ensures

pub overflow_mul-n-2 : goal.overflow_mul-n-2
overflow_mul-n-2 c =
    let ps = c.args.points.now in
    let qs = c.args.pairs.now in
    let out = c.args.out.now in
    let w = c.args.work.now in
    let a = (is_figure ps qs out w c.requires).few in omega arith

pub clear-requires-2 : goal.clear-requires-2
clear-requires-2 c =
    long3 c.args.points.now c.args.pairs.now c.args.out.now c.args.work.now c.requires c.build-count.ensures c.clear_rows.ensures
    (at (goal.at.clear-requires-2 c).In-Err).2

pub returns : goal.returns
returns c =
    let ps = c.args.points.now in
    let qs = c.args.pairs.now in
    let out = c.args.out.now in
    let w = c.args.work.now in
    let h = at (goal.at.returns c).In-Err in record {
      passed = Passed.stuck c.in-Err.stuck.pair h.0 h.1 refl;
      work_after = stuck_left ps qs out w c.requires c.build-count.ensures c.clear_rows.ensures h.2 c.clear-2.ensures;
    }
