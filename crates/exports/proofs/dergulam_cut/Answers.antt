use mathlib.Core.Path.{refl}
use Rattle.cutter.specs.Cuts.{Cutting}
use Rattle.exports.proofs.Bounds.{cut_place, told_sheet, told_refusal}
use Rattle.exports.proofs.dergulam_cut.Goals as goal
use Rattle.exports.proofs.dergulam_cut.Goals.{After-cut}

promise : (c : After-cut) → Cutting c.args.points.now
    c.args.pairs.now c.args.out.now
    c.args.work.now c.cut.new.out c.cut.new.work c.cut.result
promise c = c.cut.ensures

pub refusal-requires : goal.refusal-requires
refusal-requires c = let s = c.args in
    cut_place s.points.now s.pairs.now s.out.now s.work.now c.cut.new.out c.cut.new.work c.cut.result
    (promise (goal.at.refusal-requires c).After-cut) c.in-Err.r c.in-Err.is

pub returns-in-Ok : goal.returns-in-Ok
returns-in-Ok c = let s = c.args in
    told_sheet s.points.now s.pairs.now s.out.now s.work.now c.cut.new.out c.cut.new.work c.cut.result
    (promise (goal.at.returns-in-Ok c).After-cut) c.in-Ok.count c.in-Ok.count c.in-Ok.is refl

pub returns-in-Err : goal.returns-in-Err
returns-in-Err c = let s = c.args in
    told_refusal s.points.now s.pairs.now s.out.now s.work.now c.cut.new.out c.cut.new.work c.cut.result
    (promise (goal.at.returns-in-Err c).After-cut) c.in-Err.r c.refusal.result c.in-Err.is c.refusal.ensures
