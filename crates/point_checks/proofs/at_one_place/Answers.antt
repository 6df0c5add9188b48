use lib.IntN.{ℤ}
use mathlib.Core.Path.{◌∙◌}
use mir.Syntax.{w32}
use Rattle.plane.specs.Points.{Pt}
use Rattle.tables.specs.Data.{point}
use Rattle.segments.proofs.Compare.{same_bits, other_bits, eq_bits}
use Rattle.point_checks.proofs.at_one_place.Goals as goal
use Rattle.point_checks.proofs.at_one_place.Goals.{Start}

abbrev p : Start → Pt ℤ
p s = point s.args.points.now s.args.i

abbrev q : Start → Pt ℤ
q s = point s.args.points.now s.args.j

pub returns-then-points-i : goal.returns-then-points-i
unfolding point
returns-then-points-i c = let s = (goal.at.returns-then-points-i c).Start in
    rw (same_bits w32 (p s).x (q s).x (record { sfits = c.t8-1.given }) (record { sfits = c.t12-1.given }) c.if-points-i.true)
    (eq_bits w32 (p s).y (q s).y (record { sfits = c.result-1.given }) (record { sfits = c.result-then-points-i-1.given }))

pub returns-else-points-i : goal.returns-else-points-i
unfolding point
returns-else-points-i c = let s = (goal.at.returns-else-points-i c).Start in
    let differ = other_bits w32 (p s).x (q s).x (record { sfits = c.t8-1.given }) (record { sfits = c.t12-1.given }) c.if-points-i.false in
    rw differ (eq_bits w32 (p s).x (q s).x (record { sfits = c.t8-1.given }) (record { sfits = c.t12-1.given }) ∙ differ)
