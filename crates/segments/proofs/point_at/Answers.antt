use Rattle.std.proofs.Common.{rules, ◌+◌, ◌*◌, pos, get_or, ap₂, w32, SFits, to_z-of_z}
use Rattle.plane.specs.Points.{at}
use Rattle.tables.specs.Data.{point}
use Rattle.segments.proofs.point_at.Goals as goal

-- An element of the slice fits its type, so it comes back from its bits.
pub returns : goal.returns
unfolding point
returns c =
    let ps = c.args.points.now in
    let x : SFits w32 (get_or ps (2 * c.args.i) (pos 0)) = search rules in
    let y : SFits w32 (get_or ps (2 * c.args.i + 1) (pos 0)) = search rules in
    ap₂ at (to_z-of_z x) (to_z-of_z y)
