use Rattle.std.proofs.Common.{rules}
use Rattle.place_rules.proofs.Areas.{near_x, near_y}
use Rattle.place_rules.proofs.twice_area.Goals as goal

pub orient_det-requires : goal.orient_det-requires
orient_det-requires c = search (rules, near_x c.args.points.now c.requires.near, near_y c.args.points.now c.requires.near)
