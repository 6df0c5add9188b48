use Rattle.apexes.proofs.Scanning.{pos_yes, pos_not}
use Rattle.apexes.proofs.inside.Goals as goal

pub returns-in-Pos : goal.returns-in-Pos
returns-in-Pos c = pos_yes _ c.circle_at.ensures c.in-Pos.is

pub returns-in_default : goal.returns-in_default
returns-in_default c = pos_not _ c.circle_at.ensures c.in_default.not-Pos
