use Rattle.apexes.proofs.Scanning.{replaces_left, replaces_right, replaces_flat}
use Rattle.apexes.proofs.replaces.Goals as goal

pub returns-in-Pos : goal.returns-in-Pos
returns-in-Pos c = replaces_left _ _ _ _ c.orient_at-sign.ensures c.in-Pos.is c.inside.ensures

pub returns-in-Neg : goal.returns-in-Neg
returns-in-Neg c = replaces_right _ _ _ _ c.orient_at-sign.ensures c.in-Neg.is c.inside-in-Neg.ensures

pub returns-in-Zero : goal.returns-in-Zero
returns-in-Zero c = replaces_flat _ _ _ _ c.orient_at-sign.ensures c.in-Zero.is
