use Rattle.std.proofs.Common.{◌∙◌}
use Rattle.segments.proofs.SignTests.{same_pos, pos_told}
use Rattle.segments.proofs.is_left.Goals as goal

pub returns : goal.returns
returns c = pos_told _ c.orient_at.ensures (c.eq.ensures ∙ same_pos _)
