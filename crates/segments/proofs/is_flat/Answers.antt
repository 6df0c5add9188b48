use Rattle.std.proofs.Common.{◌∙◌}
use Rattle.segments.proofs.SignTests.{same_zero, zero_told}
use Rattle.segments.proofs.is_flat.Goals as goal

pub returns : goal.returns
returns c = zero_told _ c.orient_at.ensures (c.eq.ensures ∙ same_zero _)
