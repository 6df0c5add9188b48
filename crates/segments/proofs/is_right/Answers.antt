use Rattle.std.proofs.Common.{◌∙◌}
use Rattle.segments.proofs.SignTests.{same_neg, neg_told}
use Rattle.segments.proofs.is_right.Goals as goal

pub returns : goal.returns
returns c = neg_told _ c.orient_at.ensures (c.eq.ensures ∙ same_neg _)
