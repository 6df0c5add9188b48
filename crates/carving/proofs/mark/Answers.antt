use mathlib.Core.Path.{ap, ◌∙◌}
use Rattle.chains.specs.Areas.{mark_w}
use Rattle.carving.proofs.Closings.{mark_none, mark_some}
use Rattle.carving.proofs.mark.Goals as goal

pub returns-in-Some : goal.returns-in-Some
returns-in-Some c = let s = c.args in mark_some s.work.now s.h c.partner.result c.in-Some.ensures ∙ ap (mark_w s.work.now s.h) c.partner.ensures

pub returns-in_default : goal.returns-in_default
returns-in_default c = let s = c.args in mark_none s.work.now s.h c.partner.result c.in_default.ensures ∙ ap (mark_w s.work.now s.h) c.partner.ensures
