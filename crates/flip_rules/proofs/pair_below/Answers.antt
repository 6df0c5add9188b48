use mathlib.Core.Path.{◌∙◌}
use Rattle.flip_rules.proofs.Step3.{places_lt, below_by}
use Rattle.flip_rules.proofs.pair_below.Goals as goal

pub returns : goal.returns
returns c = let x = c.args in
    let l = c.requires.a_bound in
    let low = c.places.ensures in
    let far = c.places-2.ensures in
    c.lt.ensures ∙ places_lt _ _ _ _ ∙ below_by x.points.now x.a x.b x.c x.d l.0 l.1 l.2 l.3 low.0 low.1 far.0 far.1
