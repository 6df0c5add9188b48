use mathlib.Core.Path.{sym, ap, ◌∙◌}
use Rattle.tables.specs.Data.{point}
use Rattle.nets.specs.Layout.{net_of}
use Rattle.turns.specs.Moves.{turn_number}
use Rattle.location.proofs.Walks.{in_it, not_in}
use Rattle.location.proofs.holds.Goals as goal

pub returns-in-Here : goal.returns-in-Here
returns-in-Here c = let x = c.args in
    let P = point x.points.now in
    sym (in_it P (net_of x.work.now x.count) (P x.p) x.t (ap turn_number (sym c.in-Here.is) ∙ c.loc_in_tri.ensures))

pub returns-in_default : goal.returns-in_default
returns-in_default c = let x = c.args in
    let P = point x.points.now in
    sym (not_in P (net_of x.work.now x.count) (P x.p) x.t c.loc_in_tri.result c.loc_in_tri.ensures c.in_default.not-Here)
