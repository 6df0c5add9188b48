use mathlib.Core.Path.{ap, ◌∙◌}
use Rattle.std.specs.Prelude.{Err}
use Rattle.std.proofs.lemmas.Result.{err_from_is_err_and}
use Rattle.carving.proofs.Closings.{sticks_right, shut}
use Rattle.carving.proofs.close.Goals as goal

pub returns-in_err-fill-2 : goal.returns-in_err-fill-2
returns-in_err-fill-2 c = let p = c.requires.room in
    let k = err_from_is_err_and c.from_residual-in_err-fill-2.result c.from_residual-in_err-fill-2.ensures.1 in
    sticks_right p.0 p.1 p.2 p.3 c.in_ok-fill.ensures c.in_err-fill-2.ensures (k.1 ∙ ap Err k.2)

pub returns : goal.returns
returns c = let p = c.requires.room in shut p.0 p.1 p.2 p.3 c.in_ok-fill.ensures c.in_ok-fill-2.ensures c.slot-s.ensures c.move_to.ensures
