use mathlib.Core.Path.{ap, ◌∙◌}
use Rattle.std.specs.Prelude.{Err}
use Rattle.std.proofs.lemmas.Result.{err_from_is_err_and}
use Rattle.carving.proofs.Closings.{on_the_way, not_closed}
use Rattle.carving.proofs.recover.Goals as goal

pub returns-in_err-l : goal.returns-in_err-l
returns-in_err-l c =
    let k = err_from_is_err_and c.from_residual.result c.from_residual.ensures.1 in
    on_the_way c.begin.ensures.0 c.begin.ensures.2 c.in_err-l.ensures (k.1 ∙ ap Err k.2)

pub returns-in_err-close : goal.returns-in_err-close
returns-in_err-close c =
    let k = err_from_is_err_and c.from_residual-in_err-close.result c.from_residual-in_err-close.ensures.1 in
    not_closed c.begin.ensures.0 c.begin.ensures.2 c.in_ok-l.ensures c.in_err-close.ensures (k.1 ∙ ap Err k.2)
