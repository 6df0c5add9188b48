use Rattle.std.proofs.lemmas.Result.{OkIff-at_ok, OkIff-at_err}
use Rattle.texts.proofs.Entries.{with_minus, without_minus, too_large}
use Rattle.texts.proofs.I32Entry.entry.Goals as goal

pub returns-then-minus : goal.returns-then-minus
returns-then-minus c = with_minus c.args.minus c.args.size c.in-Ok.n (OkIff-at_ok _ _ _ _ c.try_from.ensures c.in-Ok.is) c.if-minus.true

pub returns-else-minus : goal.returns-else-minus
returns-else-minus c = without_minus c.args.minus c.args.size c.in-Ok.n (OkIff-at_ok _ _ _ _ c.try_from.ensures c.in-Ok.is) c.if-minus.false

pub returns-in-Err : goal.returns-in-Err
returns-in-Err c = too_large c.args.minus c.args.size (OkIff-at_err _ _ _ _ c.try_from.ensures c.in-Err.is)
