use mathlib.Core.Bool.{Bool, cond}
use Rattle.splitting.specs.Splits.{edge_pushed}
use mathlib.Core.Path.{sym, ap, ◌∙◌}
use Rattle.splitting.proofs.split_edge.Goals as goal

pub returns-then-earlier : goal.returns-then-earlier
returns-then-earlier c = c.split_both.ensures ∙ sym (ap
    (λ (b : Bool). cond b (edge_pushed c.args.work.now
    c.args.count
    c.args.g
    c.args.h
    c.args.p)
    (edge_pushed c.args.work.now
    c.args.count
    c.args.h
    c.args.g
    c.args.p))
    (sym c.earlier.ensures ∙ c.if-earlier.true))

pub returns-else-earlier : goal.returns-else-earlier
returns-else-earlier c = c.split_both-else-earlier.ensures ∙ sym (ap
    (λ (b : Bool). cond b (edge_pushed c.args.work.now
    c.args.count
    c.args.g
    c.args.h
    c.args.p)
    (edge_pushed c.args.work.now
    c.args.count
    c.args.h
    c.args.g
    c.args.p))
    (sym c.earlier.ensures ∙ c.if-earlier.false))
