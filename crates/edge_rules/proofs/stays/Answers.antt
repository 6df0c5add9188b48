use mathlib.Core.Path.{ap, ◌∙◌}
use mathlib.Core.Bool.{not}
use borrow.Author.Tests.{eq-eqb, ne_eqb}
use Rattle.edge_rules.proofs.Rule7.{marked_stays, alone_stays, reverse_at, no_reverse, low, flip_stays}
use Rattle.edge_rules.proofs.stays.Goals as goal

pub returns-then-work-n-ne0 : goal.returns-then-work-n-ne0
returns-then-work-n-ne0 c = marked_stays c.args.points.now c.args.list.now c.args.work.now c.args.h (ne_eqb _ _ c.if-work-n-ne0.true)

pub turns-requires : goal.turns-requires
turns-requires c = let p = c.requires in
    let e = reverse_at c.args.points.now c.args.list.now c.args.work.now c.args.h c.head.ensures c.find.ensures c.in-Some.is in (
      p.0,
      record { whole = p.1.whole; few = p.1.fits.few },
      p.1.corners,
      p.4,
      low c.args.points.now c.args.list.now c.args.work.now c.args.h p.1.whole p.3 c.in-Some.g e,
    )

pub returns-in-Some : goal.returns-in-Some
returns-in-Some c = let p = c.requires in
    let e = reverse_at c.args.points.now c.args.list.now c.args.work.now c.args.h c.head.ensures c.find.ensures c.in-Some.is in
    ap not c.turns.ensures ∙ flip_stays c.args.points.now c.args.list.now c.args.work.now c.args.h p.1.whole p.3 c.in-Some.g e (eq-eqb _ _ c.if-work-n-ne0.false)

pub returns-in-None : goal.returns-in-None
returns-in-None c = alone_stays c.args.points.now c.args.list.now c.args.work.now c.args.h
    (no_reverse c.args.points.now c.args.list.now c.args.work.now c.args.h c.head.ensures c.find.ensures c.in-None.is)
