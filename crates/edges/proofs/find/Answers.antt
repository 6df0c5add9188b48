use mathlib.Core.Path.{sym, ap, ◌∙◌}
use native.Mathlib.Omega.{arith}
use Rattle.tables.specs.Rules.{corner}
use Rattle.edges.proofs.Search.{start, hit, miss, falls, nowhere}
use Rattle.edges.proofs.find.Goals as goal
use Rattle.edges.proofs.find.Goals.{Else-list-next_edge, Then-list-next_edge}

pub loop-h-init : goal.loop-h-init
loop-h-init c = start c.args.n c.args.list.now c.args.work.now c.args.u c.args.v c.requires.0 c.requires.3

pub returns-then-list-next_edge : goal.returns-then-list-next_edge
returns-then-list-next_edge c = let e = c.in-Some.ensures in
    hit c.args.list.now c.args.u c.args.v c.loop-h.link c.in-Some.h c.loop-h.invariant (omega arith) (ap (corner c.args.list.now) (sym c.next_edge.ensures) ∙ c.if-list-next_edge.true)

pub loop-h-smaller : goal.loop-h-smaller
loop-h-smaller c = let e = c.in-Some.ensures in
    falls c.args.list.now c.args.u c.args.v c.loop-h.link c.in-Some.h c.loop-h.invariant (omega arith) c.args.n c.args.work.now c.requires.3

pub loop-h-preserved : goal.loop-h-preserved
loop-h-preserved c = let e = c.in-Some.ensures in
    miss c.args.list.now c.args.u c.args.v c.loop-h.link c.in-Some.h c.loop-h.invariant (omega arith) c.args.n c.args.work.now c.requires.3
    (λ q. c.if-list-next_edge.false (ap (corner c.args.list.now) c.next_edge.ensures ∙ q))

pub returns : goal.returns
returns c = nowhere c.args.list.now c.args.u c.args.v c.loop-h.link c.loop-h.invariant (let e = c.in_default.ensures in omega arith)
