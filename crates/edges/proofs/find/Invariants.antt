use Rattle.edges.proofs.Search.{Reached}
use Rattle.edges.proofs.find.Given as goal

abbrev pub invariant-loop-h : goal.invariant-loop-h
invariant-loop-h l = Reached l.list l.u l.v l.link

abbrev pub decreases-loop-h : goal.decreases-loop-h
decreases-loop-h l = l.link
