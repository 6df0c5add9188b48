use mathlib.Core.Path.{◌≡◌}
use Rattle.algebra.specs.Sum.{sum_to}
use Rattle.tables.specs.Rules.{triple_area}
use Rattle.place_rules.proofs.areas_fill.Given as goal

abbrev pub invariant-loop-t : goal.invariant-loop-t
invariant-loop-t l = l.sum ≡ sum_to l.t (triple_area l.points l.list)
