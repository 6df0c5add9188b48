use mathlib.Core.Path.{◌≡◌, refl, sym, ◌∙◌}
use mathlib.Core.Bool.{true}
use Rattle.tables.specs.Rules.{rule3, rule4}
use Rattle.checker.proofs.Parts.{rule_no, rule_so}
use Rattle.checker.proofs.cover.Goals as goal
use Rattle.checker.proofs.cover.Goals.{Else-not-edges_met, Else-not-points_met}

pub returns-then-not-edges_met : goal.returns-then-not-edges_met
returns-then-not-edges_met c = rule_no 3 _ (sym c.edges_met.ensures ∙ c.if-not-edges_met.true)

met : (c : Else-not-edges_met) → rule3 c.args.points.now c.args.list.now ≡ true
met c = sym c.edges_met.ensures ∙ c.if-not-edges_met.false

pub returns-then-not-points_met : goal.returns-then-not-points_met
unfolding rule4
returns-then-not-points_met c = rule_so 3 _ (met (goal.at.returns-then-not-points_met c).Else-not-edges_met) (rule_no 4 _ (sym c.points_met.ensures ∙ c.if-not-points_met.true))

corners : (c : Else-not-points_met) → rule4 c.args.points.now c.args.list.now ≡ true
unfolding rule4
corners c = sym c.points_met.ensures ∙ c.if-not-points_met.false

pub returns-then-areas_fill : goal.returns-then-areas_fill
returns-then-areas_fill c = rule_so 3 _ (met (goal.at.returns-then-areas_fill c).Else-not-edges_met) (rule_so 4 _ (corners (goal.at.returns-then-areas_fill c).Else-not-points_met) (rule_so 5 _ (sym c.areas_fill.ensures ∙ c.if-areas_fill.true) refl))

pub returns-else-areas_fill : goal.returns-else-areas_fill
returns-else-areas_fill c = rule_so 3 _ (met (goal.at.returns-else-areas_fill c).Else-not-edges_met) (rule_so 4 _ (corners (goal.at.returns-else-areas_fill c).Else-not-points_met) (rule_no 5 _ (sym c.areas_fill.ensures ∙ c.if-areas_fill.false)))
