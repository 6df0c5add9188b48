use mathlib.Core.Path.{sym, ◌∙◌}
use mathlib.Core.Bool.{true≢false}
use Rattle.place_rules.proofs.Base.{Corners, corners, along_1, along_2, along_3}
use Rattle.place_rules.proofs.along_side.Goals as goal
use Rattle.place_rules.proofs.along_side.Goals.{After-after_first-b, then-both_on, else-both_on}

base : (c : After-after_first-b) → Corners c.args.points.now c.after_first-b.result.0 c.after_first-b.result.1
base c = corners c.args.cw c.requires.bound.3 c.after_first-b.ensures.0 c.after_first-b.ensures.1

pub returns-then-both_on-2 : goal.returns-then-both_on-2
returns-then-both_on-2 c = let k = base (goal.at.returns-then-both_on-2 c).After-after_first-b in
    c.if-both_on-2.true ∙ elim c.if-both_on.branch [
      | then-both_on w ↦ along_1 k c.args.u c.args.v c.both_on.ensures w.if-both_on.true
      | else-both_on w ↦ along_2 k c.args.u c.args.v c.both_on.ensures w.if-both_on.false w.both_on-else-both_on.ensures (sym w.value-is ∙ c.if-both_on-2.true)
    ]

pub returns-else-both_on-2 : goal.returns-else-both_on-2
returns-else-both_on-2 c = let k = base (goal.at.returns-else-both_on-2 c).After-after_first-b in
    elim c.if-both_on.branch [
      | then-both_on w ↦ absurd (true≢false (sym w.if-both_on.true ∙ sym w.value-is ∙ c.if-both_on-2.false))
      | else-both_on w ↦ along_3 k c.args.u c.args.v c.both_on.ensures w.if-both_on.false w.both_on-else-both_on.ensures (sym w.value-is ∙ c.if-both_on-2.false) c.both_on-else-both_on-2.ensures
    ]
