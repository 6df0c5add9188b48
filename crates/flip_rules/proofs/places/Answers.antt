use mathlib.Core.Path.{◌≡◌, sym, ap₂, ◌∙◌}
use Rattle.tables.specs.Rules.{before}
use Rattle.flip_rules.specs.Order.{comes_before}
use Rattle.flip_rules.proofs.Step3.{place_lt}
use Rattle.flip_rules.proofs.places.Goals as goal
use Rattle.flip_rules.proofs.places.Goals.{After-lt}

tested : (c : After-lt) → c.lt.result ≡ comes_before c.args.points.now c.args.i c.args.j
tested c = c.lt.ensures ∙ place_lt _ _ ∙ ap₂ before c.place-p.ensures c.place-q.ensures

pub returns-then-lt : goal.returns-then-lt
returns-then-lt c = let t = sym (tested (goal.at.returns-then-lt c).After-lt) ∙ c.if-lt.true in (rw t c.place-p.ensures, rw t c.place-q.ensures)

pub returns-else-lt : goal.returns-else-lt
returns-else-lt c = let t = sym (tested (goal.at.returns-else-lt c).After-lt) ∙ c.if-lt.false in (rw t c.place-q.ensures, rw t c.place-p.ensures)
