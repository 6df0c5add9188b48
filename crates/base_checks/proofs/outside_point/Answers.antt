use mathlib.Core.Bool.{true, false}
use Rattle.base_checks.proofs.Base.{read_base}
use Rattle.base_checks.proofs.outside_point.Goals as goal

pub returns-then-is_clockwise : goal.returns-then-is_clockwise
returns-then-is_clockwise c = read_base _ _ true c.is_clockwise.ensures c.if-is_clockwise.true c.outside_base.ensures

pub returns-else-is_clockwise : goal.returns-else-is_clockwise
returns-else-is_clockwise c = read_base _ _ false c.is_clockwise.ensures c.if-is_clockwise.false c.outside_base-else-is_clockwise.ensures
