use Rattle.tables.specs.Data.{clockwise}
use Rattle.base_checks.proofs.is_clockwise.Goals as goal

pub returns : goal.returns
unfolding clockwise
returns c = c.is_right.ensures
