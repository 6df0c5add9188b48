use Rattle.splitting.specs.Splits.{side_pushed}
use Rattle.splitting.proofs.split_side.Goals as goal

pub returns : goal.returns
unfolding side_pushed
returns c = rw (
  c.push-2.ensures,
  c.push.ensures,
  c.split_side.ensures,
)
