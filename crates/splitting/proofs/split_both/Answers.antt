use Rattle.splitting.specs.Splits.{edge_pushed}
use Rattle.splitting.proofs.split_both.Goals as goal

pub returns : goal.returns
unfolding edge_pushed
returns c = rw (
  c.push-4.ensures,
  c.push-3.ensures,
  c.push-2.ensures,
  c.push.ensures,
  c.split_edge.ensures,
)
