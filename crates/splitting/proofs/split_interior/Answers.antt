use Rattle.splitting.specs.Splits.{inside_pushed}
use Rattle.splitting.proofs.split_interior.Goals as goal

pub returns : goal.returns
unfolding inside_pushed
returns c = rw (
  c.push-3.ensures,
  c.push-2.ensures,
  c.push.ensures,
  c.split_interior.ensures,
)
