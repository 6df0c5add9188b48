use Rattle.std.proofs.Common.{rules}
use lib.ListN.{length}
use Rattle.algebra.specs.Tests.{all_to}
use Rattle.ranges.proofs.Tests.{all_below}
use Rattle.edge_rules.specs.Stays.{stays}
use Rattle.edge_rules.proofs.edges_stay.Goals as goal

pub returns : goal.returns
returns c = let xs = c.args.list.now in
    all_below (λ h. all_to (length xs) (stays c.args.points.now xs c.args.work.now h)) c.all.ensures.ran (λ x b q k. search rules)
