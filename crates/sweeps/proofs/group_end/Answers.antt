use Rattle.std.proofs.Common.{rules}
use Rattle.std.specs.Bool.{⊤}
use Rattle.std.proofs.lemmas.Iterator.{first_from_Range}
use Rattle.pair_orders.specs.Rows.{from}
use Rattle.sweeps.proofs.Least.{together_until}
use Rattle.sweeps.proofs.group_end.Goals as goal
use mathlib.Core.Path.{◌≡◌}

pub returns : goal.returns
returns c = let w = c.args.work.now in
    together_until w c.args.at c.args.m c.args.p c.find.result c.requires.1 c.unwrap_or.ensures
    (first_from_Range _ _ _ _ (λ q. ⊤) (λ q. from w c.args.at q ≡ from w c.args.at c.args.p) c.find.ensures.ran (λ x q k. tt) (λ x q k. search rules))
