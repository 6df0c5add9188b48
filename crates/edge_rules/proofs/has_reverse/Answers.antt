use mathlib.Core.Path.{ap, ◌∙◌}
use Prim.Native.Nat.{ℕ}
use lib.ListN.{length}
use Rattle.algebra.specs.Tests.{any_to}
use Rattle.tables.specs.Rules.{corner, edge_is}
use Rattle.edges.proofs.Last.{found_any}
use Rattle.edge_rules.proofs.has_reverse.Goals as goal

pub returns : goal.returns
returns c = let xs = c.args.list.now in
    let v = corner xs c.args.h in
    c.is_some.ensures ∙ found_any (λ g. edge_is xs g c.head.result v) (length xs) c.find.ensures
    ∙ ap (λ (u : ℕ). any_to (length xs) (λ g. edge_is xs g u v)) c.head.ensures
