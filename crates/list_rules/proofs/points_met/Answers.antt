use Rattle.std.proofs.Common.{rules}
use mathlib.Core.Path.{sym, ap, ◌∙◌}
use mathlib.Core.Bool.{not}
use Prim.Native.Nat.{ℕ, ◌*◌}
use lib.Dec.{eqb}
use lib.ListN.{length, get_or}
use Rattle.algebra.specs.Tests.{any_to}
use Rattle.algebra.proofs.Tests.{all_same}
use Rattle.ranges.proofs.Tests.{all_below}
use Rattle.tables.specs.Rules.{triples, corner}
use Rattle.edges.proofs.Last.{last_any}
use Rattle.list_rules.proofs.Once.{whole_length}
use Rattle.list_rules.proofs.points_met.Goals as goal

-- an edge leaves point i exactly if its head is not zero
pub returns : goal.returns
returns c = let xs = c.args.list.now in
    let w = c.args.work.now in
    all_below (λ i. not (eqb (get_or w i 0) 0)) c.all.ensures.ran (λ x b q k. search rules)
    ∙ all_same (λ i. not (eqb (get_or w i 0) 0)) (λ i. any_to (3 * triples xs) (λ h. eqb (corner xs h) i)) c.args.n
    (λ i l. ap (λ (m : ℕ). not (eqb m 0)) (c.requires.indexed.heads i l) ∙ sym (last_any (λ h. eqb (corner xs h) i) (length xs))
    ∙ sym (ap (λ (k : ℕ). any_to k (λ h. eqb (corner xs h) i)) (whole_length xs c.requires.whole)))
