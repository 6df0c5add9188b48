use Rattle.std.proofs.Common.{rules}
use mathlib.Core.Path.{◌≡◌, sym, ◌∙◌}
use mathlib.Core.Bool.{Bool}
use mathlib.Core.List.{List}
use Prim.Native.Nat.{ℕ, ◌+◌, ◌-◌, ◌*◌, ◌≤◌}
use native.Mathlib.Omega.{arith}
use borrow.Author.Tests.{le-leb}
use lib.IntN.{ℤ}
use Rattle.algebra.specs.Tests.{all_to}
use Rattle.ranges.proofs.Tests.{all_below}
use Rattle.tables.specs.Data.{point_count}
use Rattle.tables.specs.Rules.{triples, corner, proper_triple, rule1}
use Rattle.triple_rules.proofs.triples_proper.Goals as goal
use Rattle.triple_rules.proofs.triples_proper.Goals.{then-count-ge1, else-count-ge1}

abbrev good : List ℤ → List ℕ → ℕ → Bool
good ps xs t = proper_triple ps (corner xs (3 * t)) (corner xs (3 * t + 1)) (corner xs (3 * t + 2))

-- where the count is right, the triples decide
decide : (ps : List ℤ) (xs : List ℕ) → 1 ≤ triples xs → triples xs + 5 ≤ 2 * point_count ps → rule1 ps xs ≡ all_to (triples xs) (good ps xs)
unfolding rule1
decide ps xs l m = simp (le-leb 1 (triples xs) l, le-leb (triples xs) (2 * point_count ps - 5) (omega arith))

pub returns-then-count-n : goal.returns-then-count-n
returns-then-count-n c = let ps = c.args.points.now in
    let xs = c.args.list.now in
    all_below (good ps xs) c.all.ensures.ran (λ x b q k. search rules) ∙ sym (decide ps xs (grind arith) (grind arith))
