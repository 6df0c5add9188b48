use mathlib.Core.Path.{◌≡◌, sym, ap, ap₂, ◌∙◌}
use mathlib.Core.Bool.{Bool, ◌||◌}
use mathlib.Core.List.{List}
use Prim.Native.Nat.{ℕ}
use lib.ListN.{length}
use Rattle.algebra.specs.Tests.{any_to}
use Rattle.algebra.proofs.Tests.{any_or}
use Rattle.tables.specs.Rules.{edge_is}
use Rattle.pair_rules.proofs.mark_both.Goals as goal

-- the two answers as one
either : (xs : List ℕ) (u v : ℕ) (a b : Bool) → a ≡ any_to (length xs) (λ h. edge_is xs h u v) → b ≡ any_to (length xs) (λ h. edge_is xs h v u)
    → (a || b) ≡ any_to (length xs) (λ h. edge_is xs h u v || edge_is xs h v u)
either xs u v a b e f = ap₂ (λ (x y : Bool). x || y) e f ∙ sym (any_or (λ h. edge_is xs h u v) (λ h. edge_is xs h v u) (length xs))

pub returns-then-there-clause-found : goal.returns-then-there-clause-found
returns-then-there-clause-found c =
    let t = c.if-there.true in
    t ∙ sym (ap (λ (b : Bool). b || c.mark-back.result) t)
    ∙ either c.args.list.now c.args.u c.args.v c.mark-there.result c.mark-back.result c.mark-there.ensures.found c.mark-back.ensures.found

pub returns-else-there-clause-found : goal.returns-else-there-clause-found
returns-else-there-clause-found c =
    sym (ap (λ (b : Bool). b || c.mark-back.result) c.if-there.false)
    ∙ either c.args.list.now c.args.u c.args.v c.mark-there.result c.mark-back.result c.mark-there.ensures.found c.mark-back.ensures.found
