-- The lowest number below n that offends, as `find` of a range answers it. Assumes nothing.
use mathlib.Core.Path.{◌≡◌, sym}
use mathlib.Core.Bool.{Bool, true, false}
use mathlib.Core.List.{List}
use Prim.Native.Nat.{ℕ, ◌<◌}
use denote.Ref.{Bor}
use denote.Param.Members.{Mut}
use Rattle.std.specs.Prelude.{Option, Some, None}
use Rattle.std.specs.declared.ops.Range.{Range}
use Rattle.std.specs.Iterator.{YieldsThen}
use Rattle.std.specs.List.{FoldsTo}
use Rattle.std.specs.Fn.{CalledAt}
use Rattle.std.specs.Option.{MatchOption}
use Rattle.std.specs.Bool.{⊤}
use Rattle.std.proofs.iter.Yields.{nat_range_steps}
use Rattle.ranges.proofs.Tests.{first_below}
use Rattle.tables.specs.Answers.{lowest}
use Rattle.tables.proofs.Table.{nowhere_lowest, at_lowest}

pub lowest_below : {F : Type 0} {n : ℕ} (u : Range ℕ) (f : F) {g : Mut F (Bor ℕ × Unit {0}) Bool} (test : ℕ → Bool) (r : Option ℕ)
    → (xs : List ℕ) × (j : F) × YieldsThen nat_range_steps (record { start = 0; end = n }) xs r u × FoldsTo (λ p x q. CalledAt g p x false q) f xs j × MatchOption r ⊤ (λ x. (h : F) × CalledAt g j x true h)
    → ((x : ℕ) (b : Bool) (q : F) → CalledAt g f x b q → (q ≡ f) × (b ≡ test x)) → r ≡ lowest n test
lowest_below {n = n} u f test r d c = by r (first_below u f test r d c)
  where
    by : (o : Option ℕ) → MatchOption o ((k : ℕ) → k < n → test k ≡ false) (λ i. (i < n) × (test i ≡ true) × ((k : ℕ) → k < i → test k ≡ false)) → o ≡ lowest n test
    by None h = sym (nowhere_lowest test n h)
    by (Some i) h = sym (at_lowest test n i h.0 h.1 h.2)
