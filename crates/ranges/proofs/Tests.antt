-- `all`, `any` and `find` of a range of numbers, as the tests of every and of some number below n. The test is a closure that computes f of
-- each number and changes nothing. Assumes nothing.
use mathlib.Core.Path.{◌≡◌, refl, sym, subst}
use mathlib.Core.Bool.{Bool, true, false}
use mathlib.Core.List.{List}
use Prim.Native.Nat.{ℕ, ◌+◌, ◌-◌, ◌≤◌, ◌<◌}
use native.Mathlib.Omega.{arith}
use lib.ListN.{length, get_or}
use denote.Ref.{Bor}
use denote.Param.Members.{Mut}
use Rattle.std.specs.declared.option.Option.{Option}
use Rattle.std.specs.declared.option.Option.TheVariants.{None, Some}
use Rattle.std.specs.declared.ops.Range.{Range}
use Rattle.std.specs.Iterator.{YieldsThen}
use Rattle.std.specs.List.{FoldsTo, range_with_len, AllWithin, HoldsAt}
use Rattle.std.specs.Fn.{Called, CalledAt}
use Rattle.std.specs.Option.{MatchOption}
use Rattle.std.specs.Bool.{MatchBool, ⊤}
use Rattle.std.proofs.iter.Yields.{nat_range_steps}
use Rattle.std.proofs.lemmas.Iterator.{YieldsList-from_range, cases_from_all, cases_from_any, first_from_Range}
use Rattle.std.proofs.lemmas.List.FromFn.{length-range_with_len, get_or-range_with_len}
use Rattle.algebra.specs.Tests.{all_to, any_to}
use Rattle.algebra.proofs.Tests.{all_of, all_fails, any_at, any_no}

module _ (s : Range ℕ) where
  abbrev items : List ℕ
  items = range_with_len s.start (s.end - s.start)

  long : length items ≡ s.end - s.start
  long = length-range_with_len s.start (s.end - s.start)

  item : (k : ℕ) → k < s.end - s.start → get_or items k 0 ≡ s.start + k
  item k l = get_or-range_with_len s.start (s.end - s.start) k 0 l

  -- what holds at each place of the range holds of each number of it
  within : (P : ℕ → Type 0) → AllWithin P items 0 (length items) → (k : ℕ) → s.start ≤ k → k < s.end → P k
  within P h k a b = subst P {x = get_or items (k - s.start) 0} {y = k} (omega (arith, item (k - s.start) (omega arith))) (h (k - s.start) 0 (omega arith) (omega (arith, long)))

  one : (P : ℕ → Type 0) → ((k : ℕ) × (k < length items) × HoldsAt P items k) → (k : ℕ) × (s.start ≤ k) × (k < s.end) × P k
  one P h = (s.start + h.0, omega arith, omega (arith, h.1, long), subst P (item h.0 (omega (arith, h.1, long))) (h.2 0))

module _ {F : Type 0} {s : Range ℕ} (u : Range ℕ) (f : F) (r : Bool) {g : Mut F (ℕ × Unit {0}) Bool} (test : ℕ → Bool) where
  -- every number of the range passes, or one of them does not
  pub all_within : (xs : List ℕ) × (o : Option ℕ) × (j : F) × YieldsThen nat_range_steps s xs o u × FoldsTo (λ p x q. Called g p (x, tt) true q) f xs j × MatchOption o (r ≡ true) (λ x. (r ≡ false) × ((h : F) × Called g j (x, tt) false h)) → ((x : ℕ) (b : Bool) (q : F) → Called g f (x, tt) b q → (q ≡ f) × (b ≡ test x))
      → MatchBool r ((k : ℕ) → s.start ≤ k → k < s.end → test k ≡ true) ((k : ℕ) × (s.start ≤ k) × (k < s.end) × (test k ≡ false))
  all_within d c = by r (cases_from_all u f r (λ y. test y ≡ true) (λ y. test y ≡ false) d (YieldsList-from_range s.start s.end _ refl refl) (λ x q k. ((c x true q k).0, sym (c x true q k).1)) (λ x q k. sym (c x false q k).1))
    where
      by : (b : Bool) → MatchBool b (AllWithin (λ y. test y ≡ true) (items s) 0 (length (items s))) ((k : ℕ) × (k < length (items s)) × HoldsAt (λ y. test y ≡ false) (items s) k)
          → MatchBool b ((k : ℕ) → s.start ≤ k → k < s.end → test k ≡ true) ((k : ℕ) × (s.start ≤ k) × (k < s.end) × (test k ≡ false))
      by true h = within s (λ y. test y ≡ true) h
      by false h = one s (λ y. test y ≡ false) h

  -- some number of the range passes, or none does
  pub any_within : (xs : List ℕ) × (o : Option ℕ) × (j : F) × YieldsThen nat_range_steps s xs o u × FoldsTo (λ p x q. Called g p (x, tt) false q) f xs j × MatchOption o (r ≡ false) (λ x. (r ≡ true) × ((h : F) × Called g j (x, tt) true h)) → ((x : ℕ) (b : Bool) (q : F) → Called g f (x, tt) b q → (q ≡ f) × (b ≡ test x))
      → MatchBool r ((k : ℕ) × (s.start ≤ k) × (k < s.end) × (test k ≡ true)) ((k : ℕ) → s.start ≤ k → k < s.end → test k ≡ false)
  any_within d c = by r (cases_from_any u f r (λ y. test y ≡ true) (λ y. test y ≡ false) d (YieldsList-from_range s.start s.end _ refl refl) (λ x q k. sym (c x true q k).1) (λ x q k. ((c x false q k).0, sym (c x false q k).1)))
    where
      by : (b : Bool) → MatchBool b ((k : ℕ) × (k < length (items s)) × HoldsAt (λ y. test y ≡ true) (items s) k) (AllWithin (λ y. test y ≡ false) (items s) 0 (length (items s)))
          → MatchBool b ((k : ℕ) × (s.start ≤ k) × (k < s.end) × (test k ≡ true)) ((k : ℕ) → s.start ≤ k → k < s.end → test k ≡ false)
      by true h = one s (λ y. test y ≡ true) h
      by false h = within s (λ y. test y ≡ false) h

module _ {F : Type 0} {n : ℕ} {u : Range ℕ} {f : F} {r : Bool} {g : Mut F (ℕ × Unit {0}) Bool} (test : ℕ → Bool) where
  pub all_below : (xs : List ℕ) × (o : Option ℕ) × (j : F) × YieldsThen nat_range_steps (record { start = 0; end = n }) xs o u × FoldsTo (λ p x q. Called g p (x, tt) true q) f xs j × MatchOption o (r ≡ true) (λ x. (r ≡ false) × ((h : F) × Called g j (x, tt) false h))
      → ((x : ℕ) (b : Bool) (q : F) → Called g f (x, tt) b q → (q ≡ f) × (b ≡ test x)) → r ≡ all_to n test
  all_below d c = by r (all_within u f r test d c)
    where
      by : (b : Bool) → MatchBool b ((k : ℕ) → 0 ≤ k → k < n → test k ≡ true) ((k : ℕ) × (0 ≤ k) × (k < n) × (test k ≡ false)) → b ≡ all_to n test
      by true h = sym (all_of test n (λ k l. h k (omega arith) l))
      by false h = sym (all_fails test n h.0 h.2 h.3)

  pub any_below : (xs : List ℕ) × (o : Option ℕ) × (j : F) × YieldsThen nat_range_steps (record { start = 0; end = n }) xs o u × FoldsTo (λ p x q. Called g p (x, tt) false q) f xs j × MatchOption o (r ≡ false) (λ x. (r ≡ true) × ((h : F) × Called g j (x, tt) true h))
      → ((x : ℕ) (b : Bool) (q : F) → Called g f (x, tt) b q → (q ≡ f) × (b ≡ test x)) → r ≡ any_to n test
  any_below d c = by r (any_within u f r test d c)
    where
      by : (b : Bool) → MatchBool b ((k : ℕ) × (0 ≤ k) × (k < n) × (test k ≡ true)) ((k : ℕ) → 0 ≤ k → k < n → test k ≡ false) → b ≡ any_to n test
      by true h = sym (any_at test n h.0 h.2 h.3)
      by false h = sym (any_no test n (λ k l. h k (omega arith) l))

-- the lowest number of the range that passes, or none of them does
pub first_below : {F : Type 0} {n : ℕ} (u : Range ℕ) (f : F) {g : Mut F (Bor ℕ × Unit {0}) Bool} (test : ℕ → Bool) (r : Option ℕ)
    → (xs : List ℕ) × (j : F) × YieldsThen nat_range_steps (record { start = 0; end = n }) xs r u × FoldsTo (λ p x q. CalledAt g p x false q) f xs j × MatchOption r ⊤ (λ x. (h : F) × CalledAt g j x true h)
    → ((x : ℕ) (b : Bool) (q : F) → CalledAt g f x b q → (q ≡ f) × (b ≡ test x))
    → MatchOption r ((k : ℕ) → k < n → test k ≡ false) (λ i. (i < n) × (test i ≡ true) × ((k : ℕ) → k < i → test k ≡ false))
first_below {n = n} u f test r d c = by r (first_from_Range (record { start = 0; end = n }) u f r (λ y. test y ≡ true) (λ y. test y ≡ false) d (λ x q k. sym (c x true q k).1) (λ x q k. ((c x false q k).0, sym (c x false q k).1)))
  where
    by : (o : Option ℕ) → MatchOption o ((k : ℕ) → 0 ≤ k → k < n → test k ≡ false) (λ i. (0 ≤ i) × (i < n) × (test i ≡ true) × ((k : ℕ) → 0 ≤ k → k < i → test k ≡ false))
        → MatchOption o ((k : ℕ) → k < n → test k ≡ false) (λ i. (i < n) × (test i ≡ true) × ((k : ℕ) → k < i → test k ≡ false))
    by None h = λ k l. h k (omega arith) l
    by (Some i) h = (h.1, h.2, λ k l. h.3 k (omega arith) l)
