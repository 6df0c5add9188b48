-- The least number of a later pair of two that cross, as the sweep keeps it. Assumes nothing.
use mathlib.Core.Bool.{Bool, true, false, false≢true}
use mathlib.Core.List.{List}
use mathlib.Core.Path.{◌≡◌, refl, sym, ap, ap₂, ◌∙◌, subst}
use Prim.Native.Nat.{ℕ, ◌+◌, ◌*◌, ◌≤◌, ◌<◌, max}
use native.Mathlib.Decide.{dec_lt}
use native.Mathlib.Omega.{arith}
use borrow.Author.Tests.{le-ltb, lt-ltb}
use borrow.Author.Count.{below_more}
use lib.IntN.{ℤ}
use Rattle.algebra.proofs.Tests.{by_test, any_at, any_found}
use Rattle.tables.specs.Answers.{lowest}
use Rattle.std.specs.Prelude.{Option, Some, None, unwrap_or}
use Rattle.std.specs.Option.{MatchOption}
use Rattle.std.specs.Bool.{⊤}
use Rattle.tables.specs.Data.{point_count, pair_count, end_a, end_b, point}
use Rattle.tables.specs.Figures.{Figure}
use Rattle.tables.specs.Refusals.{crosses, crossing}
use Rattle.tables.proofs.Table.{nowhere_lowest, at_lowest}
use Rattle.crossings.proofs.Order.{crosses_turned, begins_after, begins_within}
use Rattle.pair_checks.specs.Ends.{Ends}
use Rattle.pair_orders.specs.Rows.{begin, from, up_to, number, Row}
use Rattle.sweeps.specs.Least.{meet, lowered, Found, Tried, Swept, Together}

-- ---- pairs that begin together

module _ (w : List ℕ) (at : ℕ) where
  pub together_next : (p e : ℕ) → Together w at p e → Together w at (p + 1) e
  together_next p e o t h g = o t (omega arith) g ∙ sym (o (p + 1) (omega arith) (omega arith))

  behind : (p n : ℕ) → ((k : ℕ) → p + 1 ≤ k → k < n → from w at k ≡ from w at p) → Together w at p n
  behind p n s t h g = by_place (dec_lt p t)
    where
      by_place : Dec (p < t) → from w at t ≡ from w at p
      by_place (yes l) = s t (omega arith) g
      by_place (no l) = let e : t ≡ p = omega arith in rw e

  -- The first place behind p whose pair begins elsewhere, or the row's end, is the end of those that begin with the pair at p.
  pub together_until : (m p : ℕ) (o : Option ℕ) {e : ℕ} → p < m → e ≡ unwrap_or o m
      → MatchOption o ((k : ℕ) → p + 1 ≤ k → k < m → from w at k ≡ from w at p) (λ i. (p + 1 ≤ i) × (i < m) × ⊤ × ((k : ℕ) → p + 1 ≤ k → k < i → from w at k ≡ from w at p))
      → (p < e) × (e ≤ m) × Together w at p e
  together_until m p None h i s = subst (λ e. (p < e) × (e ≤ m) × Together w at p e) (sym i) (h, omega arith, behind p m s)
  together_until m p (Some q) h i s = subst (λ e. (p < e) × (e ≤ m) × Together w at p e) (sym i) (omega (arith, s.0), omega (arith, s.1), behind p q s.3)

-- ---- what a try answers

module _ (ps : List ℤ) (qs : List ℕ) (a b j k least : ℕ) where
  abbrev cross : Bool
  cross = crosses (point ps a) (point ps b) (point ps (end_a qs k)) (point ps (end_b qs k))

  not_tried : least ≤ k → least ≡ lowered ps qs a b j k least
  not_tried h = rw (le-ltb k least h)

  lower : {t : Bool} {r : ℕ} → k < least → t ≡ cross → t ≡ true → r ≡ max j k → r ≡ lowered ps qs a b j k least
  lower h e i l = rw (lt-ltb k least h, sym e ∙ i) l

  not_lower : {t : Bool} → k < least → t ≡ cross → t ≡ false → least ≡ lowered ps qs a b j k least
  not_lower h e i = rw (lt-ltb k least h, sym e ∙ i)

-- ---- the pair at one place of the row, tried with those behind it

-- The pair at p is tried with those behind it and before q, and the number kept was `bound` when that began.
pub record State (ps : List ℤ) (qs : List ℕ) (at : ℕ) (w : List ℕ) (p q bound kept : ℕ) : Type 0 where
  pub found : Found ps qs kept
  pub low : kept ≤ bound
  pub high : number w at p ≤ kept
  pub tried : Tried ps qs at w p q kept

module _ (ps : List ℤ) (qs : List ℕ) (at : ℕ) (w : List ℕ) where
  -- A pair whose number is not below the least needs no try.
  pub tried_none : (p least : ℕ) → least ≤ number w at p → Tried ps qs at w p (pair_count qs) least
  tried_none p least h t a b e = omega arith

  pub swept_none : (least : ℕ) → Swept ps qs at w 0 least
  swept_none least s h = absurd (omega arith)

  -- The number falls, so what held of it at the places before holds still.
  pub swept_more : (p least r : ℕ) → Swept ps qs at w p least → r ≤ least → Tried ps qs at w p (pair_count qs) r → Swept ps qs at w (p + 1) r
  swept_more p least r o h x =
      below_more (λ s. Tried ps qs at w s (pair_count qs) r) p (λ s g t a b e. let y = o s g t a b e in omega arith) x

pub found_none : (ps : List ℤ) (qs : List ℕ) → Found ps qs (pair_count qs)
found_none ps qs = record { within = omega arith; crossed = λ h. absurd (omega arith) }

module _ (ps : List ℤ) (qs : List ℕ) (fig : Figure ps) (good : Ends ps qs) where
  abbrev m : ℕ
  m = pair_count qs

  a_point : (k : ℕ) → k < m → end_a qs k < point_count ps
  a_point k h = good (2 * k) (omega arith)

  b_point : (k : ℕ) → k < m → end_b qs k < point_count ps
  b_point k h = good (2 * k + 1) (omega arith)

  meet_turned : (j k : ℕ) → meet ps qs j k ≡ meet ps qs k j
  meet_turned j k = crosses_turned (point ps (end_a qs j)) (point ps (end_b qs j)) (point ps (end_a qs k)) (point ps (end_b qs k))

  -- The later of two pairs that cross crosses one before it.
  later_crosses : (j k : ℕ) → ¬ (j ≡ k) → meet ps qs j k ≡ true → crossing ps qs (max j k) ≡ true
  later_crosses j k d e = go (dec_lt j k)
    where
      go : Dec (j < k) → crossing ps qs (max j k) ≡ true
      go (yes h) = let i : max j k ≡ k = omega arith in rw i (any_at (λ i. meet ps qs i k) k j h e)
      go (no h) = let i : max j k ≡ j = omega arith in rw i (any_at (λ i. meet ps qs i j) j k (omega arith) (meet_turned k j ∙ e))

  module _ (at : ℕ) (w : List ℕ) (row : Row ps qs at w) where
    abbrev num : ℕ → ℕ
    num = number w at

    -- Of two pairs that cross, the one that stands behind the other begins between the other's ends.
    module _ (p t : ℕ) (h : p < t) (l : t < m) (e : meet ps qs (num p) (num t) ≡ true) where
      after : from w at p < from w at t
      after =
          let i = row.small p (omega arith) in
          let j = row.small t l in
          let x = row.begins p (omega arith) in
          let y = row.begins t l in
          let z = row.rising p t (omega arith) l in
          let u =
          begins_after ps fig (end_a qs (num p)) (end_b qs (num p)) (end_a qs (num t)) (end_b qs (num t)) (a_point (num p) i) (b_point (num p) i)
          (a_point (num t) j) (b_point (num t) j) e (omega arith) in
          omega arith

      inside : from w at t < up_to w at p
      inside =
          let i = row.small p (omega arith) in
          let j = row.small t l in
          let x = row.stops p (omega arith) in
          let y = row.begins t l in
          let u =
          begins_within ps fig (end_a qs (num p)) (end_b qs (num p)) (end_a qs (num t)) (end_b qs (num t)) (a_point (num p) i) (b_point (num p) i)
          (a_point (num t) j) (b_point (num t) j) e in
          omega arith

      other : ¬ (num p ≡ num t)
      other d =
          let x = row.begins p (omega arith) in
          let y = row.begins t l in
          let z = ap (begin ps qs) d in
          let u = after in
          omega arith

    -- Those that begin where it does do not cross it.
    pub state_start : (p q least : ℕ) → q ≤ m → Together w at p q → Found ps qs least → num p < least → State ps qs at w p q least least
    state_start p q least l o f h = record {
      found = f;
      low = omega arith;
      high = omega arith;
      tried = λ t g i e. let a = after p t g (omega arith) e in let b = o t (omega arith) i in absurd (omega arith);
    }

    module _ (p q bound kept : ℕ) (h : p < q) (l : q < m) (o : State ps qs at w p q bound kept) where
      abbrev j : ℕ
      j = num p

      abbrev k : ℕ
      k = num q

      more : (r : ℕ) → r ≤ kept → j ≤ r → Found ps qs r → (meet ps qs j k ≡ true → r ≤ max j k) → State ps qs at w p (q + 1) bound r
      more r u v f g =
          let x = o.low in
          record {
            found = f;
            low = omega arith;
            high = v;
            tried = λ t a b e.
                below_more (λ t. p < t → meet ps qs j (num t) ≡ true → r ≤ max j (num t)) q (λ t b a e. let y = o.tried t a b e in omega arith)
                (λ _. g) t b a e;
          }

      same : (meet ps qs j k ≡ true → kept ≤ max j k) → State ps qs at w p (q + 1) bound kept
      same g = more kept (omega arith) o.high o.found g

      -- The number of the later pair takes the place of one that is above k, and of one that is at least j.
      change : k < kept → meet ps qs j k ≡ true → State ps qs at w p (q + 1) bound (max j k)
      change d e =
          let x = o.high in
          let y = row.small p (omega arith) in
          let z = row.small q l in
          more (max j k) (omega arith) (omega arith)
          (record { within = omega arith; crossed = λ _. later_crosses j k (other p q h l e) e })
          (λ _. omega arith)

      pub state_more : (r : ℕ) → r ≡ lowered ps qs (end_a qs j) (end_b qs j) j k kept → State ps qs at w p (q + 1) bound r
      state_more r told = go (dec_lt k kept)
        where
          is : {z : ℕ} → z ≡ lowered ps qs (end_a qs j) (end_b qs j) j k kept → State ps qs at w p (q + 1) bound z → State ps qs at w p (q + 1) bound r
          is e x = subst (λ (z : ℕ). State ps qs at w p (q + 1) bound z) (e ∙ sym told) x

          go : Dec (k < kept) → State ps qs at w p (q + 1) bound r
          go (no d) = is (not_tried ps qs (end_a qs j) (end_b qs j) j k kept (omega arith)) (same (λ _. omega arith))
          go (yes d) =
              by_test (meet ps qs j k)
              (λ t. is (lower ps qs (end_a qs j) (end_b qs j) j k kept d refl t refl) (change d t))
              (λ f. is (not_lower ps qs (end_a qs j) (end_b qs j) j k kept d refl f) (same (λ t. absurd (false≢true (sym f ∙ t)))))

    -- Those from q on begin no earlier than the pair at q, so none of them crosses where that one begins at its end or behind it.
    pub state_end : (p q bound kept : ℕ) → p < q → (q < m → up_to w at p ≤ from w at q) → State ps qs at w p q bound kept → Tried ps qs at w p m kept
    state_end p q bound kept h g o t a b e = go (dec_lt t q)
      where
        go : Dec (t < q) → kept ≤ max (num p) (num t)
        go (yes c) = o.tried t a c e
        go (no c) =
            let u = inside p t a b e in
            let v = g (omega arith) in
            let z = row.rising q t (omega arith) b in
            absurd (omega arith)

    -- ---- the answer: no pair below the least crosses one before it

    module _ (least : ℕ) (f : Found ps qs least) (o : Swept ps qs at w m least) where
      none_below : (k : ℕ) → k < m → k < least → crossing ps qs k ≡ false
      none_below k l h = by_test (crossing ps qs k) (λ t. absurd (found (any_found (λ j. meet ps qs j k) k t))) (λ e. e)
        where
          found : (j : ℕ) × (j < k) × (meet ps qs j k ≡ true) → ⊥
          found x = go (dec_lt s.0 t.0)
            where
              s : (p : ℕ) × (p < m) × (num p ≡ x.0)
              s = row.placed x.0 (let a = x.1 in omega arith)

              t : (p : ℕ) × (p < m) × (num p ≡ k)
              t = row.placed k l

              both : (p q : ℕ) {i j : ℕ} → num p ≡ i → num q ≡ j → meet ps qs i j ≡ true → meet ps qs (num p) (num q) ≡ true
              both p q d e i = ap₂ (meet ps qs) d e ∙ i

              go : Dec (s.0 < t.0) → ⊥
              go (yes d) =
                  let a = o s.0 s.1 t.0 d t.1 (both s.0 t.0 s.2 t.2 x.2) in
                  let b = x.1 in let c = s.2 in let e = t.2 in omega arith
              go (no d) =
                  let b = x.1 in let c = s.2 in let e = t.2 in
                  let i : ¬ (s.0 ≡ t.0) = λ z. let y = ap num z in omega arith in
                  let a = o t.0 t.1 s.0 (omega arith) s.1 (both t.0 s.0 t.2 s.2 (meet_turned k x.0 ∙ x.2)) in
                  omega arith

      pub at_least : least < m → Some least ≡ lowest m (crossing ps qs)
      at_least h = sym (at_lowest (crossing ps qs) m least h (f.crossed h) (λ k i. none_below k (omega arith) i))

      pub at_none : m ≤ least → None ≡ lowest m (crossing ps qs)
      at_none h = sym (nowhere_lowest (crossing ps qs) m (λ k i. none_below k i (omega arith)))
