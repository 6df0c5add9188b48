-- Where no two points are equal, the place of a point's item in the sorted row is the point's rank. Assumes nothing.
use mathlib.Core.List.{List}
use mathlib.Core.Logic.{inl, inr}
use mathlib.Core.Path.{◌≡◌, sym, ap, ◌∙◌}
use Prim.Native.Nat.{ℕ, zero, suc, ◌+◌, ◌-◌, ◌*◌, ◌≤◌, ◌<◌}
use native.Mathlib.Omega.{arith}
use lib.IntN.{ℤ, nat_abs}
use lib.ListN.{length, get_or}
use lib.Dec.{T}
use Rattle.sorts.specs.Items.{item, Sorted}
use Rattle.sorts.proofs.Rows.{Apart, carried, apart_kept, rising_strict, words}
use Rattle.signs.specs.Answers.{limit}
use Rattle.tables.specs.Data.{point_count, point}
use Rattle.tables.specs.Figures.{Figure}
use Rattle.tables.specs.Rules.{before, rank}
use Rattle.tables.proofs.Ranks.{rank_lt, reads_before, Before, Order, less, equal, more, order}
use Rattle.tables.proofs.Table.{T_true, near_point, all_differ}
use Rattle.nets.specs.Layout.{rank_cell}
use Rattle.nets.proofs.Figures.{rank_below}
use Rattle.ranks.specs.Items.{word, number, Filled, Numbered, Marked}
use Rattle.ranks.specs.Ranked.{at_rank, Ordered, Ranked}
use Rattle.ranks.proofs.Words.{word_small, word_up}

-- ---- n numbers below n that rise are 0 to n - 1

module _ (n : ℕ) (f : ℕ → ℕ) (up : (k : ℕ) → k + 1 < n → f k < f (k + 1)) (small : (k : ℕ) → k < n → f k < n) where
  low : (k : ℕ) → k < n → k ≤ f k
  low zero h = omega arith
  low (suc k) h = let e : suc k ≡ k + 1 = omega arith in rw e (omega (arith, low k (omega arith), up k (omega arith)))

  high : (k d : ℕ) → k + d < n → f k + d ≤ f (k + d)
  high k zero h = let e : k + 0 ≡ k = omega arith in rw e (omega arith)
  high k (suc d) h = let e : k + suc d ≡ k + d + 1 = omega arith in rw e (omega (arith, high k d (omega arith), up (k + d) (omega arith)))

  pub squeezed : (k : ℕ) → k < n → f k ≡ k
  squeezed k h =
      let d = n - 1 - k in
      let a = high k d (omega arith) in
      let b = small (k + d) (omega arith) in
      let c = low k h in
      omega arith

-- ---- the items once they are sorted

abbrev Words : List ℕ → Type 0
Words w = (i : ℕ) → get_or w i 0 < 4294967296

-- Item k of the row is the item of the point whose number it has.
record IsPoint (ps : List ℤ) (w : List ℕ) (lo k : ℕ) : Type 0 where
  low : number w lo k < point_count ps
  first : get_or w (lo + 3 * k) 0 ≡ word (point ps (number w lo k)).x
  second : get_or w (lo + 3 * k + 1) 0 ≡ word (point ps (number w lo k)).y

-- The item of point i is item k of the row.
record At (n : ℕ) (w : List ℕ) (lo i : ℕ) : Type 0 where
  k : ℕ
  in_row : k < n
  here : number w lo k ≡ i

module _ (ps : List ℤ) (fig : Figure ps) where
  -- Of two points, the one that is before the other has the lower words.
  words_up : (i j : ℕ) → i < point_count ps → j < point_count ps → Before (point ps i) (point ps j) →
      word (point ps i).x * 4294967296 + word (point ps i).y < word (point ps j).x * 4294967296 + word (point ps j).y
  unfolding point
  words_up i j l m b = go b
    where
      p : (nat_abs (point ps i).x ≤ limit) × (nat_abs (point ps i).y ≤ limit)
      p = near_point ps i (fig.near i l)

      q : (nat_abs (point ps j).x ≤ limit) × (nat_abs (point ps j).y ≤ limit)
      q = near_point ps j (fig.near j m)

      go : Before (point ps i) (point ps j) →
          word (point ps i).x * 4294967296 + word (point ps i).y < word (point ps j).x * 4294967296 + word (point ps j).y
      go (inl h) = omega (arith, word_up (point ps i).x (point ps j).x p.0 q.0 h, word_small (point ps i).y p.1)
      go (inr h) = omega (arith, ap word h.0, word_up (point ps i).y (point ps j).y p.1 q.1 h.1)

  module _ (lo tmp : ℕ) (w w1 w2 : List ℕ) (fits : lo + 3 * point_count ps ≤ tmp) (f : Filled ps lo (point_count ps) w w1) (s : Sorted w1 lo (point_count ps) tmp w2)
      (b1 : Words w1) (b2 : Words w2) where
    abbrev n : ℕ
    n = point_count ps

    is_point : (k : ℕ) → k < n → IsPoint ps w2 lo k
    is_point k h =
        let p = carried w1 w2 lo lo n s.same k h in
        let e = words w2 w1 (lo + 3 * k) (lo + 3 * p.k) b2 b1 (sym p.here) in
        let j : number w2 lo k ≡ p.k = e.2 ∙ f.numbers p.k p.in_row in
        let l = p.in_row in
        record {
          low = omega arith;
          first = rw j (e.0 ∙ f.xs p.k l);
          second = rw j (e.1 ∙ f.ys p.k l);
        }

    at : (i : ℕ) → i < n → At n w2 lo i
    at i h =
        let p = carried w2 w1 lo lo n (λ x. sym (s.same x)) i h in
        let e = words w2 w1 (lo + 3 * p.k) (lo + 3 * i) b2 b1 p.here in
        record { k = p.k; in_row = p.in_row; here = e.2 ∙ f.numbers i h }

    -- No two items are the same, since their numbers differ.
    apart_filled : Apart w1 lo n
    apart_filled a b h g e =
        let z = (words w1 w1 (lo + 3 * a) (lo + 3 * b) b1 b1 e).2 in
        let i = f.numbers a (omega arith) in
        let j = f.numbers b g in
        omega arith

    strict : (k : ℕ) → k + 1 < n → item w2 (lo + 3 * k) < item w2 (lo + 3 * (k + 1))
    strict k h = rising_strict w2 lo n s.rising (apart_kept w1 w2 lo lo n s.same apart_filled) k (k + 1) (omega arith) h

    -- So each item's point is before the next item's.
    next_after : (k : ℕ) → k + 1 < n → T (before (point ps (number w2 lo k)) (point ps (number w2 lo (k + 1))))
    unfolding item
    next_after k h = go (order (point ps (number w2 lo k)) (point ps (number w2 lo (k + 1))))
      where
        p : IsPoint ps w2 lo k
        p = is_point k (omega arith)

        q : IsPoint ps w2 lo (k + 1)
        q = is_point (k + 1) h

        go : Order (point ps (number w2 lo k)) (point ps (number w2 lo (k + 1))) → T (before (point ps (number w2 lo k)) (point ps (number w2 lo (k + 1))))
        go (less t) = t
        go (equal e) =
            let i : number w2 lo k ≡ number w2 lo (k + 1) = all_differ ps n fig.distinct (number w2 lo k) (number w2 lo (k + 1)) p.low q.low e in
            let x = p.first ∙ ap (λ (j : ℕ). word (point ps j).x) i ∙ sym q.first in
            let y = p.second ∙ ap (λ (j : ℕ). word (point ps j).y) i ∙ sym q.second in
            let z = strict k h in
            absurd (omega arith)
        go (more t) =
            let u = words_up (number w2 lo (k + 1)) (number w2 lo k) q.low p.low ((reads_before (point ps (number w2 lo (k + 1))) (point ps (number w2 lo k))).says t) in
            let z = strict k h in
            let a = p.first in
            let b = p.second in
            let c = q.first in
            let d = q.second in
            absurd (omega (arith, b2 (lo + 3 * k + 2), b2 (lo + 3 * (k + 1) + 2)))

    -- The ranks of the items' points rise, so they are the items' places.
    rank_place : (k : ℕ) → k < n → rank ps (number w2 lo k) ≡ k
    rank_place =
        squeezed n (λ k. rank ps (number w2 lo k))
        (λ k h. rank_lt ps (number w2 lo k) (number w2 lo (k + 1)) (is_point k (omega arith)).low (T_true (before (point ps (number w2 lo k)) (point ps (number w2 lo (k + 1)))) (next_after k h)))
        (λ k h. rank_below ps (number w2 lo k) (is_point k h).low)

    pub numbered : Numbered w2 lo n
    numbered = record { small = λ k h. (is_point k h).low; apart = λ a b h g e. sym (rank_place a h) ∙ ap (rank ps) e ∙ rank_place b g }

    pub in_order : (w3 : List ℕ) → Marked w2 lo n n w3 → lo ≡ 32 * n → Ordered ps w3
    in_order w3 m place = record {
      ranks = λ i h.
          let a = at i h in
          let e = a.here in
          let z : rank ps i ≡ a.k = ap (rank ps) (sym e) ∙ rank_place a.k a.in_row in
          ap (λ (j : ℕ). get_or w3 (rank_cell j) 0) (sym e) ∙ m.marked a.k a.in_row ∙ sym z;
      small = λ k h. rw (kept k) (is_point k h).low;
      places = λ k h. ap (rank ps) (kept k) ∙ rank_place k h;
    }
      where
        -- the row stands behind the ranks, so that marking them leaves it
        kept : (k : ℕ) → at_rank n w3 k ≡ number w2 lo k
        kept k = m.above (32 * n + 3 * k + 2) (omega arith) ∙ ap (λ (p : ℕ). get_or w2 (p + 3 * k + 2) 0) (sym place)

    pub ranked : (w3 : List ℕ) → Marked w2 lo n n w3 → length w3 ≡ length w → lo ≡ 32 * n → tmp + 3 * n ≤ 64 * n → Ranked ps w w3
    ranked w3 m long place end =
        record { size = long; ordered = in_order w3 m place; rest = λ p h. m.above p (omega arith) ∙ s.above p (omega arith) ∙ f.above p (omega arith) }
