-- The row of the pairs' items once it is sorted. Assumes nothing.
use mathlib.Core.List.{List}
use mathlib.Core.Path.{◌≡◌, sym, ◌∙◌}
use Prim.Native.Nat.{ℕ, ◌+◌, ◌*◌, ◌/◌, ◌≤◌, ◌<◌}
use native.Mathlib.Omega.{arith}
use lib.IntN.{ℤ}
use lib.ListN.{length, get_or}
use Rattle.sorts.specs.Items.{item, Sorted}
use Rattle.sorts.proofs.Rows.{carried, rising_pairs, words}
use Rattle.rooms.specs.Rest.{Rest}
use Rattle.tables.specs.Data.{pair_count}
use Rattle.pair_orders.specs.Rows.{begin, stop, from, up_to, number, Filled, Row}

-- ---- the row once it is sorted

abbrev Words : List ℕ → Type 0
Words w = (i : ℕ) → get_or w i 0 < 4294967296

-- Items compare first word first.
first_le : (w : List ℕ) (p q : ℕ) → Words w → item w p ≤ item w q → get_or w p 0 ≤ get_or w q 0
unfolding item
first_le w p q b h = omega (arith, b (p + 1), b (p + 2), b (q + 1), b (q + 2))

module _ (ps : List ℤ) (qs : List ℕ) (at tmp : ℕ) (w w1 w2 : List ℕ) (f : Filled ps qs at (pair_count qs) w w1) (s : Sorted w1 at (pair_count qs) tmp w2)
    (b1 : Words w1) (b2 : Words w2) where
  abbrev m : ℕ
  m = pair_count qs

  -- The item at place p is the item of the pair whose number it has.
  record IsPair (p : ℕ) : Type 0 where
    low : number w2 at p < m
    first : from w2 at p ≡ begin ps qs (number w2 at p)
    second : up_to w2 at p ≡ stop ps qs (number w2 at p)

  is_pair_lem : (p : ℕ) → p < m → IsPair p
  is_pair_lem p h =
      let o = carried w1 w2 at at m s.same p h in
      let e = words w2 w1 (at + 3 * p) (at + 3 * o.k) b2 b1 (sym o.here) in
      let j : number w2 at p ≡ o.k = e.2 ∙ f.numbers o.k o.in_row in
      let l = o.in_row in
      record {
        low = omega arith;
        first = rw j (e.0 ∙ f.begins o.k l);
        second = rw j (e.1 ∙ f.stops o.k l);
      }

  pub sorted_row : Row ps qs at w2
  sorted_row = record {
    small = λ p h. (is_pair_lem p h).low;
    begins = λ p h. (is_pair_lem p h).first;
    stops = λ p h. (is_pair_lem p h).second;
    rising = λ p q h g. first_le w2 (at + 3 * p) (at + 3 * q) b2 (rising_pairs w2 at m s.rising p q h g);
    placed = λ k h.
        let o = carried w2 w1 at at m (λ x. sym (s.same x)) k h in
        let e = words w2 w1 (at + 3 * o.k) (at + 3 * k) b2 b1 o.here in
        (o.k, o.in_row, e.2 ∙ f.numbers k h);
  }

-- The items and the room for the sort end at a place, and from there on every place keeps its word.
pub left_alone : {ps : List ℤ} {qs : List ℕ} {at tmp : ℕ} {w w1 w2 : List ℕ} (end : ℕ) → Filled ps qs at (pair_count qs) w w1 → Sorted w1 at (pair_count qs) tmp w2 →
    at + 3 * pair_count qs ≤ end → tmp + 3 * (pair_count qs / 2) ≤ end → length w2 ≡ length w → Rest end w w2
left_alone end f s h g l = record { size = l; same = λ p i. s.above p (omega arith) ∙ f.above p (omega arith) }
