-- What the sweep keeps on its way along the row of the pairs: the least number of a later pair of two that cross. Definitions only.
use Rattle.std.specs.Prelude.{Bool, true, cond, ◌&&◌, List, ◌≡◌, ℕ, ◌<◌, ◌≤◌, max, ltb, ℤ}
use Rattle.tables.specs.Data.{pair_count, point, end_a, end_b}
use Rattle.tables.specs.Refusals.{crosses, crossing}
use Rattle.pair_orders.specs.Rows.{from, number}

-- The segments of the pairs j and k cross properly.
abbrev pub meet : List ℤ → List ℕ → ℕ → ℕ → Bool
meet ps qs j k = crosses (point ps (end_a qs j)) (point ps (end_b qs j)) (point ps (end_a qs k)) (point ps (end_b qs k))

-- The number after pair j, from a to b, is tried with pair k. That of the later pair takes its place where they cross and k is below it.
abbrev pub lowered : List ℤ → List ℕ → ℕ → ℕ → ℕ → ℕ → ℕ → ℕ
lowered ps qs a b j k least = cond (ltb k least && crosses (point ps a) (point ps b) (point ps (end_a qs k)) (point ps (end_b qs k))) (max j k) least

-- The number is that of a pair that crosses one before it, or the number of the pairs.
pub record Found (ps : List ℤ) (qs : List ℕ) (least : ℕ) : Type 0 where
  pub within : least ≤ pair_count qs
  pub crossed : least < pair_count qs → crossing ps qs least ≡ true

-- The number is at most that of the later pair, for each pair that crosses the pair at place p and stands behind it and before q.
abbrev pub Tried : List ℤ → List ℕ → ℕ → List ℕ → ℕ → ℕ → ℕ → Type 0
Tried ps qs at w p q least =
    (t : ℕ) → p < t → t < q → meet ps qs (number w at p) (number w at t) ≡ true → least ≤ max (number w at p) (number w at t)

-- That holds at each place before p, of all pairs that stand behind it.
abbrev pub Swept : List ℤ → List ℕ → ℕ → List ℕ → ℕ → ℕ → Type 0
Swept ps qs at w p least = (s : ℕ) → s < p → Tried ps qs at w s (pair_count qs) least

-- The pairs at the places from p on and before e begin together.
abbrev pub Together : List ℕ → ℕ → ℕ → ℕ → Type 0
Together w at p e = (t : ℕ) → p ≤ t → t < e → from w at t ≡ from w at p
