-- The gathered row, once it is sorted and copied, is the list of the net's triangles in house order. Assumes nothing.
use mathlib.Core.List.{List}
use mathlib.Core.Path.{◌≡◌, sym, ◌∙◌}
use Prim.Native.Nat.{ℕ, zero, suc, ◌+◌, ◌*◌, ◌/◌, ◌%◌, ◌≤◌, ◌<◌}
use native.Mathlib.Decide.{dec_lt}
use native.Mathlib.Omega.{arith}
use lib.ListN.{length, get_or, take, length-take, get_or-eq_default}
use lib.Seq.{get_or-take}
use Rattle.sorts.specs.Items.{item, times, Sorted}
use Rattle.nets.specs.Layout.{cell, net_of}
use Rattle.nets.specs.Location.{least, second, third}
use Rattle.nets.specs.Tilings.{tri}
use Rattle.sheets.specs.Steps.{of_slot, Gathered, Copied}
use Rattle.sheets.specs.Sheets.{triple, turned, Listed}
use Rattle.sheets.proofs.Triples.{turned_at, item_same, times_same}

-- ---- the corners of a slot

corner_at : (w : List ℕ) (T t j : ℕ) → j < 3 → (net_of w T).org (3 * t + j) ≡ get_or w (16 * t + j) 0
unfolding net_of cell
corner_at w T t j h = let e : 16 * ((3 * t + j) / 3) + 0 + (3 * t + j) % 3 ≡ 16 * t + j = omega arith in rw e

of_slot_lem : (f : ℕ → ℕ → ℕ → ℕ) (w : List ℕ) (T t : ℕ) → tri (λ u. u) (net_of w T) f t ≡ of_slot f w t
of_slot_lem f w T t =
    let a : 3 * t + 0 ≡ 3 * t = omega arith in
    let b : 16 * t + 0 ≡ 16 * t = omega arith in
    let z : (net_of w T).org (3 * t) ≡ get_or w (16 * t) 0 = rw (a, b) at (corner_at w T t 0 (omega arith)) in
    rw (z, corner_at w T t 1 (omega arith), corner_at w T t 2 (omega arith))

module _ (w : List ℕ) (lo T : ℕ) (w1 : List ℕ) (g : Gathered w lo T w1) where
  -- The gathered row is the list of the turned triples.
  row_at : (t j : ℕ) → t < T → j < 3 → get_or w1 (lo + 3 * t + j) 0 ≡ get_or (triple (net_of w T) t) j 0
  row_at t zero h k = let e : lo + 3 * t + 0 ≡ lo + 3 * t = omega arith in rw e (g.firsts t h ∙ sym (of_slot_lem least w T t))
  row_at t (suc zero) h k = g.seconds t h ∙ sym (of_slot_lem second w T t)
  row_at t (suc (suc zero)) h k = g.thirds t h ∙ sym (of_slot_lem third w T t)
  row_at t (suc (suc (suc j))) h k = absurd (omega arith)

  row_same : (x : ℕ) → times w1 lo T x ≡ times (turned (net_of w T) T) 0 T x
  row_same =
      times_same (turned (net_of w T) T) w1 0 lo T
      (λ t j h k. let e : 0 + 3 * t + j ≡ 3 * t + j = omega arith in row_at t j h k ∙ rw e (sym (turned_at (net_of w T) T t j h k)))

  module _ (tmp : ℕ) (w2 out out' : List ℕ) (s : Sorted w1 lo T tmp w2) (c : Copied w2 lo (3 * T) out out')
      (long : 3 * T ≤ length out') (small : (p : ℕ) → get_or out' p 0 < 4294967296) where
    abbrev xs : List ℕ
    xs = take (3 * T) out'

    taken_at : (p : ℕ) → p < 3 * T → get_or xs p 0 ≡ get_or w2 (lo + p) 0
    taken_at p h = get_or-take (3 * T) out' p 0 h ∙ c.put p h

    list_at : (t j : ℕ) → t < T → j < 3 → get_or xs (0 + 3 * t + j) 0 ≡ get_or w2 (lo + 3 * t + j) 0
    list_at t j h k =
        let a : 0 + 3 * t + j ≡ 3 * t + j = omega arith in
        let b : lo + 3 * t + j ≡ lo + (3 * t + j) = omega arith in
        rw (a, b) (taken_at (3 * t + j) (omega arith))

    list_item : (t : ℕ) → t < T → item xs (0 + 3 * t) ≡ item w2 (lo + 3 * t)
    list_item t h = item_same w2 xs (lo + 3 * t) (0 + 3 * t) (λ j k. list_at t j h k)

    list_length : length xs ≡ 3 * T
    list_length = let l = length-take (3 * T) out' in omega arith

    list_small : (p : ℕ) → get_or xs p 0 < 4294967296
    list_small p = elim (dec_lt p (3 * T)) [
      | yes h ↦ let e = get_or-take (3 * T) out' p 0 h in let l = small p in omega arith
      | no h ↦ let l = list_length in let e = get_or-eq_default xs 0 {n = p} (omega arith) in omega arith
    ]

    pub listed : Listed (net_of w T) xs
    unfolding net_of
    listed = record {
      size = list_length;
      words = list_small;
      rising = λ t h. let a = list_item t (omega arith) in let b = list_item (t + 1) h in let u = s.rising t h in omega arith;
      same = λ x. times_same w2 xs lo 0 T list_at x ∙ s.same x ∙ row_same x;
    }
