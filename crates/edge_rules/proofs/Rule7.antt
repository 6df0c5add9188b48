-- Rule 7 by the marks, and an edge by the one reverse that it has. Assumes nothing.
use mathlib.Core.Path.{◌≡◌, sym, ap, ap₂, ◌∙◌}
use mathlib.Core.Bool.{Bool, true, false, cond, not, ◌||◌}
use mathlib.Core.List.{List}
use Prim.Native.Nat.{ℕ, suc, ◌%◌, ◌<◌}
use native.Mathlib.Omega.{arith}
use lib.Dec.{eqb}
use lib.IntN.{ℤ}
use lib.ListN.{length}
use Rattle.algebra.specs.Tests.{all_to}
use Rattle.algebra.proofs.Tests.{by_test, or_true, all_of, all_fails, all_same}
use Rattle.plane.specs.Halfedges.{nxt}
use Rattle.tables.specs.Data.{point_count}
use Rattle.tables.specs.Rules.{corner, reverse, is_pair, flips, rule2, rule7}
use Rattle.std.specs.Prelude.{Option, Some, None}
use Rattle.edges.specs.Index.{last_edge, found_at}
use Rattle.edges.proofs.Last.{is_at, is_nowhere, last_is, last_le, last_none}
use Rattle.list_rules.specs.Listed.{Marked, mark_of}
use Rattle.list_rules.proofs.Once.{unique_edge, whole_length}
use Rattle.edge_rules.specs.Stays.{stays, all_stay}

module _ (ps : List ℤ) (xs w : List ℕ) (h : ℕ) where
  abbrev flip : ℕ → Bool
  flip g = flips ps (corner xs h) (corner xs (nxt h)) (corner xs (nxt (nxt h))) (corner xs (nxt (nxt g)))

  -- a marked edge stays
  pub marked_stays : eqb (mark_of (point_count ps) w h) 0 ≡ false → true ≡ all_to (length xs) (stays ps xs w h)
  marked_stays e =
      sym (all_of (stays ps xs w h) (length xs) (λ g l. ap (λ (b : Bool). not (reverse xs h g) || not b || not (flip g)) e ∙ ap (λ (b : Bool). b || not (flip g)) (or_true (not (reverse xs h g)))))

  -- so does one with no reverse
  pub alone_stays : last_edge xs (corner xs (nxt h)) (corner xs h) (length xs) ≡ 0 → true ≡ all_to (length xs) (stays ps xs w h)
  alone_stays e =
      sym (all_of (stays ps xs w h) (length xs) (λ g l. ap (λ (b : Bool). not b || not (eqb (mark_of (point_count ps) w h) 0) || not (flip g)) (last_none (reverse xs h) (length xs) g (omega arith) l)))

  -- what the search for the reverse, from u on, found
  abbrev back : ℕ → ℕ
  back u = last_edge xs u (corner xs h) (length xs)

  found : {u : ℕ} {r o : Option ℕ} → u ≡ corner xs (nxt h) → r ≡ found_at (back u) → r ≡ o → o ≡ found_at (back (corner xs (nxt h)))
  found q e i = sym i ∙ e ∙ ap (λ (x : ℕ). found_at (back x)) q

  pub reverse_at : {u g : ℕ} {r : Option ℕ} → u ≡ corner xs (nxt h) → r ≡ found_at (back u) → r ≡ Some g → back (corner xs (nxt h)) ≡ suc g
  reverse_at {g = g} q e i = is_at (back (corner xs (nxt h))) g (found q e i)

  pub no_reverse : {u : ℕ} {r : Option ℕ} → u ≡ corner xs (nxt h) → r ≡ found_at (back u) → r ≡ None → back (corner xs (nxt h)) ≡ 0
  no_reverse q e i = is_nowhere (back (corner xs (nxt h))) (found q e i)

  module _ (whole : length xs % 3 ≡ 0) (once : rule2 xs ≡ true) (g : ℕ) (e : last_edge xs (corner xs (nxt h)) (corner xs h) (length xs) ≡ suc g) where
    pub low : g < length xs
    low = let b = last_le (reverse xs h) (length xs) in omega arith

    is_reverse : reverse xs h g ≡ true
    is_reverse = last_is (reverse xs h) (length xs) g e

    -- an edge without a mark stays if step 3 would not flip it with its one reverse
    pub flip_stays : eqb (mark_of (point_count ps) w h) 0 ≡ true → not (flip g) ≡ all_to (length xs) (stays ps xs w h)
    flip_stays m = by_test (flip g)
        (λ t. ap not t ∙ sym (all_fails (stays ps xs w h) (length xs) g low (at g is_reverse ∙ ap not t)))
        (λ t. ap not t ∙ sym (all_of (stays ps xs w h) (length xs) (λ k l. by_test (reverse xs h k)
        (λ r. at k r ∙ ap (λ (j : ℕ). not (flip j)) (unique_edge xs whole once (corner xs (nxt h)) (corner xs h) g k low l is_reverse r) ∙ ap not t)
        (λ r. ap (λ (b : Bool). not b || not (eqb (mark_of (point_count ps) w h) 0) || not (flip k)) r))))
      where
        at : (k : ℕ) → reverse xs h k ≡ true → stays ps xs w h k ≡ not (flip k)
        at k r = ap₂ (λ (a b : Bool). not a || not b || not (flip k)) r m

-- ---- the whole rule
mark_is : (b : Bool) (m : ℕ) → m ≡ cond b 1 0 → not (eqb m 0) ≡ b
mark_is true m e = ap (λ (k : ℕ). not (eqb k 0)) e
mark_is false m e = ap (λ (k : ℕ). not (eqb k 0)) e

pub by_marks : (ps : List ℤ) (qs xs w : List ℕ) → length xs % 3 ≡ 0 → Marked (point_count ps) qs xs w → all_stay ps xs w ≡ rule7 ps qs xs
unfolding rule7
by_marks ps qs xs w whole m =
    all_same (λ h. all_to (length xs) (stays ps xs w h)) (λ h. all_to (length xs) (paired h)) (length xs)
    (λ h l. all_same (stays ps xs w h) (paired h) (length xs)
    (λ g k. ap (λ (b : Bool). not (reverse xs h g) || b || not (flip ps xs w h g))
    (mark_is (is_pair qs (corner xs h) (corner xs (nxt h))) (mark_of (point_count ps) w h) (m h l))))
    ∙ ap (λ (k : ℕ). all_to k (λ h. all_to k (paired h))) (sym (whole_length xs whole))
  where
    paired : ℕ → ℕ → Bool
    paired h g = not (reverse xs h g) || is_pair qs (corner xs h) (corner xs (nxt h)) || not (flip ps xs w h g)
