-- The marks of the edges that pass a test. Assumes nothing.
use mathlib.Core.Path.{◌≡◌, refl, sym, ap, ◌∙◌}
use mathlib.Core.Bool.{Bool, true, false, cond, ◌||◌}
use mathlib.Core.List.{List}
use Prim.Native.Nat.{ℕ, suc, ◌+◌, ◌*◌, ◌<◌}
use native.Mathlib.Decide.{ℕ_discrete}
use native.Mathlib.Numerals.{add-one}
use native.Mathlib.Omega.{arith}
use lib.ListN.{length, set, length-set}
use lib.Seq.{get_or-set_same, get_or-set_other}
use Rattle.algebra.specs.Tests.{any_to}
use Rattle.algebra.proofs.Tests.{by_test}
use Rattle.plane.specs.Halfedges.{nxt}
use Rattle.tables.specs.Data.{pair_count, end_a, end_b}
use Rattle.tables.specs.Rules.{corner, edge_is, is_pair, rule2}
use Rattle.std.specs.Prelude.{Some, None}
use Rattle.edges.specs.Index.{last_edge, found_at}
use Rattle.edges.proofs.Last.{is_at, is_nowhere, last_is, last_le, last_none}
use Rattle.list_rules.specs.Listed.{Listed, Room, Blank, Painted, Marked, mark_of}
use Rattle.list_rules.proofs.Once.{unique_edge}

-- ---- one edge
module _ (n : ℕ) (xs w : List ℕ) (ls : Listed n xs w) (room : Room n xs w) (once : rule2 xs ≡ true) (u v : ℕ) where
  abbrev f : ℕ → Bool
  f h = edge_is xs h u v

  -- the search found h
  module _ (h : ℕ) (found : Some h ≡ found_at (last_edge xs u v (length xs))) where
    e : last_edge xs u v (length xs) ≡ suc h
    e = is_at (last_edge xs u v (length xs)) h found

    low : h < length xs
    low = let b = last_le f (length xs) in let q = e in omega arith

    pub spot_low : 7 * n + h < length w
    spot_low = let b = low in let r = room.list in let q = room.work in omega arith

    passes : f h ≡ true
    passes = last_is f (length xs) h e

    marks : (g : ℕ) → g < length xs → Dec (g ≡ h) → mark_of n (set w (7 * n + h) 1) g ≡ cond (f g) 1 (mark_of n w g)
    marks g l (yes q) =
        ap (λ (x : ℕ). mark_of n (set w (7 * n + h) 1) x) q ∙ get_or-set_same w (7 * n + h) 1 0 spot_low ∙ sym (ap (λ (b : Bool). cond b 1 (mark_of n w g)) (ap f q ∙ passes))
    marks g l (no q) =
        get_or-set_other w (7 * n + h) (7 * n + g) 1 0 (λ z. q (omega arith))
        ∙ sym (ap (λ (b : Bool). cond b 1 (mark_of n w g)) (by_test (f g) (λ t. absurd (q (unique_edge xs ls.whole once u v h g low l passes t))) (λ t. t)))

    pub paints : Painted n xs f w (set w (7 * n + h) 1)
    paints = record {
      size = length-set w (7 * n + h) 1;
      below = λ p l. get_or-set_other w (7 * n + h) p 1 0 (λ z. let b : ⊥ = omega arith in b);
      marks = λ g l. marks g l (ℕ_discrete g h);
      above = λ p l. let b = low in get_or-set_other w (7 * n + h) p 1 0 (λ z. let k : ⊥ = omega arith in k);
    }

  pub paints_none : None ≡ found_at (last_edge xs u v (length xs)) → Painted n xs f w w
  paints_none found = record {
    size = refl;
    below = λ p l. refl;
    marks = λ g l. let e = is_nowhere (last_edge xs u v (length xs)) found in sym (ap (λ (b : Bool). cond b 1 (mark_of n w g)) (last_none f (length xs) g (omega arith) l));
    above = λ p l. refl;
  }

-- ---- one after the other
over : (a b : Bool) (m : ℕ) → cond b 1 (cond a 1 m) ≡ cond (a || b) 1 m
over true true m = refl
over true false m = refl
over false true m = refl
over false false m = refl

pub paint_both : (n : ℕ) (xs : List ℕ) (f g : ℕ → Bool) (w w₁ w₂ : List ℕ) → Painted n xs f w w₁ → Painted n xs g w₁ w₂ → Painted n xs (λ h. f h || g h) w w₂
paint_both n xs f g w w₁ w₂ p q = record {
  size = q.size ∙ p.size;
  below = λ i l. q.below i l ∙ p.below i l;
  marks = λ h l. q.marks h l ∙ ap (λ (m : ℕ). cond (g h) 1 m) (p.marks h l) ∙ over (f h) (g h) (mark_of n w h);
  above = λ i l. q.above i l ∙ p.above i l;
}

pub paint_as : (n : ℕ) (xs : List ℕ) (f g : ℕ → Bool) (w w₁ : List ℕ) → ((h : ℕ) → f h ≡ g h) → Painted n xs f w w₁ → Painted n xs g w w₁
paint_as n xs f g w w₁ e p = record {
  size = p.size;
  below = p.below;
  marks = λ h l. p.marks h l ∙ ap (λ (b : Bool). cond b 1 (mark_of n w h)) (e h);
  above = p.above;
}

-- the index stays
pub painted_listed : (n : ℕ) (xs : List ℕ) (f : ℕ → Bool) (w w₁ : List ℕ) → Listed n xs w → Room n xs w → Painted n xs f w w₁ → Listed n xs w₁
painted_listed n xs f w w₁ ls room p = record {
  whole = ls.whole;
  corners = ls.corners;
  fits = record { room = (let s = p.size in let r = ls.fits.room in omega arith); few = ls.fits.few };
  indexed = record {
    heads = λ u l. p.below u (omega arith) ∙ ls.indexed.heads u l;
    links = λ h l. p.below (n + h) (let r = room.list in omega arith) ∙ ls.indexed.links h l;
  };
}

pub painted_room : (n : ℕ) (xs : List ℕ) (f : ℕ → Bool) (w w₁ : List ℕ) → Room n xs w → Painted n xs f w w₁ → Room n xs w₁
painted_room n xs f w w₁ room p = record { list = room.list; work = (let s = p.size in let r = room.work in omega arith) }

-- ---- the edges that are one of the first k pairs
abbrev pub joins : List ℕ → List ℕ → ℕ → ℕ → Bool
joins qs xs h k = edge_is xs h (end_a qs k) (end_b qs k) || edge_is xs h (end_b qs k) (end_a qs k)

pub pair_to : List ℕ → List ℕ → ℕ → ℕ → Bool
pair_to qs xs k h = any_to k (joins qs xs h)

pub paint_first : (n : ℕ) (qs xs w : List ℕ) → Painted n xs (pair_to qs xs 0) w w
unfolding pair_to any_to
paint_first n qs xs w = record { size = refl; below = λ p l. refl; marks = λ h l. refl; above = λ p l. refl }

pub paint_more : (n : ℕ) (qs xs : List ℕ) (k : ℕ) (w w₁ w₂ : List ℕ) → Painted n xs (pair_to qs xs k) w w₁ → Painted n xs (λ h. joins qs xs h k) w₁ w₂ → Painted n xs (pair_to qs xs (k + 1)) w w₂
unfolding pair_to any_to
paint_more n qs xs k w w₁ w₂ p q =
    paint_as n xs (λ h. any_to k (joins qs xs h) || joins qs xs h k) (λ h. any_to (k + 1) (joins qs xs h)) w w₂ (λ h. ap (λ (m : ℕ). any_to m (joins qs xs h)) (sym (add-one k)))
    (paint_both n xs (λ h. any_to k (joins qs xs h)) (λ h. joins qs xs h k) w w₁ w₂ p q)

pub paint_marked : (n : ℕ) (qs xs w w₁ : List ℕ) → Blank n xs w → Painted n xs (pair_to qs xs (pair_count qs)) w w₁ → Marked n qs xs w₁
unfolding pair_to is_pair
paint_marked n qs xs w w₁ b p h l = p.marks h l ∙ ap (λ (m : ℕ). cond (is_pair qs (corner xs h) (corner xs (nxt h))) 1 m) (b h l)
