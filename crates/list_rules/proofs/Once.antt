-- Rule 2 by the index: each edge is the last from its first end to its second. Assumes nothing.
use mathlib.Core.Path.{◌≡◌, refl, sym, ap, ap₂, ◌∙◌}
use mathlib.Core.Bool.{Bool, true, false, not, ◌||◌, true≢false, false≢true}
use mathlib.Core.List.{List}
use Prim.Native.Nat.{ℕ, zero, suc, ◌+◌, ◌*◌, ◌%◌, ◌<◌}
use native.Mathlib.Omega.{arith}
use borrow.Author.Tests.{eq-eqb, eqb-true}
use lib.Dec.{eqb}
use lib.ListN.{length}
use Rattle.algebra.specs.Tests.{all_to}
use Rattle.algebra.proofs.Tests.{by_test, and_fst, and_snd, and_both, all_of, all_at}
use Rattle.plane.specs.Halfedges.{nxt}
use Rattle.tables.specs.Rules.{triples, corner, edge_is, rule2}
use Rattle.edges.specs.Index.{last_of, last_edge}
use Rattle.edges.proofs.Last.{last_is, last_le, last_none}

pub not_true : (b : Bool) → not b ≡ true → b ≡ false
not_true true h = absurd (false≢true h)
not_true false h = refl

pub not_false : (b : Bool) → not b ≡ false → b ≡ true
not_false true h = refl
not_false false h = absurd (true≢false h)

pub whole_length : (xs : List ℕ) → length xs % 3 ≡ 0 → 3 * triples xs ≡ length xs
whole_length xs e = omega arith

-- an edge has its own ends
pub own : (xs : List ℕ) (h : ℕ) → edge_is xs h (corner xs h) (corner xs (nxt h)) ≡ true
own xs h = and_both (eq-eqb (corner xs h) (corner xs h) refl) (eq-eqb (corner xs (nxt h)) (corner xs (nxt h)) refl)

-- the last edge from u to v, where one is known
pub some_last : (f : ℕ → Bool) (k h : ℕ) → h < k → f h ≡ true → (g : ℕ) × (last_of f k ≡ suc g)
some_last f k h l t = go (last_of f k) refl
  where
    go : (m : ℕ) → last_of f k ≡ m → (g : ℕ) × (last_of f k ≡ suc g)
    go zero e = absurd (true≢false (sym t ∙ last_none f k h (omega arith) l))
    go (suc g) e = (g, e)

module _ (xs : List ℕ) (w : length xs % 3 ≡ 0) where
  abbrev pub lastb : ℕ → Bool
  lastb h = eqb (last_edge xs (corner xs h) (corner xs (nxt h)) (length xs)) (h + 1)

  abbrev alone : ℕ → ℕ → Bool
  alone h g = not (edge_is xs g (corner xs h) (corner xs (nxt h))) || eqb g h

  is_three : 3 * triples xs ≡ length xs
  is_three = whole_length xs w

  -- no edge is there twice
  pub unique : rule2 xs ≡ true → (h g : ℕ) → h < length xs → g < length xs → edge_is xs g (corner xs h) (corner xs (nxt h)) ≡ true → g ≡ h
  unfolding rule2
  unique r h g l m t =
      let e = is_three in
      let a = all_at (alone h) (3 * triples xs) g (all_at (λ h. all_to (3 * triples xs) (alone h)) (3 * triples xs) h r (omega arith)) (omega arith) in
      eqb-true g h (sym (ap (λ (b : Bool). not b || eqb g h) t) ∙ a)

  -- two edges from u to v are one
  pub unique_edge : rule2 xs ≡ true → (u v h g : ℕ) → h < length xs → g < length xs → edge_is xs h u v ≡ true → edge_is xs g u v ≡ true → g ≡ h
  unique_edge r u v h g l m t s =
      let a = eqb-true (corner xs h) u (and_fst (eqb (corner xs h) u) (eqb (corner xs (nxt h)) v) t) in
      let b = eqb-true (corner xs (nxt h)) v (and_snd (eqb (corner xs h) u) (eqb (corner xs (nxt h)) v) t) in
      unique r h g l m (ap₂ (λ (x y : ℕ). edge_is xs g x y) a b ∙ s)

  -- the last edge with the ends of h is h
  pub is_own : rule2 xs ≡ true → (h : ℕ) → h < length xs → last_edge xs (corner xs h) (corner xs (nxt h)) (length xs) ≡ suc h
  is_own r h l =
      let f : ℕ → Bool = (λ g. edge_is xs g (corner xs h) (corner xs (nxt h))) in
      let s = some_last f (length xs) h l (own xs h) in
      let b = last_le f (length xs) in
      let e = s.1 in
      e ∙ ap suc (unique r h s.0 l (omega arith) (last_is f (length xs) s.0 e))

  holds : ((h : ℕ) → h < length xs → lastb h ≡ true) → rule2 xs ≡ true
  unfolding rule2
  holds r =
      let e = is_three in
      all_of (λ h. all_to (3 * triples xs) (alone h)) (3 * triples xs) (λ h l. all_of (alone h) (3 * triples xs) (λ g m. one h g (omega arith) (omega arith)))
    where
      last_of_lem : (h : ℕ) → h < length xs → last_edge xs (corner xs h) (corner xs (nxt h)) (length xs) ≡ h + 1
      last_of_lem h l = eqb-true (last_edge xs (corner xs h) (corner xs (nxt h)) (length xs)) (h + 1) (r h l)

      one : (h g : ℕ) → h < length xs → g < length xs → alone h g ≡ true
      one h g l m = by_test (edge_is xs g (corner xs h) (corner xs (nxt h)))
          (λ t.
          let a = eqb-true (corner xs g) (corner xs h) (and_fst (eqb (corner xs g) (corner xs h)) (eqb (corner xs (nxt g)) (corner xs (nxt h))) t) in
          let b = eqb-true (corner xs (nxt g)) (corner xs (nxt h)) (and_snd (eqb (corner xs g) (corner xs h)) (eqb (corner xs (nxt g)) (corner xs (nxt h))) t) in
          let q : g + 1 ≡ h + 1 = sym (last_of_lem g m) ∙ ap₂ (λ (u v : ℕ). last_edge xs u v (length xs)) a b ∙ last_of_lem h l in
          ap (λ (x : Bool). not x || eqb g h) t ∙ eq-eqb g h (omega arith))
          (λ t. ap (λ (x : Bool). not x || eqb g h) t)

  -- each edge is the last of its kind exactly if no edge is there twice
  pub once : all_to (length xs) lastb ≡ rule2 xs
  once = by_test (rule2 xs)
      (λ r. all_of lastb (length xs) (λ h l. ap (λ (m : ℕ). eqb m (h + 1)) (is_own r h l) ∙ eq-eqb (suc h) (h + 1) (omega arith)) ∙ sym r)
      (λ r. by_test (all_to (length xs) lastb) (λ a. absurd (true≢false (sym (holds (λ h l. all_at lastb (length xs) h a l)) ∙ r))) (λ a. a ∙ sym r))
