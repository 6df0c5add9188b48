-- This file reads the eight sheet rules, which are tests that compute, as statements: each test holds exactly where its statement does.
-- Assumes nothing.
use mathlib.Core.Path.{◌≡◌}
use mathlib.Core.Bool.{Bool, true, false, not, ◌&&◌, ◌||◌}
use mathlib.Core.List.{List}
use mathlib.Core.Logic.{◌⊎◌, inl, inr}
use Prim.Native.Nat.{ℕ, ◌+◌, ◌*◌, ◌-◌, ◌≤◌, ◌<◌}
use lib.Dec.{T, leb, ltb, leb→le, le→leb, ltb→lt, lt→ltb}
use lib.IntN.{ℤ, pos}
use Rattle.algebra.specs.Tests.{any_to}
use Rattle.algebra.specs.Order.{Pos}
use Rattle.algebra.specs.Sum.{sum_to}
use Rattle.plane.specs.Determinants.{orient}
use Rattle.plane.specs.Base.{Side, s0, s1, s2, next, On, area_of_base}
use Rattle.plane.specs.Halfedges.{nxt}
use Rattle.plane.specs.Tiles.{OnSide, Reverse, Tiles}
use Rattle.plane.proofs.Test.{Reads, reads_as, reads_and, reads_or, reads_if, reads_not, reads_all, reads_any, reads_eq, reads_eq_z, reads_pos}
use Rattle.tables.specs.Data.{point_count, pair_count, point, end_a, end_b, base}
use Rattle.tables.specs.Rules.{flips, triples, corner, triple_area, edge_is, reverse, on_line, along_side, is_pair, proper_triple, rises_to}
use Rattle.tables.specs.Rules.{rule1, rule2, rule3, rule4, rule5, rule6, rule7, rule8}
use Rattle.tables.proofs.Table.{reads_test}

pub reads_le : (m n : ℕ) → Reads (leb m n) (m ≤ n)
reads_le m n = record { says = leb→le m n; shows = le→leb m n }

pub reads_lt : (m n : ℕ) → Reads (ltb m n) (m < n)
reads_lt m n = record { says = ltb→lt m n; shows = lt→ltb m n }

-- ---- rule 1

-- The triple has distinct point numbers below n, and is strictly counterclockwise.
pub record Proper (ps : List ℤ) (a b c : ℕ) : Type 0 where
  pub a_below : a < point_count ps
  pub b_below : b < point_count ps
  pub c_below : c < point_count ps
  pub ab_differ : ¬ (a ≡ b)
  pub bc_differ : ¬ (b ≡ c)
  pub ca_differ : ¬ (c ≡ a)
  pub turns : Pos (orient (point ps a) (point ps b) (point ps c))

pub reads_proper : (ps : List ℤ) (a b c : ℕ) → Reads (proper_triple ps a b c) (Proper ps a b c)
reads_proper ps a b c =
    let n : ℕ = point_count ps in
    reads_as
    (reads_and (reads_and (reads_and (reads_and (reads_and (reads_and (reads_lt a n) (reads_lt b n)) (reads_lt c n)) (reads_not (reads_eq a b)))
    (reads_not (reads_eq b c))) (reads_not (reads_eq c a))) (reads_pos (orient (point ps a) (point ps b) (point ps c))))
    (λ p. record {
      a_below = p.0.0.0.0.0.0;
      b_below = p.0.0.0.0.0.1;
      c_below = p.0.0.0.0.1;
      ab_differ = p.0.0.0.1;
      bc_differ = p.0.0.1;
      ca_differ = p.0.1;
      turns = p.1;
    })
    (λ r. ((((((r.a_below, r.b_below), r.c_below), r.ab_differ), r.bc_differ), r.ca_differ), r.turns))

pub record Rule1 (ps : List ℤ) (xs : List ℕ) : Type 0 where
  pub least : 1 ≤ triples xs
  pub most : triples xs ≤ 2 * point_count ps - 5
  pub proper : (t : ℕ) → t < triples xs → Proper ps (corner xs (3 * t)) (corner xs (3 * t + 1)) (corner xs (3 * t + 2))

pub reads_1 : (ps : List ℤ) (xs : List ℕ) → Reads (rule1 ps xs) (Rule1 ps xs)
unfolding rule1
reads_1 ps xs =
    reads_as
    (reads_and (reads_and (reads_le 1 (triples xs)) (reads_le (triples xs) (2 * point_count ps - 5)))
    (reads_all (triples xs) (λ t. reads_proper ps (corner xs (3 * t)) (corner xs (3 * t + 1)) (corner xs (3 * t + 2)))))
    (λ p. record { least = p.0.0; most = p.0.1; proper = p.1 }) (λ r. ((r.least, r.most), r.proper))

-- ---- rules 2 and 3

pub reads_edge : (xs : List ℕ) (h u v : ℕ) → Reads (edge_is xs h u v) ((corner xs h ≡ u) × (corner xs (nxt h) ≡ v))
reads_edge xs h u v = reads_and (reads_eq (corner xs h) u) (reads_eq (corner xs (nxt h)) v)

abbrev pub Rule2 : List ℕ → Type 0
Rule2 xs = (h g : ℕ) → h < 3 * triples xs → g < 3 * triples xs → corner xs g ≡ corner xs h → corner xs (nxt g) ≡ corner xs (nxt h) → g ≡ h

pub reads_2 : (xs : List ℕ) → Reads (rule2 xs) (Rule2 xs)
unfolding rule2
reads_2 xs =
    reads_as
    (reads_all (3 * triples xs) (λ h. reads_all (3 * triples xs) (λ g. reads_if (reads_edge xs g (corner xs h) (corner xs (nxt h))) (reads_eq g h))))
    (λ f h g l m e d. f h l g m (e, d)) (λ f h l g m p. f h g l m p.0 p.1)

pub reads_reverse : (xs : List ℕ) (h : ℕ) →
    Reads (any_to (3 * triples xs) (reverse xs h)) ((g : ℕ) × Reverse (triples xs) (corner xs) h g)
reads_reverse xs h =
    reads_as (reads_any (3 * triples xs) (λ g. reads_edge xs g (corner xs (nxt h)) (corner xs h)))
    (λ r. (r.0, record { low = r.1; from = r.2.0; to = r.2.1 })) (λ r. (r.0, r.1.low, (r.1.from, r.1.to)))

pub reads_side : (ps : List ℤ) (u v : ℕ) → Reads (along_side ps u v) (OnSide (point ps) (base ps) u v)
unfolding along_side
reads_side ps u v = reads_as (reads_or (reads_or (both s0) (both s1)) (both s2)) into (λ o. from o.0 o.1 o.2)
  where
    OnS : Side → ℕ → Type 0
    OnS s u = On (base ps) s (point ps u)

    both : (s : Side) → Reads (on_line ps s u && on_line ps s v) (OnS s u × OnS s v)
    both s =
        reads_and (reads_eq_z (orient (base ps s) (base ps (next s)) (point ps u)) (pos 0)) (reads_eq_z (orient (base ps s) (base ps (next s)) (point ps v)) (pos 0))

    Each : Type 0
    Each = ((OnS s0 u × OnS s0 v) ⊎ (OnS s1 u × OnS s1 v)) ⊎ (OnS s2 u × OnS s2 v)

    into : Each → OnSide (point ps) (base ps) u v
    into (inl (inl p)) = (s0, p.0, p.1)
    into (inl (inr p)) = (s1, p.0, p.1)
    into (inr p) = (s2, p.0, p.1)

    from : (s : Side) → OnS s u → OnS s v → Each
    from s0 e k = inl (inl (e, k))
    from s1 e k = inl (inr (e, k))
    from s2 e k = inr (e, k)

abbrev pub Rule3 : List ℤ → List ℕ → Type 0
Rule3 ps xs =
    (h : ℕ) → h < 3 * triples xs →
    ((g : ℕ) × Reverse (triples xs) (corner xs) h g) ⊎ OnSide (point ps) (base ps) (corner xs h) (corner xs (nxt h))

pub reads_3 : (ps : List ℤ) (xs : List ℕ) → Reads (rule3 ps xs) (Rule3 ps xs)
unfolding rule3
reads_3 ps xs = reads_all (3 * triples xs) (λ h. reads_or (reads_reverse xs h) (reads_side ps (corner xs h) (corner xs (nxt h))))

-- ---- rules 4 and 5

abbrev pub Rule4 : List ℤ → List ℕ → Type 0
Rule4 ps xs = (i : ℕ) → i < point_count ps → (h : ℕ) × (h < 3 * triples xs) × (corner xs h ≡ i)

pub reads_4 : (ps : List ℤ) (xs : List ℕ) → Reads (rule4 ps xs) (Rule4 ps xs)
unfolding rule4
reads_4 ps xs = reads_all (point_count ps) (λ i. reads_any (3 * triples xs) (λ h. reads_eq (corner xs h) i))

abbrev pub Rule5 : List ℤ → List ℕ → Type 0
Rule5 ps xs = sum_to (triples xs) (triple_area ps xs) ≡ area_of_base (base ps)

pub reads_5 : (ps : List ℤ) (xs : List ℕ) → Reads (rule5 ps xs) (Rule5 ps xs)
unfolding rule5
reads_5 ps xs = reads_eq_z (sum_to (triples xs) (triple_area ps xs)) (area_of_base (base ps))

-- ---- rules 6 and 7

abbrev pub Rule6 : List ℕ → List ℕ → Type 0
Rule6 qs xs =
    (k : ℕ) → k < pair_count qs →
    (h : ℕ) × (h < 3 * triples xs) × T (edge_is xs h (end_a qs k) (end_b qs k) || edge_is xs h (end_b qs k) (end_a qs k))

pub reads_6 : (qs xs : List ℕ) → Reads (rule6 qs xs) (Rule6 qs xs)
unfolding rule6
reads_6 qs xs =
    reads_all (pair_count qs)
    (λ k. reads_any (3 * triples xs) (λ h. reads_test (edge_is xs h (end_a qs k) (end_b qs k) || edge_is xs h (end_b qs k) (end_a qs k))))

-- Where a holds and b does not, c does not.
reads_unless : (a b c : Bool) → Reads (not a || b || not c) (T a → ¬ T b → ¬ T c)
reads_unless true true c = record { says = λ t x f. absurd (f tt); shows = λ f. tt }
reads_unless true false c = reads_as (reads_not (reads_test c)) (λ g x f. g) (λ g. g tt (λ t. t))
reads_unless false b c = record { says = λ t x. absurd x; shows = λ f. tt }

abbrev pub Rule7 : List ℤ → List ℕ → List ℕ → Type 0
Rule7 ps qs xs =
    (h g : ℕ) → h < 3 * triples xs → g < 3 * triples xs → T (reverse xs h g) → ¬ T (is_pair qs (corner xs h) (corner xs (nxt h)))
    → ¬ T (flips ps (corner xs h) (corner xs (nxt h)) (corner xs (nxt (nxt h))) (corner xs (nxt (nxt g))))

pub reads_7 : (ps : List ℤ) (qs xs : List ℕ) → Reads (rule7 ps qs xs) (Rule7 ps qs xs)
unfolding rule7
reads_7 ps qs xs =
    reads_as
    (reads_all (3 * triples xs) (λ h. reads_all (3 * triples xs) (λ g. reads_unless (reverse xs h g) (is_pair qs (corner xs h) (corner xs (nxt h)))
    (flips ps (corner xs h) (corner xs (nxt h)) (corner xs (nxt (nxt h))) (corner xs (nxt (nxt g)))))))
    (λ f h g l m. f h l g m) (λ f h l g m. f h g l m)

-- ---- rule 8

-- Each triple's least number is first, and each triple comes before the next one by first, second, third number.
pub record Rule8 (xs : List ℕ) : Type 0 where
  pub first : (t : ℕ) → t < triples xs → (corner xs (3 * t) < corner xs (3 * t + 1)) × (corner xs (3 * t) < corner xs (3 * t + 2))
  pub rise : (t : ℕ) → t < triples xs - 1 → T (rises_to xs t)

pub reads_8 : (xs : List ℕ) → Reads (rule8 xs) (Rule8 xs)
unfolding rule8
reads_8 xs =
    reads_as
    (reads_and
    (reads_all (triples xs)
    (λ t. reads_and (reads_lt (corner xs (3 * t)) (corner xs (3 * t + 1))) (reads_lt (corner xs (3 * t)) (corner xs (3 * t + 2)))))
    (reads_all (triples xs - 1) (λ t. reads_test (rises_to xs t))))
    (λ p. record { first = p.0; rise = p.1 }) (λ r. (r.first, r.rise))

-- ---- a list that keeps rules 1, 2, 3 and 5 tiles the base

pub tiles : (ps : List ℤ) (xs : List ℕ) → Rule1 ps xs → Rule2 xs → Rule3 ps xs → Rule5 ps xs → Tiles (point ps) (base ps) (triples xs) (corner xs)
unfolding triple_area
tiles ps xs r1 r2 r3 r5 = record { ccw = λ t l. (r1.proper t l).turns; once = r2; met = r3; areas = r5 }
