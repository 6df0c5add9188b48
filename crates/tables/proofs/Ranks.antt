-- Ranks compare as coordinates do. So the order of two rank pairs, by which step 3 breaks a tie, is a test of four points alone, and no
-- rank has to be computed. Equal points have equal ranks, so only the law that says so asks that the points differ. Assumes nothing.
use mathlib.Core.Path.{◌≡◌, sym, ap, ◌∙◌, subst}
use mathlib.Core.Bool.{Bool, true, false, cond, ◌&&◌, ◌||◌}
use mathlib.Core.List.{List}
use mathlib.Core.Logic.{◌⊎◌, inl, inr}
use Prim.Native.Nat.{ℕ, zero, suc, ◌+◌, ◌≤◌, ◌<◌, min, max}
use native.Mathlib.Nat.{not-suc-le-zero}
use native.Mathlib.Decide.{dec_lt, ℕ_discrete}
use native.Mathlib.Omega.{arith}
use lib.Dec.{T, ltb, eqb, lt→ltb, ltb→lt, le→leb}
use lib.IntN.{ℤ, pos, negsuc}
use lib.Signed.{lt_z, le_z, ◌<ℤ◌, lt_z_yes, <ℤ-≤ℤ_trans, <ℤ_irrefl}
use borrow.Author.Tests.{lt-ltb, le-ltb, eq-eqb, ne_eqb, ltb-false}
use Rattle.algebra.specs.Tests.{posb, eq_z}
use Rattle.algebra.proofs.Sum.{by_bool}
use Rattle.plane.specs.Points.{Pt}
use Rattle.plane.specs.Determinants.{orient, incircle}
use Rattle.plane.proofs.Test.{Reads, reads_and, reads_or, reads_eq_z}
use Rattle.tables.specs.Data.{point_count, point, same}
use Rattle.tables.specs.Rules.{before, count_to, rank, pair_below, wins, flips}
use Rattle.tables.proofs.Table.{true_t, T_true, not_t_false, same_point, point_same}

-- ---- counting

bit_le : (a b : Bool) → (T a → T b) → cond a 1 0 ≤ cond b 1 0
bit_le true true h = omega arith
bit_le true false h = absurd (h tt)
bit_le false true h = omega arith
bit_le false false h = omega arith

-- At least as many numbers pass a weaker test.
pub count_le : (n : ℕ) (f g : ℕ → Bool) → ((i : ℕ) → i < n → T (f i) → T (g i)) → count_to n f ≤ count_to n g
unfolding count_to
count_le zero f g h = omega arith
count_le (suc n) f g h = omega (arith, count_le n f g (λ i l. h i (omega arith)), bit_le (f n) (g n) (h n (omega arith)))

-- Strictly more pass it where one number fails the stronger test and passes the weaker one.
pub count_lt : (n : ℕ) (f g : ℕ → Bool) → ((i : ℕ) → i < n → T (f i) → T (g i)) →
    (k : ℕ) → k < n → f k ≡ false → g k ≡ true → count_to n f < count_to n g
unfolding count_to
count_lt zero f g h k l d e = absurd (not-suc-le-zero l)
count_lt (suc n) f g h k l d e = go (count_lt n f g (λ i m. h i (omega arith)) k) (dec_lt k n)
  where
    here : f n ≡ false → g n ≡ true → count_to n f + cond (f n) 1 0 < count_to n g + cond (g n) 1 0
    here p q = rw (p, q) (omega (arith, count_le n f g (λ i m. h i (omega arith))))

    go : (k < n → f k ≡ false → g k ≡ true → count_to n f < count_to n g) → Dec (k < n) → count_to n f + cond (f n) 1 0 < count_to n g + cond (g n) 1 0
    go ih (yes m) = omega (arith, ih m d e, bit_le (f n) (g n) (h n (omega arith)))
    go ih (no m) =
        let q : k ≡ n = omega arith in
        here (subst (λ (j : ℕ). f j ≡ false) q d) (subst (λ (j : ℕ). g j ≡ true) q e)

-- ---- the order of x, then y

lt_le : (a b : ℤ) → T (lt_z a b) → T (le_z a b)
lt_le (pos a) (pos b) t = le→leb a b (omega (arith, ltb→lt a b t))
lt_le (pos a) (negsuc b) t = t
lt_le (negsuc a) (pos b) t = t
lt_le (negsuc a) (negsuc b) t = le→leb b a (omega (arith, ltb→lt b a t))

<ℤ-trans : {a b c : ℤ} → a <ℤ b → b <ℤ c → a <ℤ c
<ℤ-trans {a} {b} {c} h k = <ℤ-≤ℤ_trans h (record { le = lt_le b c k.lt })

-- One of three cases holds of two whole numbers.
abbrev Three : ℤ → ℤ → Type 0
Three a b = (a <ℤ b) ⊎ ((a ≡ b) ⊎ (b <ℤ a))

three : (a b : ℤ) → Three a b
three (pos a) (pos b) = go (dec_lt a b) (dec_lt b a)
  where
    go : Dec (a < b) → Dec (b < a) → Three (pos a) (pos b)
    go (yes l) d = inl (lt_z_yes (lt→ltb a b l))
    go (no l) (yes d) = inr (inr (lt_z_yes (lt→ltb b a d)))
    go (no l) (no d) = let e : a ≡ b = omega arith in inr (inl (ap pos e))
three (pos a) (negsuc b) = inr (inr (lt_z_yes tt))
three (negsuc a) (pos b) = inl (lt_z_yes tt)
three (negsuc a) (negsuc b) = go (dec_lt a b) (dec_lt b a)
  where
    go : Dec (a < b) → Dec (b < a) → Three (negsuc a) (negsuc b)
    go (yes l) d = inr (inr (lt_z_yes (lt→ltb a b l)))
    go (no l) (yes d) = inl (lt_z_yes (lt→ltb b a d))
    go (no l) (no d) = let e : a ≡ b = omega arith in inr (inl (ap negsuc e))

-- This is what the test `before` says.
abbrev pub Before : Pt ℤ → Pt ℤ → Type 0
Before p q = (p.x <ℤ q.x) ⊎ ((p.x ≡ q.x) × (p.y <ℤ q.y))

pub reads_before : (p q : Pt ℤ) → Reads (before p q) (Before p q)
unfolding before
reads_before p q = reads_or (reads_lt_z p.x q.x) (reads_and (reads_eq_z p.x q.x) (reads_lt_z p.y q.y))
  where
    reads_lt_z : (a b : ℤ) → Reads (lt_z a b) (a <ℤ b)
    reads_lt_z a b = record { says = lt_z_yes; shows = λ h. h.lt }

pub before_irrefl : (p : Pt ℤ) → ¬ T (before p p)
before_irrefl p t = go ((reads_before p p).says t)
  where
    go : Before p p → ⊥
    go (inl h) = <ℤ_irrefl h
    go (inr h) = <ℤ_irrefl h.1

pub before_trans : (p q r : Pt ℤ) → T (before p q) → T (before q r) → T (before p r)
before_trans p q r s t = (reads_before p r).shows (go ((reads_before p q).says s) ((reads_before q r).says t))
  where
    go : Before p q → Before q r → Before p r
    go (inl h) (inl k) = inl (<ℤ-trans h k)
    go (inl h) (inr k) = inl (subst (λ (z : ℤ). p.x <ℤ z) k.0 h)
    go (inr h) (inl k) = inl (subst (λ (z : ℤ). z <ℤ r.x) (sym h.0) k)
    go (inr h) (inr k) = inr (h.0 ∙ k.0, <ℤ-trans h.1 k.1)

pub before_not : (p q : Pt ℤ) → T (before p q) → before q p ≡ false
before_not p q t = not_t_false (before q p) (λ s. before_irrefl p (before_trans p q p t s))

-- One of three cases holds of two points.
pub data Order (p q : Pt ℤ) : Type 0 where
  less : T (before p q) → Order p q
  equal : p ≡ q → Order p q
  more : T (before q p) → Order p q

pub order : (p q : Pt ℤ) → Order p q
order p q = go (three p.x q.x) (three p.y q.y)
  where
    one : p.x ≡ q.x → p.y ≡ q.y → p ≡ q
    one u v = λ i. record { x = u i; y = v i }

    go : Three p.x q.x → Three p.y q.y → Order p q
    go (inl h) d = less ((reads_before p q).shows (inl h))
    go (inr (inr h)) d = more ((reads_before q p).shows (inl h))
    go (inr (inl e)) (inl h) = less ((reads_before p q).shows (inr (e, h)))
    go (inr (inl e)) (inr (inr h)) = more ((reads_before q p).shows (inr (sym e, h)))
    go (inr (inl e)) (inr (inl d)) = equal (one e d)

-- ---- ranks

-- A rank depends on the point alone: it is the count of the points before it.
rank_of : (ps : List ℤ) (i j : ℕ) → point ps i ≡ point ps j → rank ps i ≡ rank ps j
unfolding rank
rank_of ps i j e = ap (λ (p : Pt ℤ). count_to (point_count ps) (λ k. before (point ps k) p)) e

module _ (ps : List ℤ) where
  -- The count is strictly monotone: what is before i is before j, and i is before j and not before itself.
  pub rank_lt : (i j : ℕ) → i < point_count ps → before (point ps i) (point ps j) ≡ true → rank ps i < rank ps j
  unfolding rank
  rank_lt i j l e =
      count_lt (point_count ps) (λ k. before (point ps k) (point ps i)) (λ k. before (point ps k) (point ps j))
      (λ k m t. before_trans (point ps k) (point ps i) (point ps j) t (true_t e))
      i l (not_t_false (before (point ps i) (point ps i)) (before_irrefl (point ps i))) e

  pub rank_below : (i j : ℕ) → i < point_count ps → j < point_count ps → ltb (rank ps i) (rank ps j) ≡ before (point ps i) (point ps j)
  rank_below i j l m = go (order (point ps i) (point ps j))
    where
      go : Order (point ps i) (point ps j) → ltb (rank ps i) (rank ps j) ≡ before (point ps i) (point ps j)
      go (less t) =
          let e = T_true (before (point ps i) (point ps j)) t in
          lt-ltb (rank ps i) (rank ps j) (rank_lt i j l e) ∙ sym e
      go (equal e) =
          le-ltb (rank ps i) (rank ps j) (omega (arith, rank_of ps i j e)) ∙
          sym (subst (λ (p : Pt ℤ). before (point ps i) p ≡ false) e (not_t_false (before (point ps i) (point ps i)) (before_irrefl (point ps i))))
      go (more t) =
          le-ltb (rank ps i) (rank ps j) (omega (arith, rank_lt j i m (T_true (before (point ps j) (point ps i)) t))) ∙
          sym (before_not (point ps j) (point ps i) t)

  pub rank_same : (i j : ℕ) → i < point_count ps → j < point_count ps → eqb (rank ps i) (rank ps j) ≡ same (point ps i) (point ps j)
  rank_same i j l m = go (order (point ps i) (point ps j))
    where
      not_same : ¬ (point ps i ≡ point ps j) → same (point ps i) (point ps j) ≡ false
      not_same f = by_bool (same (point ps i) (point ps j)) (λ e. absurd (f (same_point (point ps i) (point ps j) e))) (λ e. e)

      differ : (p q : Pt ℤ) → T (before p q) → ¬ (p ≡ q)
      differ p q t e = before_irrefl p (subst (λ (z : Pt ℤ). T (before p z)) (sym e) t)

      go : Order (point ps i) (point ps j) → eqb (rank ps i) (rank ps j) ≡ same (point ps i) (point ps j)
      go (less t) =
          let k = rank_lt i j l (T_true (before (point ps i) (point ps j)) t) in
          ne_eqb (rank ps i) (rank ps j) (omega arith) ∙ sym (not_same (differ (point ps i) (point ps j) t))
      go (equal e) = eq-eqb (rank ps i) (rank ps j) (rank_of ps i j e) ∙ sym (point_same (point ps i) (point ps j) e)
      go (more t) =
          let k = rank_lt j i m (T_true (before (point ps j) (point ps i)) t) in
          ne_eqb (rank ps i) (rank ps j) (omega arith) ∙ sym (not_same (λ e. differ (point ps j) (point ps i) t (sym e)))

  -- Where no two points are equal, two ranks are equal exactly where the numbers are.
  pub rank_only : ((i j : ℕ) → i < point_count ps → j < point_count ps → point ps i ≡ point ps j → i ≡ j) →
      (i j : ℕ) → i < point_count ps → j < point_count ps → eqb (rank ps i) (rank ps j) ≡ eqb i j
  rank_only f i j l m = go (ℕ_discrete i j)
    where
      go : Dec (i ≡ j) → eqb (rank ps i) (rank ps j) ≡ eqb i j
      go (yes e) = eq-eqb (rank ps i) (rank ps j) (ap (rank ps) e) ∙ sym (eq-eqb i j e)
      go (no d) =
          rank_same i j l m ∙
          by_bool (same (point ps i) (point ps j)) (λ e. absurd (d (f i j l m (same_point (point ps i) (point ps j) e)))) (λ e. e ∙ sym (ne_eqb i j d))

-- ---- the order of rank pairs, by points alone

-- Of two points these are the one that is before the other, and the other.
abbrev pub low_of : Pt ℤ → Pt ℤ → Pt ℤ
low_of p q = cond (before p q) p q

abbrev pub high_of : Pt ℤ → Pt ℤ → Pt ℤ
high_of p q = cond (before p q) q p

-- The pair of c, d is below that of a, b: the low points are compared, and where they are one point, the high points.
abbrev pub point_pair_below : Pt ℤ → Pt ℤ → Pt ℤ → Pt ℤ → Bool
point_pair_below c d a b = before (low_of c d) (low_of a b) || (same (low_of c d) (low_of a b) && before (high_of c d) (high_of a b))

module _ (ps : List ℤ) where
  -- These are the two numbers, the one with the lower rank first.
  record Sorted (c d : ℕ) : Type 0 where
    low : ℕ
    high : ℕ
    low_below : low < point_count ps
    high_below : high < point_count ps
    min_is : min (rank ps c) (rank ps d) ≡ rank ps low
    max_is : max (rank ps c) (rank ps d) ≡ rank ps high
    low_is : low_of (point ps c) (point ps d) ≡ point ps low
    high_is : high_of (point ps c) (point ps d) ≡ point ps high

  sorted : (c d : ℕ) → c < point_count ps → d < point_count ps → Sorted c d
  sorted c d l m = by_bool (before (point ps c) (point ps d)) up down
    where
      up : before (point ps c) (point ps d) ≡ true → Sorted c d
      up e =
          let k = rank_lt ps c d l e in
          record {
            low = c;
            high = d;
            low_below = l;
            high_below = m;
            min_is = omega arith;
            max_is = omega arith;
            low_is = rw e;
            high_is = rw e;
          }

      down : before (point ps c) (point ps d) ≡ false → Sorted c d
      down e =
          let k = ltb-false (rank ps c) (rank ps d) (rank_below ps c d l m ∙ e) in
          record {
            low = d;
            high = c;
            low_below = m;
            high_below = l;
            min_is = omega arith;
            max_is = omega arith;
            low_is = rw e;
            high_is = rw e;
          }

  pub pair_below_lem : (a b c d : ℕ) → a < point_count ps → b < point_count ps → c < point_count ps → d < point_count ps →
      pair_below (rank ps c) (rank ps d) (rank ps a) (rank ps b) ≡ point_pair_below (point ps c) (point ps d) (point ps a) (point ps b)
  pair_below_lem a b c d la lb lc ld =
      let s = sorted c d lc ld in
      let t = sorted a b la lb in
      rw (s.min_is, s.max_is, t.min_is, t.max_is, s.low_is, s.high_is, t.low_is, t.high_is)
      (tests (rank_below ps s.low t.low s.low_below t.low_below) (rank_same ps s.low t.low s.low_below t.low_below)
      (rank_below ps s.high t.high s.high_below t.high_below))
    where
      tests : {x x' y y' z z' : Bool} → x ≡ x' → y ≡ y' → z ≡ z' → (x || (y && z)) ≡ (x' || (y' && z'))
      tests p q r = cc

-- ---- step 3, by points alone: the edge a b, with c the far corner of its triangle and d that of its neighbour

abbrev pub point_wins : Pt ℤ → Pt ℤ → Pt ℤ → Pt ℤ → Bool
point_wins a b c d = posb (incircle a b c d) || (eq_z (incircle a b c d) (pos 0) && point_pair_below c d a b)

abbrev pub point_flips : Pt ℤ → Pt ℤ → Pt ℤ → Pt ℤ → Bool
point_flips a b c d = point_wins a b c d && posb (orient a d c) && posb (orient d b c)

module _ (ps : List ℤ) (a b c d : ℕ) (la : a < point_count ps) (lb : b < point_count ps) (lc : c < point_count ps) (ld : d < point_count ps) where
  pub wins_points : wins ps a b c d ≡ point_wins (point ps a) (point ps b) (point ps c) (point ps d)
  unfolding wins
  wins_points =
      ap (λ (t : Bool). posb (incircle (point ps a) (point ps b) (point ps c) (point ps d)) || (eq_z (incircle (point ps a) (point ps b) (point ps c) (point ps d)) (pos 0) && t))
      (pair_below_lem ps a b c d la lb lc ld)

  pub flips_points : flips ps a b c d ≡ point_flips (point ps a) (point ps b) (point ps c) (point ps d)
  unfolding flips
  flips_points = ap (λ (t : Bool). t && posb (orient (point ps a) (point ps d) (point ps c)) && posb (orient (point ps d) (point ps b) (point ps c))) wins_points
