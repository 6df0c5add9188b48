-- This file has what the answers say. It has the laws of the lowest offending index and of the table's order, what each row's test says
-- where the row does not refuse, what is known of points and pairs that no row refuses, and what an accepted list keeps. Assumes nothing.
use mathlib.Core.Path.{◌≡◌, refl, sym, ap, ◌∙◌, subst}
use mathlib.Core.Bool.{Bool, true, false, cond, not, ◌&&◌, ◌||◌}
use mathlib.Core.List.{List, [], ◌∷◌}
use Prim.Native.Nat.{ℕ, zero, suc, ◌+◌, ◌*◌, ◌/◌, ◌%◌, ◌≤◌, ◌<◌}
use native.Mathlib.Nat.{not-suc-le-zero}
use native.Mathlib.Decide.{dec_lt, ℕ_discrete}
use native.Mathlib.Omega.{arith}
use lib.Dec.{T, leb, ltb, eqb, lit≤}
use lib.IntN.{ℤ, pos, neg_ℤ, nat_abs, neg_ℤ-neg_ℤ}
use lib.ListN.{length, get_or, get_or-eq_default}
use borrow.Author.Tests.{ltb-false, leb-true, leb-false, eqb-true, eqb-false, not-false}
use Rattle.algebra.specs.Tests.{eq_z, any_to}
use Rattle.algebra.specs.Order.{Pos, NonNeg}
use Rattle.algebra.proofs.Order.{pos_by, nn_by, Sign, is_below_zero, is_zero, is_pos, sign}
use Rattle.plane.specs.Points.{Pt}
use Rattle.plane.specs.Determinants.{orient}
use Rattle.plane.specs.Base.{Side, s0, s1, s2, next, area_of_base, InBase}
use Rattle.plane.proofs.Orient.{orient_cyc, orient_swap}
use Rattle.plane.proofs.Sign.{posb_yes, posb_no, not_posb}
use Rattle.plane.proofs.Test.{Reads, reads_any, reads_eq_z}
use Rattle.signs.specs.Answers.{limit, within}
use Rattle.std.specs.Prelude.{Option, Some, None}
use Rattle.tables.specs.Answers.{Paper, yes as good, refuses, breaks, row, row_at, rule, or_else, lowest}
use Rattle.tables.specs.Data.{point_count, pair_count, point, end_a, end_b, clockwise, base, same}
use Rattle.tables.specs.Refusals.{bad_counts, short_work, far, no_area, right_of, outside, again, bad_pair, in_segment, blocked, crosses, crossing, rows8to10, rows4to10, rows}
use Rattle.tables.specs.Rules.{rule1, rule2, rule3, rule4, rule5, rule6, rule7, rule8}
use Rattle.tables.specs.Verdicts.{and_then, refusals, rules, verdict}

-- ---- tests

pub or_false : (a b : Bool) → (a || b) ≡ false → (a ≡ false) × (b ≡ false)
or_false true b e = absurd (subst T e tt)
or_false false b e = (refl, e)

pub and_true : (a b : Bool) → (a && b) ≡ true → (a ≡ true) × (b ≡ true)
and_true true b e = (refl, e)
and_true false b e = absurd (subst T (sym e) tt)

pub true_t : {b : Bool} → b ≡ true → T b
true_t e = subst T (sym e) tt

pub T_true : (b : Bool) → T b → b ≡ true
T_true true t = refl
T_true false t = absurd t

pub false_not : {b : Bool} → b ≡ false → ¬ T b
false_not e t = subst T e t

pub not_t_false : (b : Bool) → ¬ T b → b ≡ false
not_t_false true f = absurd (f tt)
not_t_false false f = refl

-- A test reads as itself.
pub reads_test : (b : Bool) → Reads b (T b)
reads_test b = record { says = λ t. t; shows = λ t. t }

pub any_false : (n : ℕ) (f : ℕ → Bool) → any_to n f ≡ false → (i : ℕ) → i < n → f i ≡ false
any_false n f e i l = not_t_false (f i) (λ t. false_not e ((reads_any n (λ i. reads_test (f i))).shows (i, l, t)))

-- ---- the lowest offending index: it is nowhere exactly where nothing below n offends, and it is at i exactly where i is below n and
-- offends, and nothing below i does

clash : {X : Type 0} → ◌≡◌ {A = ℕ} 0 1 → X
clash e = absurd (omega arith)

or_else_nowhere : (a b : Option ℕ) → or_else a b ≡ None → (a ≡ None) × (b ≡ None)
or_else_nowhere (Some i) b e = (e, cc)
or_else_nowhere None b e = (refl, e)

test_nowhere : (n : ℕ) (b : Bool) → cond b (Some n) None ≡ None → b ≡ false
test_nowhere n true e = cc
test_nowhere n false e = refl

test_at : (n i : ℕ) (b : Bool) → cond b (Some n) None ≡ Some i → (b ≡ true) × (n ≡ i)
test_at n i true e = (refl, cc)
test_at n i false e = (cc, cc)

module _ (f : ℕ → Bool) where
  pub lowest_nowhere : (n : ℕ) → lowest n f ≡ None → (i : ℕ) → i < n → f i ≡ false
  unfolding lowest
  lowest_nowhere zero e i l = absurd (not-suc-le-zero l)
  lowest_nowhere (suc n) e i l =
      let p = or_else_nowhere (lowest n f) (cond (f n) (Some n) None) e in
      go (lowest_nowhere n p.0) (test_nowhere n (f n) p.1) (dec_lt i n)
    where
      go : ((i : ℕ) → i < n → f i ≡ false) → f n ≡ false → Dec (i < n) → f i ≡ false
      go ih h (yes k) = ih i k
      go ih h (no k) = let q : n ≡ i = omega arith in subst (λ (j : ℕ). f j ≡ false) q h

  pub nowhere_lowest : (n : ℕ) → ((i : ℕ) → i < n → f i ≡ false) → lowest n f ≡ None
  unfolding lowest
  nowhere_lowest zero h = refl
  nowhere_lowest (suc n) h = step (nowhere_lowest n (λ i l. h i (omega arith))) (h n (omega arith))
    where
      step : lowest n f ≡ None → f n ≡ false → or_else (lowest n f) (cond (f n) (Some n) None) ≡ None
      step e q = rw (e, q)

  -- The index is below n, offends, and is the lowest that does.
  pub record LowestAt (n i : ℕ) : Type 0 where
    pub below : i < n
    pub offends : f i ≡ true
    pub lower : (j : ℕ) → j < i → f j ≡ false

  pub lowest_at : (n i : ℕ) → lowest n f ≡ Some i → LowestAt n i
  unfolding lowest
  lowest_at zero i e = clash (cc)
  lowest_at (suc n) i e = go (lowest n f) refl (lowest_at n i)
    where
      more : LowestAt n i → LowestAt (suc n) i
      more r = let l = r.below in record { below = omega arith; offends = r.offends; lower = r.lower }

      last : lowest n f ≡ None → (f n ≡ true) × (n ≡ i) → LowestAt (suc n) i
      last q p =
          let k = p.1 in
          record {
            below = omega arith;
            offends = subst (λ (j : ℕ). f j ≡ true) p.1 p.0;
            lower = λ j l. lowest_nowhere n q j (omega arith);
          }

      go : (a : Option ℕ) → lowest n f ≡ a → (lowest n f ≡ Some i → LowestAt n i) → LowestAt (suc n) i
      go (Some k) q ih = more (ih (q ∙ (rw q at e)))
      go None q ih = last q (test_at n i (f n) (rw q at e))

  pub at_lowest : (n i : ℕ) → i < n → f i ≡ true → ((j : ℕ) → j < i → f j ≡ false) → lowest n f ≡ Some i
  unfolding lowest
  at_lowest zero i l e h = absurd (not-suc-le-zero l)
  at_lowest (suc n) i l e h = go (at_lowest n i) (dec_lt i n)
    where
      found : lowest n f ≡ Some i → or_else (lowest n f) (cond (f n) (Some n) None) ≡ Some i
      found q = rw q

      last : lowest n f ≡ None → n ≡ i → f n ≡ true → or_else (lowest n f) (cond (f n) (Some n) None) ≡ Some i
      last q k d = rw (q, d, k)

      go : (i < n → f i ≡ true → ((j : ℕ) → j < i → f j ≡ false) → lowest n f ≡ Some i)
          → Dec (i < n) → or_else (lowest n f) (cond (f n) (Some n) None) ≡ Some i
      go ih (yes k) = found (ih k e h)
      go ih (no k) =
          let q : i ≡ n = omega arith in
          last (nowhere_lowest n (λ j m. h j (omega arith))) (sym q) (subst (λ (j : ℕ). f j ≡ true) q e)

-- ---- an answer that is yes: each row's test is false, and each rule's is true

pub row_yes : (k : ℕ) (b : Bool) (after : Paper) → row k b after ≡ good → (b ≡ false) × (after ≡ good)
row_yes k true after e = (cc, cc)
row_yes k false after e = (refl, e)

pub row_at_yes : (k : ℕ) (l : Option ℕ) (after : Paper) → row_at k l after ≡ good → (l ≡ None) × (after ≡ good)
row_at_yes k (Some i) after e = (cc, cc)
row_at_yes k None after e = (refl, e)

pub rule_yes : (k : ℕ) (b : Bool) (after : Paper) → rule k b after ≡ good → (b ≡ true) × (after ≡ good)
rule_yes k true after e = (refl, e)
rule_yes k false after e = (cc, cc)

pub and_then_yes : (p after : Paper) → and_then p after ≡ good → (p ≡ good) × (after ≡ good)
and_then_yes good after e = (refl, e)
and_then_yes (refuses k i) after e = (e, cc)
and_then_yes (breaks k) after e = (e, cc)

-- No row of the table refuses: the test of each is false, and of a row with a place it is false at every place.
pub record Silent (odd short : Bool) (ps : List ℤ) (qs : List ℕ) : Type 0 where
  pub row1 : (not (eqb (length ps % 2) 0) || not (eqb (length qs % 2) 0) || odd) ≡ false
  pub row2 : bad_counts (point_count ps) (pair_count qs) ≡ false
  pub row3 : short ≡ false
  pub row4 : (i : ℕ) → i < point_count ps → far ps i ≡ false
  pub row5 : no_area ps ≡ false
  pub row6 : (i : ℕ) → i < point_count ps → outside ps i ≡ false
  pub row7 : (i : ℕ) → i < point_count ps → again ps i ≡ false
  pub row8 : (k : ℕ) → k < pair_count qs → bad_pair (point_count ps) qs k ≡ false
  pub row9 : (k : ℕ) → k < pair_count qs → blocked ps qs k ≡ false
  pub row10 : (k : ℕ) → k < pair_count qs → crossing ps qs k ≡ false

pub silent : (odd short : Bool) (ps : List ℤ) (qs : List ℕ) → rows odd short ps qs ≡ good → Silent odd short ps qs
silent odd short ps qs e =
    let n : ℕ = point_count ps in
    let m : ℕ = pair_count qs in
    let r1 = row_yes 1 (not (eqb (length ps % 2) 0) || not (eqb (length qs % 2) 0) || odd) (row 2 (bad_counts n m) (row 3 short (rows4to10 ps qs))) e in
    let r2 = row_yes 2 (bad_counts n m) (row 3 short (rows4to10 ps qs)) r1.1 in
    let r3 = row_yes 3 short (rows4to10 ps qs) r2.1 in
    let r4 = row_at_yes 4 (lowest n (far ps)) (row 5 (no_area ps) (row_at 6 (lowest n (outside ps)) (row_at 7 (lowest n (again ps)) (rows8to10 ps qs)))) r3.1 in
    let r5 = row_yes 5 (no_area ps) (row_at 6 (lowest n (outside ps)) (row_at 7 (lowest n (again ps)) (rows8to10 ps qs))) r4.1 in
    let r6 = row_at_yes 6 (lowest n (outside ps)) (row_at 7 (lowest n (again ps)) (rows8to10 ps qs)) r5.1 in
    let r7 = row_at_yes 7 (lowest n (again ps)) (rows8to10 ps qs) r6.1 in
    let r8 = row_at_yes 8 (lowest m (bad_pair n qs)) (row_at 9 (lowest m (blocked ps qs)) (row_at 10 (lowest m (crossing ps qs)) good)) r7.1 in
    let r9 = row_at_yes 9 (lowest m (blocked ps qs)) (row_at 10 (lowest m (crossing ps qs)) good) r8.1 in
    let r10 = row_at_yes 10 (lowest m (crossing ps qs)) good r9.1 in
    record {
      row1 = r1.0;
      row2 = r2.0;
      row3 = r3.0;
      row4 = lowest_nowhere (far ps) n r4.0;
      row5 = r5.0;
      row6 = lowest_nowhere (outside ps) n r6.0;
      row7 = lowest_nowhere (again ps) n r7.0;
      row8 = lowest_nowhere (bad_pair n qs) m r8.0;
      row9 = lowest_nowhere (blocked ps qs) m r9.0;
      row10 = lowest_nowhere (crossing ps qs) m r10.0;
    }

pub silent_rows : (odd short : Bool) (ps : List ℤ) (qs : List ℕ) → Silent odd short ps qs → rows odd short ps qs ≡ good
silent_rows odd short ps qs r =
    rw (
      r.row1,
      r.row2,
      r.row3,
      nowhere_lowest (far ps) (point_count ps) r.row4,
      r.row5,
      nowhere_lowest (outside ps) (point_count ps) r.row6,
      nowhere_lowest (again ps) (point_count ps) r.row7,
      nowhere_lowest (bad_pair (point_count ps) qs) (pair_count qs) r.row8,
      nowhere_lowest (blocked ps qs) (pair_count qs) r.row9,
      nowhere_lowest (crossing ps qs) (pair_count qs) r.row10,
    )

-- ---- a row or a rule that answers, and one that passes on

pub row_stops : (k : ℕ) {b : Bool} (after : Paper) → b ≡ true → row k b after ≡ refuses k 0
row_stops k after e = rw e

pub row_passes : (k : ℕ) {b : Bool} (after : Paper) → b ≡ false → row k b after ≡ after
row_passes k after e = rw e

pub row_at_stops : (k : ℕ) {l : Option ℕ} {i : ℕ} (after : Paper) → l ≡ Some i → row_at k l after ≡ refuses k i
row_at_stops k after e = rw e

pub row_at_passes : (k : ℕ) {l : Option ℕ} (after : Paper) → l ≡ None → row_at k l after ≡ after
row_at_passes k after e = rw e

pub rule_stops : (k : ℕ) {b : Bool} (after : Paper) → b ≡ false → rule k b after ≡ breaks k
rule_stops k after e = rw e

pub rule_passes : (k : ℕ) {b : Bool} (after : Paper) → b ≡ true → rule k b after ≡ after
rule_passes k after e = rw e

-- ---- the table's order: the answer is the first row that offends

-- A test with no place is a row whose place is 0.
abbrev pub once : Bool → Option ℕ
once offends = cond offends (Some 0) None

-- These are rows 1 to 10 in the table's order.
abbrev pub ordered_rows : Bool → Bool → List ℤ → List ℕ → List (Option ℕ)
ordered_rows odd short ps qs =
    once (not (eqb (length ps % 2) 0) || not (eqb (length qs % 2) 0) || odd)
    ∷ once (bad_counts (point_count ps) (pair_count qs))
    ∷ once short
    ∷ lowest (point_count ps) (far ps)
    ∷ once (no_area ps)
    ∷ lowest (point_count ps) (outside ps)
    ∷ lowest (point_count ps) (again ps)
    ∷ lowest (pair_count qs) (bad_pair (point_count ps) qs)
    ∷ lowest (pair_count qs) (blocked ps qs)
    ∷ lowest (pair_count qs) (crossing ps qs)
    ∷ []

-- This is the answer of the first of them that offends, where they are numbered from k on.
unfoldable pub first_of : ℕ → List (Option ℕ) → Paper
first_of k [] = good
first_of k (l ∷ ls) = row_at k l (first_of (suc k) ls)

pub in_order : (odd short : Bool) (ps : List ℤ) (qs : List ℕ) → rows odd short ps qs ≡ first_of 1 (ordered_rows odd short ps qs)
unfolding first_of
in_order odd short ps qs =
    plain 1 (not (eqb (length ps % 2) 0) || not (eqb (length qs % 2) 0) || odd)
    (plain 2 (bad_counts (point_count ps) (pair_count qs)) (plain 3 short (ap (row_at 4 (lowest (point_count ps) (far ps))) (plain 5 (no_area ps) refl))))
  where
    plain : (k : ℕ) (b : Bool) {p q : Paper} → p ≡ q → row k b p ≡ row_at k (once b) q
    plain k true e = refl
    plain k false e = e

-- Of these rows, row j offends at the place i, and no row before it offends.
pub record First (ls : List (Option ℕ)) (j i : ℕ) : Type 0 where
  pub offends : get_or ls j None ≡ Some i
  pub silent_before : (m : ℕ) → m < j → get_or ls m None ≡ None

first_row : (k : ℕ) (ls : List (Option ℕ)) (m i : ℕ) → first_of k ls ≡ refuses m i → (j : ℕ) × (m ≡ k + j) × First ls j i
unfolding first_of
first_row k [] m i e = clash (cc)
first_row k (Some a ∷ ls) m i e =
    let p : k ≡ m = cc in
    (0, omega arith, record { offends = cc; silent_before = λ m l. absurd (not-suc-le-zero l) })
first_row k (None ∷ ls) m i e = later (first_row (suc k) ls m i e)
  where
    later : (j : ℕ) × (m ≡ suc k + j) × First ls j i → (j : ℕ) × (m ≡ k + j) × First (None ∷ ls) j i
    later r = let p = r.1 in (suc r.0, omega arith, record { offends = r.2.offends; silent_before = before r.0 r.2.silent_before })
      where
        before : (j : ℕ) → ((m : ℕ) → m < j → get_or ls m None ≡ None) → (m : ℕ) → m < suc j → get_or (None ∷ ls) m None ≡ None
        before j h zero l = refl
        before j h (suc m) l = h m (omega arith)

row_first : (k : ℕ) (ls : List (Option ℕ)) (j i : ℕ) → First ls j i → first_of k ls ≡ refuses (k + j) i
unfolding first_of
row_first k [] j i r = let e = r.offends in clash (cc)
row_first k (l ∷ ls) zero i r = let q : k + 0 ≡ k = omega arith in rw (r.offends, q)
row_first k (l ∷ ls) (suc j) i r =
    let q : k + suc j ≡ suc k + j = omega arith in
    rw (r.silent_before 0 (omega arith), q)
    (row_first (suc k) ls j i (record { offends = r.offends; silent_before = λ m h. r.silent_before (suc m) (omega arith) }))

-- The table refuses by row j + 1 at the place i exactly where that row offends there and no row before it offends.
pub refused_first : (odd short : Bool) (ps : List ℤ) (qs : List ℕ) (m i : ℕ) → rows odd short ps qs ≡ refuses m i →
    (j : ℕ) × (m ≡ 1 + j) × First (ordered_rows odd short ps qs) j i
refused_first odd short ps qs m i e = first_row 1 (ordered_rows odd short ps qs) m i (sym (in_order odd short ps qs) ∙ e)

pub first_refused : (odd short : Bool) (ps : List ℤ) (qs : List ℕ) (j i : ℕ) → First (ordered_rows odd short ps qs) j i →
    rows odd short ps qs ≡ refuses (1 + j) i
first_refused odd short ps qs j i r = in_order odd short ps qs ∙ row_first 1 (ordered_rows odd short ps qs) j i r

-- ---- what each row's test says where it is false

-- Two points at one place are one point.
pub same_point : (p q : Pt ℤ) → same p q ≡ true → p ≡ q
same_point p q e =
    let d = and_true (eq_z p.x q.x) (eq_z p.y q.y) e in
    let u : p.x ≡ q.x = (reads_eq_z p.x q.x).says (true_t d.0) in
    let v : p.y ≡ q.y = (reads_eq_z p.y q.y).says (true_t d.1) in
    λ i. record { x = u i; y = v i }

pub point_same : (p q : Pt ℤ) → p ≡ q → same p q ≡ true
point_same p q e = subst (λ (z : Pt ℤ). same p z ≡ true) e (itself p)
  where
    itself : (p : Pt ℤ) → same p p ≡ true
    itself p =
        rw (T_true (eq_z p.x p.x) ((reads_eq_z p.x p.x).shows refl)) (T_true (eq_z p.y p.y) ((reads_eq_z p.y p.y).shows refl))

-- Row 1: the two lists are of even length, and what else the row asks holds.
pub even_lengths : (odd : Bool) (a b : ℕ) → (not (eqb (a % 2) 0) || not (eqb (b % 2) 0) || odd) ≡ false → (a % 2 ≡ 0) × (b % 2 ≡ 0) × (odd ≡ false)
even_lengths odd a b e =
    let p = or_false (not (eqb (a % 2) 0) || not (eqb (b % 2) 0)) odd e in
    let q = or_false (not (eqb (a % 2) 0)) (not (eqb (b % 2) 0)) p.0 in
    (eqb-true (a % 2) 0 (not-false (eqb (a % 2) 0) q.0), eqb-true (b % 2) 0 (not-false (eqb (b % 2) 0) q.1), p.1)

-- Row 2: the counts are within their limits.
pub good_counts : (n m : ℕ) → bad_counts n m ≡ false → (3 ≤ n) × (n ≤ 4096) × (m ≤ 12288)
good_counts n m e =
    let p = or_false (ltb n 3 || ltb 4096 n) (ltb 12288 m) e in
    let q = or_false (ltb n 3) (ltb 4096 n) p.0 in
    (ltb-false n 3 q.0, ltb-false 4096 n q.1, ltb-false 12288 m p.1)

-- Row 4: both coordinates of the point are within the limit.
pub near_point : (ps : List ℤ) (i : ℕ) → far ps i ≡ false → (nat_abs (get_or ps (2 * i) (pos 0)) ≤ limit) × (nat_abs (get_or ps (2 * i + 1) (pos 0)) ≤ limit)
unfolding point
near_point ps i e =
    let x : ℕ = nat_abs (get_or ps (2 * i) (pos 0)) in
    let y : ℕ = nat_abs (get_or ps (2 * i + 1) (pos 0)) in
    let p = and_true (leb x limit) (leb y limit) (not-false (within limit (point ps i)) e) in
    (leb-true x limit p.0, leb-true y limit p.1)

-- So each number of a list of even length is within the limit. Past the end of the list the reading is 0.
pub near_list : (ps : List ℤ) → length ps % 2 ≡ 0 → ((i : ℕ) → i < point_count ps → far ps i ≡ false) → (i : ℕ) → nat_abs (get_or ps i (pos 0)) ≤ limit
near_list ps e h i = go (dec_lt i (length ps)) (ℕ_discrete (i % 2) 0)
  where
    go : Dec (i < length ps) → Dec (i % 2 ≡ 0) → nat_abs (get_or ps i (pos 0)) ≤ limit
    go (no k) d = subst (λ (z : ℤ). nat_abs z ≤ limit) (sym (get_or-eq_default ps (pos 0) (omega arith))) (lit≤ tt)
    go (yes k) (yes d) =
        let q : 2 * (i / 2) ≡ i = omega arith in
        subst (λ (j : ℕ). nat_abs (get_or ps j (pos 0)) ≤ limit) q (near_point ps (i / 2) (h (i / 2) (omega arith))).0
    go (yes k) (no d) =
        let q : 2 * (i / 2) + 1 ≡ i = omega arith in
        subst (λ (j : ℕ). nat_abs (get_or ps j (pos 0)) ≤ limit) q (near_point ps (i / 2) (h (i / 2) (omega arith))).1

-- Row 5: the base is counterclockwise as it is read, since a clockwise one is turned.
pub area_turns : (ps : List ℤ) → no_area ps ≡ false → Pos (area_of_base (base ps))
unfolding base clockwise
area_turns ps n = go (sign (orient a b c))
  where
    a : Pt ℤ
    a = point ps 0

    b : Pt ℤ
    b = point ps 1

    c : Pt ℤ
    c = point ps 2

    turned : (t : Bool) → t ≡ true → Pos (neg_ℤ (orient a b c)) → Pos (orient a (point ps (cond t 2 1)) (point ps (cond t 1 2)))
    turned t e h = rw e (pos_by (orient_swap a c b ∙ ap neg_ℤ (sym (orient_cyc a b c ∙ orient_cyc b c a))) h)

    kept : (t : Bool) → t ≡ false → Pos (orient a b c) → Pos (orient a (point ps (cond t 2 1)) (point ps (cond t 1 2)))
    kept t e h = rw e h

    go : Sign (orient a b c) → Pos (area_of_base (base ps))
    go (is_below_zero h) = turned (clockwise ps) (posb_yes (neg_ℤ (orient a b c)) h) h
    go (is_pos h) = kept (clockwise ps) (posb_no (neg_ℤ (orient a b c)) (pos_by (neg_ℤ-neg_ℤ (orient a b c)) h)) h
    go (is_zero e) = absurd (false_not n ((reads_eq_z (orient a b c) (pos 0)).shows e))

-- Row 6: the point is in the base or on its boundary.
pub not_outside : (ps : List ℤ) (i : ℕ) → outside ps i ≡ false → InBase (base ps) (point ps i)
not_outside ps i e = each
  where
    ok : (s : Side) → right_of ps s (point ps i) ≡ false → NonNeg (orient (base ps s) (base ps (next s)) (point ps i))
    ok s h =
        nn_by (sym (neg_ℤ-neg_ℤ (orient (base ps s) (base ps (next s)) (point ps i))))
        (not_posb (neg_ℤ (orient (base ps s) (base ps (next s)) (point ps i))) h)

    last : ((right_of ps s0 (point ps i) || right_of ps s1 (point ps i)) ≡ false) × (right_of ps s2 (point ps i) ≡ false)
    last = or_false (right_of ps s0 (point ps i) || right_of ps s1 (point ps i)) (right_of ps s2 (point ps i)) e

    first : (right_of ps s0 (point ps i) ≡ false) × (right_of ps s1 (point ps i) ≡ false)
    first = or_false (right_of ps s0 (point ps i)) (right_of ps s1 (point ps i)) last.0

    each : InBase (base ps) (point ps i)
    each s0 = ok s0 first.0
    each s1 = ok s1 first.1
    each s2 = ok s2 last.1

-- Row 7: no two of the points below n are equal.
pub all_differ : (ps : List ℤ) (n : ℕ) → ((i : ℕ) → i < n → again ps i ≡ false) → (i j : ℕ) → i < n → j < n → point ps i ≡ point ps j → i ≡ j
all_differ ps n h i j l m e = go (dec_lt i j) (dec_lt j i)
  where
    clear : (j i : ℕ) → i < n → j < i → point ps j ≡ point ps i → ⊥
    clear j i l k e =
        false_not (any_false i (λ j. same (point ps j) (point ps i)) (h i l) j k) (true_t (point_same (point ps j) (point ps i) e))

    go : Dec (i < j) → Dec (j < i) → i ≡ j
    go (yes k) d = absurd (clear i j m k e)
    go (no k) (yes d) = absurd (clear j i l d (sym e))
    go (no k) (no d) = omega arith

-- Row 8: both ends of the pair are below n, and they differ.
pub good_pair : (n : ℕ) (qs : List ℕ) (k : ℕ) → bad_pair n qs k ≡ false → (end_a qs k < n) × (end_b qs k < n) × ¬ (end_a qs k ≡ end_b qs k)
good_pair n qs k e =
    let p = or_false (leb n (end_a qs k) || leb n (end_b qs k)) (eqb (end_a qs k) (end_b qs k)) e in
    let q = or_false (leb n (end_a qs k)) (leb n (end_b qs k)) p.0 in
    (leb-false n (end_a qs k) q.0, leb-false n (end_b qs k) q.1, eqb-false (end_a qs k) (end_b qs k) p.1)

-- ---- what is known of points and pairs that no row refuses

module _ {odd short : Bool} {ps : List ℤ} {qs : List ℕ} (r : Silent odd short ps qs) where
  pub even_points : length ps % 2 ≡ 0
  even_points = (even_lengths odd (length ps) (length qs) r.row1).0

  pub even_pairs : length qs % 2 ≡ 0
  even_pairs = (even_lengths odd (length ps) (length qs) r.row1).1

  pub not_odd : odd ≡ false
  not_odd = (even_lengths odd (length ps) (length qs) r.row1).2

  pub points_length : length ps ≡ 2 * point_count ps
  points_length = let e = even_points in omega arith

  pub pairs_length : length qs ≡ 2 * pair_count qs
  pairs_length = let e = even_pairs in omega arith

  pub points_least : 3 ≤ point_count ps
  points_least = (good_counts (point_count ps) (pair_count qs) r.row2).0

  pub points_most : point_count ps ≤ 4096
  points_most = (good_counts (point_count ps) (pair_count qs) r.row2).1

  pub pairs_most : pair_count qs ≤ 12288
  pairs_most = (good_counts (point_count ps) (pair_count qs) r.row2).2

  pub coordinates : (i : ℕ) → nat_abs (get_or ps i (pos 0)) ≤ limit
  coordinates = near_list ps even_points r.row4

  pub base_turns : Pos (area_of_base (base ps))
  base_turns = area_turns ps r.row5

  pub in_base : (i : ℕ) → i < point_count ps → InBase (base ps) (point ps i)
  in_base i l = not_outside ps i (r.row6 i l)

  pub no_two : (i j : ℕ) → i < point_count ps → j < point_count ps → point ps i ≡ point ps j → i ≡ j
  no_two = all_differ ps (point_count ps) r.row7

  pub end_a_low : (k : ℕ) → k < pair_count qs → end_a qs k < point_count ps
  end_a_low k l = (good_pair (point_count ps) qs k (r.row8 k l)).0

  pub end_b_low : (k : ℕ) → k < pair_count qs → end_b qs k < point_count ps
  end_b_low k l = (good_pair (point_count ps) qs k (r.row8 k l)).1

  pub ends_differ : (k : ℕ) → k < pair_count qs → ¬ (end_a qs k ≡ end_b qs k)
  ends_differ k l = (good_pair (point_count ps) qs k (r.row8 k l)).2

  -- No point lies strictly inside a pair's segment.
  pub clear_of : (k i : ℕ) → k < pair_count qs → i < point_count ps → in_segment (point ps (end_a qs k)) (point ps (end_b qs k)) (point ps i) ≡ false
  clear_of k i l m = any_false (point_count ps) (λ i. in_segment (point ps (end_a qs k)) (point ps (end_b qs k)) (point ps i)) (r.row9 k l) i m

  -- No pair properly crosses one with a lower index.
  pub uncrossed : (k j : ℕ) → k < pair_count qs → j < k →
      crosses (point ps (end_a qs j)) (point ps (end_b qs j)) (point ps (end_a qs k)) (point ps (end_b qs k)) ≡ false
  uncrossed k j l m =
      any_false k (λ j. crosses (point ps (end_a qs j)) (point ps (end_b qs j)) (point ps (end_a qs k)) (point ps (end_b qs k))) (r.row10 k l) j m

-- ---- an accepted list: no row refuses, and every rule holds

pub record Accepted (ps : List ℤ) (qs xs : List ℕ) (work : ℕ) : Type 0 where
  pub rows_pass : Silent (not (eqb (length xs % 3) 0)) (short_work (point_count ps) work) ps qs
  pub keeps1 : rule1 ps xs ≡ true
  pub keeps2 : rule2 xs ≡ true
  pub keeps3 : rule3 ps xs ≡ true
  pub keeps4 : rule4 ps xs ≡ true
  pub keeps5 : rule5 ps xs ≡ true
  pub keeps6 : rule6 qs xs ≡ true
  pub keeps7 : rule7 ps qs xs ≡ true
  pub keeps8 : rule8 xs ≡ true

pub accepted : (ps : List ℤ) (qs xs : List ℕ) (work : ℕ) → verdict ps qs xs work ≡ good → Accepted ps qs xs work
accepted ps qs xs work e =
    let s = and_then_yes (refusals ps qs xs work) (rules ps qs xs) e in
    let a7 : Paper = rule 8 (rule8 xs) good in
    let a6 : Paper = rule 7 (rule7 ps qs xs) a7 in
    let a5 : Paper = rule 6 (rule6 qs xs) a6 in
    let a4 : Paper = rule 5 (rule5 ps xs) a5 in
    let a3 : Paper = rule 4 (rule4 ps xs) a4 in
    let a2 : Paper = rule 3 (rule3 ps xs) a3 in
    let a1 : Paper = rule 2 (rule2 xs) a2 in
    let r1 = rule_yes 1 (rule1 ps xs) a1 s.1 in
    let r2 = rule_yes 2 (rule2 xs) a2 r1.1 in
    let r3 = rule_yes 3 (rule3 ps xs) a3 r2.1 in
    let r4 = rule_yes 4 (rule4 ps xs) a4 r3.1 in
    let r5 = rule_yes 5 (rule5 ps xs) a5 r4.1 in
    let r6 = rule_yes 6 (rule6 qs xs) a6 r5.1 in
    let r7 = rule_yes 7 (rule7 ps qs xs) a7 r6.1 in
    let r8 = rule_yes 8 (rule8 xs) good r7.1 in
    record {
      rows_pass = silent (not (eqb (length xs % 3) 0)) (short_work (point_count ps) work) ps qs s.0;
      keeps1 = r1.0;
      keeps2 = r2.0;
      keeps3 = r3.0;
      keeps4 = r4.0;
      keeps5 = r5.0;
      keeps6 = r6.0;
      keeps7 = r7.0;
      keeps8 = r8.0;
    }

pub accepted_yes : (ps : List ℤ) (qs xs : List ℕ) (work : ℕ) → Accepted ps qs xs work → verdict ps qs xs work ≡ good
accepted_yes ps qs xs work r =
    ap (λ (p : Paper). and_then p (rules ps qs xs)) (silent_rows (not (eqb (length xs % 3) 0)) (short_work (point_count ps) work) ps qs r.rows_pass) ∙
    rw (r.keeps1, r.keeps2, r.keeps3, r.keeps4, r.keeps5, r.keeps6, r.keeps7, r.keeps8)
