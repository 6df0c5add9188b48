-- The value beside a number is below 2^32: a place is a number of a point or of a pair, and row 2 bounds how many there are; a rule's number is at
-- most 8; and a sheet has less than 2n triples. Assumes nothing.
use mathlib.Core.Path.{◌≡◌, refl, sym, ap, ◌∙◌, subst}
use mathlib.Core.Bool.{Bool, true, false, not, ◌||◌}
use mathlib.Core.List.{List}
use Prim.Native.Nat.{ℕ, ◌+◌, ◌*◌, ◌≤◌, ◌<◌, ◌%◌}
use native.Mathlib.Omega.{arith}
use lib.Dec.{lit≤, eqb, ltb}
use lib.IntN.{ℤ}
use lib.ListN.{length}
use borrow.Author.Tests.{ltb-false}
use Rattle.nets.specs.Building.{on_rim}
use Rattle.tables.specs.Answers.{Paper, yes as good, refuses, breaks, row, row_at, rule, lowest, of_refusal}
use Rattle.tables.specs.Data.{point_count, pair_count, point, base}
use Rattle.tables.specs.Refusals.{rows, rows8to10, rows4to10, bad_counts, far, no_area, outside, again, bad_pair, blocked, crossing, short_work, short_room}
use Rattle.tables.specs.Rules.{rule1, rule2, rule3, rule4, rule5, rule6, rule7, rule8}
use Rattle.tables.specs.Verdicts.{and_then, rules, refusals, verdict}
use Rattle.tables.specs.declared.Refusal.{Refusal}
use Rattle.std.specs.Prelude.{Option, Some, None}
use Rattle.tables.proofs.Table.{lowest_at, or_false}
use Rattle.cutter.specs.Cuts.{Cutting, Passed, sheet, stuck, asked, of_outcome}
use Rattle.std.specs.Prelude.{Result, Ok, Err}
use Rattle.row_numbers.specs.Numbers.{value_in, place_of}
use Rattle.packing.specs.Packed.{shift, packed}
use Rattle.exports.specs.Told.{cut_number, cut_value, Told}

-- ---- the rows
row_below : (j : ℕ) (b : Bool) (after : Paper) → value_in after < shift → value_in (row j b after) < shift
row_below j true after h = lit≤ tt
row_below j false after h = h

at_below : (j n : ℕ) (f : ℕ → Bool) (after : Paper) → n ≤ 12288 → value_in after < shift → value_in (row_at j (lowest n f) after) < shift
at_below j n f after l h = go (lowest n f) refl
  where
    go : (a : Option ℕ) → lowest n f ≡ a → value_in (row_at j a after) < shift
    go (Some i) e = let b = (lowest_at f n i e).below in omega arith
    go None e = h

-- row 2 bounds the counts for the rows after it
counted : (n m : ℕ) (after : Paper) → (n ≤ 4096 → m ≤ 12288 → value_in after < shift) → value_in (row 2 (bad_counts n m) after) < shift
counted n m after h = go (bad_counts n m) refl
  where
    go : (b : Bool) → bad_counts n m ≡ b → value_in (row 2 b after) < shift
    go true e = lit≤ tt
    go false e =
        let p = or_false (ltb n 3 || ltb 4096 n) (ltb 12288 m) e in
        let q = or_false (ltb n 3) (ltb 4096 n) p.0 in
        let a = ltb-false 4096 n q.1 in
        let b = ltb-false 12288 m p.1 in
        h (omega arith) (omega arith)

pub rows_below : (odd short : Bool) (ps : List ℤ) (qs : List ℕ) → value_in (rows odd short ps qs) < shift
rows_below odd short ps qs =
    row_below 1 (not (eqb (length ps % 2) 0) || not (eqb (length qs % 2) 0) || odd) _
    (counted (point_count ps) (pair_count qs) _
    (λ ln l.
    let k : point_count ps ≤ 12288 = omega arith in
    row_below 3 short (rows4to10 ps qs)
    (at_below 4 (point_count ps) (far ps) _ k
    (row_below 5 (no_area ps) _
    (at_below 6 (point_count ps) (outside ps) _ k
    (at_below 7 (point_count ps) (again ps) (rows8to10 ps qs) k
    (at_below 8 (pair_count qs) (bad_pair (point_count ps) qs) _ l
    (at_below 9 (pair_count qs) (blocked ps qs) _ l (at_below 10 (pair_count qs) (crossing ps qs) good l (lit≤ tt))))))))))

-- ---- the rules
rule_below : (j : ℕ) → j < shift → (b : Bool) (after : Paper) → value_in after < shift → value_in (rule j b after) < shift
rule_below j l true after h = h
rule_below j l false after h = l

rules_below : (ps : List ℤ) (qs xs : List ℕ) → value_in (rules ps qs xs) < shift
rules_below ps qs xs =
    rule_below 1 (lit≤ tt) (rule1 ps xs) _
    (rule_below 2 (lit≤ tt) (rule2 xs) _
    (rule_below 3 (lit≤ tt) (rule3 ps xs) _
    (rule_below 4 (lit≤ tt) (rule4 ps xs) _
    (rule_below 5 (lit≤ tt) (rule5 ps xs) _
    (rule_below 6 (lit≤ tt) (rule6 qs xs) _ (rule_below 7 (lit≤ tt) (rule7 ps qs xs) _ (rule_below 8 (lit≤ tt) (rule8 xs) good (lit≤ tt))))))))

pub verdict_below : (ps : List ℤ) (qs xs : List ℕ) (work : ℕ) → value_in (verdict ps qs xs work) < shift
verdict_below ps qs xs work = go (refusals ps qs xs work) (rows_below (not (eqb (length xs % 3) 0)) (short_work (point_count ps) work) ps qs)
  where
    go : (p : Paper) → value_in p < shift → value_in (and_then p (rules ps qs xs)) < shift
    go good h = rules_below ps qs xs
    go (refuses j i) h = h
    go (breaks j) h = h

-- ---- the cutter's outcome

-- data that pass the rows have few points and few pairs
row_yes : (j : ℕ) (b : Bool) (after : Paper) → row j b after ≡ good → (b ≡ false) × (after ≡ good)
row_yes j true after e = absurd (let z : ◌≡◌ {A = ℕ} 0 1 = cc in omega arith)
row_yes j false after e = (refl, e)

record Few (ps : List ℤ) (qs : List ℕ) : Type 0 where
  points : point_count ps ≤ 4096
  pairs : pair_count qs ≤ 12288

few : (odd short : Bool) (ps : List ℤ) (qs : List ℕ) → rows odd short ps qs ≡ good → Few ps qs
few odd short ps qs e =
    let d = (row_yes 1 (not (eqb (length ps % 2) 0) || not (eqb (length qs % 2) 0) || odd) _ e).1 in
    let b = (row_yes 2 (bad_counts (point_count ps) (pair_count qs)) _ d).0 in
    let p = or_false (ltb (point_count ps) 3 || ltb 4096 (point_count ps)) (ltb 12288 (pair_count qs)) b in
    let q = or_false (ltb (point_count ps) 3) (ltb 4096 (point_count ps)) p.0 in
    let x = ltb-false 4096 (point_count ps) q.1 in
    let y = ltb-false 12288 (pair_count qs) p.1 in
    record { points = omega arith; pairs = omega arith }

passed_below : (ps : List ℤ) (qs out work out' : List ℕ) (r : Result ℕ Refusal) → Few ps qs → Passed ps qs out work out' r → cut_value r < shift
passed_below ps qs out work out' r f (sheet T w) = few_triples T (point_count ps) (on_rim (point ps) (base ps) (point_count ps)) f.points w.count
  where
    few_triples : (T n h : ℕ) → n ≤ 4096 → T + 2 + h ≡ 2 * n → T < shift
    few_triples T n h l e = omega arith
passed_below ps qs out work out' r f (stuck k l g e) = small k (pair_count qs) f.pairs l
  where
    small : (k m : ℕ) → m ≤ 12288 → k < m → k < shift
    small k m l h = omega arith

-- the paper's value of an outcome is the outcome's, where the paper refuses
refused_below : (r : Result ℕ Refusal) (p : Paper) → ¬ (p ≡ good) → of_outcome r ≡ p → value_in p < shift → cut_value r < shift
refused_below (Ok T) p f e h = absurd (f (sym e))
refused_below (Err r) p f e h = subst (λ (q : Paper). value_in q < shift) (sym e) h

asked_yes : (p : Paper) → Dec (p ≡ good)
asked_yes good = yes refl
asked_yes (refuses k i) = no (λ e. let z : ◌≡◌ {A = ℕ} 0 1 = cc in omega arith)
asked_yes (breaks k) = no (λ e. let z : ◌≡◌ {A = ℕ} 0 1 = cc in omega arith)

pub cut_below : (ps : List ℤ) (qs out work out' work' : List ℕ) (r : Result ℕ Refusal) → Cutting ps qs out work out' work' r → cut_value r < shift
cut_below ps qs out work out' work' r c = go (asked_yes (asked ps qs (length out) (length work)))
  where
    go : Dec (asked ps qs (length out) (length work) ≡ good) → cut_value r < shift
    go (yes e) = passed_below ps qs out work out' r (few false (short_room (point_count ps) (length out) (length work)) ps qs e) (c.passed e)
    go (no f) = refused_below r (asked ps qs (length out) (length work)) f (c.refused f).0 (rows_below false (short_room (point_count ps) (length out) (length work)) ps qs)

-- ---- the promises

-- a value beside the number 0
flat : (k : ℕ) → k ≡ 0 * 4294967296 + k
flat k = omega arith

module _ (ps : List ℤ) (qs out work out' work' : List ℕ) (o : Result ℕ Refusal) (c : Cutting ps qs out work out' work' o) where
  -- a refusal of the cutter has a small place
  pub cut_place : (r : Refusal) → o ≡ Err r → place_of r < shift
  cut_place r q = subst (λ (x : Result ℕ Refusal). cut_value x < shift) q (cut_below ps qs out work out' work' o c)

  -- the answers tell the outcome
  pub told_sheet : (T r : ℕ) → o ≡ Ok T → r ≡ T → Told ps qs out work out' work' r
  told_sheet T r q e =
      record {
        outcome = o;
        promise = c;
        number = subst (λ (x : Result ℕ Refusal). r ≡ cut_number x * shift + cut_value x) (sym q) (e ∙ flat T);
        small = cut_below ps qs out work out' work' o c;
      }

  pub told_refusal : (f : Refusal) (r : ℕ) → o ≡ Err f → r ≡ packed (of_refusal f) → Told ps qs out work out' work' r
  told_refusal f r q e =
      record {
        outcome = o;
        promise = c;
        number = subst (λ (x : Result ℕ Refusal). r ≡ cut_number x * shift + cut_value x) (sym q) e;
        small = cut_below ps qs out work out' work' o c;
      }
