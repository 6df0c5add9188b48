-- The number of a broken rule is at most 8, so its answer fits; and a refusal's number is its row's. Assumes nothing.
use mathlib.Core.Path.{◌≡◌, refl, subst}
use mathlib.Core.Bool.{Bool, true, false, not, ◌||◌}
use mathlib.Core.List.{List}
use Prim.Native.Nat.{ℕ, ◌≤◌, ◌%◌}
use native.Mathlib.Omega.{arith}
use lib.Dec.{lit≤, eqb}
use lib.IntN.{ℤ}
use lib.ListN.{length}
use Rattle.tables.specs.Answers.{Paper, yes, refuses, breaks, row, row_at, rule, lowest, of_refusal}
use Rattle.tables.specs.Data.{point_count, pair_count}
use Rattle.tables.specs.Refusals.{rows, rows8to10, rows4to10, bad_counts, far, no_area, outside, again, bad_pair, blocked, crossing, short_work}
use Rattle.tables.specs.Rules.{rule1, rule2, rule3, rule4, rule5, rule6, rule7, rule8}
use Rattle.tables.specs.Verdicts.{and_then, rules, refusals, verdict}
use Rattle.tables.specs.declared.Refusal.{Refusal}
use Rattle.tables.specs.declared.Refusal.TheVariants.{OddLength, Counts, Room, FarPoint, NoArea, OutsidePoint, EqualPoint, BadPair, BlockedPair, CrossingPair, StuckPair}
use Rattle.std.specs.Prelude.{Option, Some as At, None as Nowhere}
use Rattle.row_numbers.specs.Numbers.{number_in}
use Rattle.checker_c.specs.Number.{number_of}

-- ---- the rows break no rule
None : Paper → Type 0
None p = (k : ℕ) → p ≡ breaks k → ⊥

none_yes : None yes
unfolding None
none_yes k e = let z : ◌≡◌ {A = ℕ} 0 1 = cc in omega arith

none_row : (j : ℕ) (b : Bool) (after : Paper) → None after → None (row j b after)
unfolding None
none_row j true after h k e = let z : ◌≡◌ {A = ℕ} 0 1 = cc in omega arith
none_row j false after h k e = h k e

none_at : (j : ℕ) (l : Option ℕ) (after : Paper) → None after → None (row_at j l after)
unfolding None
none_at j (At i) after h k e = let z : ◌≡◌ {A = ℕ} 0 1 = cc in omega arith
none_at j Nowhere after h k e = h k e

none_rows : (odd short : Bool) (ps : List ℤ) (qs : List ℕ) → None (rows odd short ps qs)
none_rows odd short ps qs =
    none_row 1 (not (eqb (length ps % 2) 0) || not (eqb (length qs % 2) 0) || odd) _
    (none_row 2 (bad_counts (point_count ps) (pair_count qs)) _
    (none_row 3 short (rows4to10 ps qs)
    (none_at 4 (lowest (point_count ps) (far ps)) _
    (none_row 5 (no_area ps) _
    (none_at 6 (lowest (point_count ps) (outside ps)) _
    (none_at 7 (lowest (point_count ps) (again ps)) (rows8to10 ps qs)
    (none_at 8 (lowest (pair_count qs) (bad_pair (point_count ps) qs)) _
    (none_at 9 (lowest (pair_count qs) (blocked ps qs)) _ (none_at 10 (lowest (pair_count qs) (crossing ps qs)) yes none_yes)))))))))

-- ---- the rules
Low : Paper → Type 0
Low p = (k : ℕ) → p ≡ breaks k → k ≤ 8

low_yes : Low yes
unfolding Low
low_yes k e = absurd (let z : ◌≡◌ {A = ℕ} 0 1 = cc in omega arith)

low_rule : (j : ℕ) → j ≤ 8 → (b : Bool) (after : Paper) → Low after → Low (rule j b after)
unfolding Low
low_rule j l true after h k e = h k e
low_rule j l false after h k e = let q : j ≡ k = cc in subst (λ (x : ℕ). x ≤ 8) q l

low_rules : (ps : List ℤ) (qs xs : List ℕ) → Low (rules ps qs xs)
low_rules ps qs xs =
    low_rule 1 (lit≤ tt) (rule1 ps xs) _
    (low_rule 2 (lit≤ tt) (rule2 xs) _
    (low_rule 3 (lit≤ tt) (rule3 ps xs) _
    (low_rule 4 (lit≤ tt) (rule4 ps xs) _
    (low_rule 5 (lit≤ tt) (rule5 ps xs) _
    (low_rule 6 (lit≤ tt) (rule6 qs xs) _ (low_rule 7 (lit≤ tt) (rule7 ps qs xs) _ (low_rule 8 (lit≤ tt) (rule8 xs) yes low_yes)))))))

pub low_verdict : (ps : List ℤ) (qs xs : List ℕ) (work k : ℕ) → verdict ps qs xs work ≡ breaks k → k ≤ 8
unfolding None Low
low_verdict ps qs xs work = go (refusals ps qs xs work) (none_rows (not (eqb (length xs % 3) 0)) (short_work (point_count ps) work) ps qs)
  where
    go : (p : Paper) → ((k : ℕ) → p ≡ breaks k → ⊥) → (k : ℕ) → and_then p (rules ps qs xs) ≡ breaks k → k ≤ 8
    go yes f k e = low_rules ps qs xs k e
    go (refuses j i) f k e = absurd (f k e)
    go (breaks j) f k e = absurd (f j refl)

-- ---- the refusals
pub of_row : (r : Refusal) → number_in (of_refusal r) ≡ number_of (of_refusal r)
of_row OddLength = refl
of_row Counts = refl
of_row Room = refl
of_row (FarPoint i) = refl
of_row NoArea = refl
of_row (OutsidePoint i) = refl
of_row (EqualPoint i) = refl
of_row (BadPair k) = refl
of_row (BlockedPair k) = refl
of_row (CrossingPair k) = refl
of_row (StuckPair k) = refl
