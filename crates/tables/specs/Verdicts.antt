-- What the checker answers: refusals 1 to 10 in the table's order, then yes or the lowest broken rule. Definitions only.
use Rattle.std.specs.Prelude.{not, cond, List, [], ◌∷◌, ℕ, zero, suc, ◌*◌, ◌%◌, eqb, leb, ℤ, length}
use Rattle.tables.specs.Answers.{Paper, yes, refuses, breaks, rule}
use Rattle.tables.specs.Data.{point_count}
use Rattle.tables.specs.Refusals.{rows, short_work}
use Rattle.tables.specs.Rules.{rule1, rule2, rule3, rule4, rule5, rule6, rule7, rule8}

-- yes, or the lowest broken rule
abbrev pub rules : List ℤ → List ℕ → List ℕ → Paper
rules ps qs xs =
    rule 1 (rule1 ps xs)
    (rule 2 (rule2 xs)
    (rule 3 (rule3 ps xs)
    (rule 4 (rule4 ps xs) (rule 5 (rule5 ps xs) (rule 6 (rule6 qs xs) (rule 7 (rule7 ps qs xs) (rule 8 (rule8 xs) yes)))))))

-- the refusals first: 1 also for a list whose length is no multiple of 3, and 3 for the working area only
abbrev pub and_then : Paper → Paper → Paper
and_then yes after = after
and_then (refuses k i) after = refuses k i
and_then (breaks k) after = breaks k

abbrev pub refusals : List ℤ → List ℕ → List ℕ → ℕ → Paper
refusals ps qs xs work = rows (not (eqb (length xs % 3) 0)) (short_work (point_count ps) work) ps qs

-- the verdict on a list, with a working area of `work` numbers
abbrev pub verdict : List ℤ → List ℕ → List ℕ → ℕ → Paper
verdict ps qs xs work = and_then (refusals ps qs xs work) (rules ps qs xs)

-- ---- what is left in the working area

-- the first k numbers are zero, and the rest is unchanged
unfoldable pub cleared : ℕ → List ℕ → List ℕ
cleared zero w = w
cleared (suc k) [] = []
cleared (suc k) (x ∷ w) = 0 ∷ cleared k w

-- refusals 1 to 3 leave it unchanged; every other answer leaves its first 64n numbers zero and the rest unchanged
abbrev pub left_work : Paper → ℕ → List ℕ → List ℕ
left_work (refuses k i) n w = cond (leb k 3) w (cleared (64 * n) w)
left_work yes n w = cleared (64 * n) w
left_work (breaks k) n w = cleared (64 * n) w
