-- The table of refusals, rows 1 to 10: each row's test, "given exactly when", in the table's order. Definitions only.
use Rattle.std.specs.Prelude.{Bool, ◌&&◌, ◌||◌, not, List, ℕ, ◌-◌, ◌*◌, ◌%◌, leb, ltb, eqb, ℤ, pos, neg_ℤ, length}
use Rattle.std.specs.Int.Signed.{le_z}
use Rattle.algebra.specs.Tests.{posb, eq_z, any_to}
use Rattle.plane.specs.Points.{Pt}
use Rattle.plane.specs.Determinants.{orient}
use Rattle.plane.specs.Base.{Side, s0, s1, s2, next}
use Rattle.signs.specs.Answers.{limit, within}
use Rattle.tables.specs.Answers.{Paper, yes, row, row_at, lowest}
use Rattle.tables.specs.Data.{point_count, pair_count, point, end_a, end_b, base, same}

-- 2: n < 3, n > 4,096 or m > 12,288
abbrev pub bad_counts : ℕ → ℕ → Bool
bad_counts n m = ltb n 3 || ltb 4096 n || ltb 12288 m

-- 3: a working area shorter than 64n; for the cutter also an output shorter than 3(2n - 5)
abbrev pub short_work : ℕ → ℕ → Bool
short_work n work = ltb work (64 * n)

abbrev pub short_room : ℕ → ℕ → ℕ → Bool
short_room n out work = ltb out (3 * (2 * n - 5)) || short_work n work

-- 4: a coordinate below -8,192 or above 8,192
abbrev pub far : List ℤ → ℕ → Bool
far ps i = not (within limit (point ps i))

-- 5: the base has no area
abbrev pub no_area : List ℤ → Bool
no_area ps = eq_z (orient (point ps 0) (point ps 1) (point ps 2)) (pos 0)

-- 6: the point is outside the closed base: strictly right of one of its sides
abbrev pub right_of : List ℤ → Side → Pt ℤ → Bool
right_of ps s p = posb (neg_ℤ (orient (base ps s) (base ps (next s)) p))

abbrev pub outside : List ℤ → ℕ → Bool
outside ps i = right_of ps s0 (point ps i) || right_of ps s1 (point ps i) || right_of ps s2 (point ps i)

-- 7: the point is equal to one with a lower number
abbrev pub again : List ℤ → ℕ → Bool
again ps i = any_to i (λ j. same (point ps j) (point ps i))

-- 8: an end not below n, or equal ends
abbrev pub bad_pair : ℕ → List ℕ → ℕ → Bool
bad_pair n qs k = leb n (end_a qs k) || leb n (end_b qs k) || eqb (end_a qs k) (end_b qs k)

-- 9: p lies strictly inside the segment: on its line and in its box, and is neither end
abbrev pub between : ℤ → ℤ → ℤ → Bool
between a b z = (le_z a z && le_z z b) || (le_z b z && le_z z a)

unfoldable pub in_segment : Pt ℤ → Pt ℤ → Pt ℤ → Bool
in_segment a b p = between a.x b.x p.x && between a.y b.y p.y && eq_z (orient a b p) (pos 0) && not (same p a) && not (same p b)

abbrev pub blocked : List ℤ → List ℕ → ℕ → Bool
blocked ps qs k = any_to (point_count ps) (λ i. in_segment (point ps (end_a qs k)) (point ps (end_b qs k)) (point ps i))

-- 10: proper crossing, `strictly_crosses`: the ends of each segment lie strictly on both sides of the other's line
abbrev pub opposed : ℤ → ℤ → Bool
opposed y z = (posb y && posb (neg_ℤ z)) || (posb (neg_ℤ y) && posb z)

unfoldable pub crosses : Pt ℤ → Pt ℤ → Pt ℤ → Pt ℤ → Bool
crosses a b c d = opposed (orient a b c) (orient a b d) && opposed (orient c d a) (orient c d b)

abbrev pub crossing : List ℤ → List ℕ → ℕ → Bool
crossing ps qs k = any_to k (λ j. crosses (point ps (end_a qs j)) (point ps (end_b qs j)) (point ps (end_a qs k)) (point ps (end_b qs k)))

-- ---- the table. `odd` and `short` are what else row 1 and row 3 ask: they differ between the cutter and the checker

abbrev pub rows8to10 : List ℤ → List ℕ → Paper
rows8to10 ps qs =
    row_at 8 (lowest (pair_count qs) (bad_pair (point_count ps) qs))
    (row_at 9 (lowest (pair_count qs) (blocked ps qs)) (row_at 10 (lowest (pair_count qs) (crossing ps qs)) yes))

abbrev pub rows4to10 : List ℤ → List ℕ → Paper
rows4to10 ps qs =
    row_at 4 (lowest (point_count ps) (far ps))
    (row 5 (no_area ps) (row_at 6 (lowest (point_count ps) (outside ps)) (row_at 7 (lowest (point_count ps) (again ps)) (rows8to10 ps qs))))

abbrev pub rows : Bool → Bool → List ℤ → List ℕ → Paper
rows odd short ps qs =
    row 1 (not (eqb (length ps % 2) 0) || not (eqb (length qs % 2) 0) || odd)
    (row 2 (bad_counts (point_count ps) (pair_count qs)) (row 3 short (rows4to10 ps qs)))
