-- Ranks, step 3, house order, and the eight sheet rules of a list of triples. Document 01, "Building steps", 3, and "The eight sheet
-- rules". The number at place h = 3t + j of the list is corner j of triple t, and edge h runs from there to the triple's next corner.
-- Definitions only.
use Rattle.std.specs.Prelude.{Bool, cond, ◌&&◌, ◌||◌, not, List, ℕ, zero, suc, ◌+◌, ◌*◌, ◌/◌, ◌-◌, min, max, leb, ltb, eqb, ℤ, pos, length, get_or}
use Rattle.std.specs.Int.Signed.{lt_z}
use Rattle.algebra.specs.Sum.{sum_to}
use Rattle.algebra.specs.Tests.{posb, eq_z, all_to, any_to}
use Rattle.plane.specs.Points.{Pt}
use Rattle.plane.specs.Determinants.{orient, incircle}
use Rattle.plane.specs.Base.{Side, s0, s1, s2, next, area_of_base}
use Rattle.plane.specs.Halfedges.{nxt}
use Rattle.tables.specs.Data.{point_count, pair_count, point, end_a, end_b, base}

-- ---- ranks

-- the order of x, then y
unfoldable pub before : Pt ℤ → Pt ℤ → Bool
before p q = lt_z p.x q.x || (eq_z p.x q.x && lt_z p.y q.y)

-- how many of the numbers below n pass
unfoldable pub count_to : ℕ → (ℕ → Bool) → ℕ
count_to zero f = 0
count_to (suc n) f = count_to n f + cond (f n) 1 0

-- a point's place in that order
unfoldable pub rank : List ℤ → ℕ → ℕ
rank ps i = count_to (point_count ps) (λ j. before (point ps j) (point ps i))

-- the rank pair (smaller, larger) of c, d is below that of a, b, compared first by first
abbrev pub pair_below : ℕ → ℕ → ℕ → ℕ → Bool
pair_below c d a b = ltb (min c d) (min a b) || (eqb (min c d) (min a b) && ltb (max c d) (max a b))

-- ---- step 3: the edge a b flips, with c the far corner of its triangle and d that of its neighbour

unfoldable pub wins : List ℤ → ℕ → ℕ → ℕ → ℕ → Bool
wins ps a b c d =
    posb (incircle (point ps a) (point ps b) (point ps c) (point ps d))
    || (eq_z (incircle (point ps a) (point ps b) (point ps c) (point ps d)) (pos 0) && pair_below (rank ps c) (rank ps d) (rank ps a) (rank ps b))

unfoldable pub flips : List ℤ → ℕ → ℕ → ℕ → ℕ → Bool
flips ps a b c d =
    wins ps a b c d && posb (orient (point ps a) (point ps d) (point ps c)) && posb (orient (point ps d) (point ps b) (point ps c))

-- ---- a list of triples

abbrev pub triples : List ℕ → ℕ
triples xs = length xs / 3

abbrev pub corner : List ℕ → ℕ → ℕ
corner xs h = get_or xs h 0

-- the points of the corners
abbrev pub corner_point : List ℤ → List ℕ → ℕ → Pt ℤ
corner_point ps xs h = point ps (corner xs h)

-- twice the area of triple t
unfoldable pub triple_area : List ℤ → List ℕ → ℕ → ℤ
triple_area ps xs t = orient (corner_point ps xs (3 * t)) (corner_point ps xs (3 * t + 1)) (corner_point ps xs (3 * t + 2))

-- edge h of the list runs from u to v
abbrev pub edge_is : List ℕ → ℕ → ℕ → ℕ → Bool
edge_is xs h u v = eqb (corner xs h) u && eqb (corner xs (nxt h)) v

-- edge g runs the other way
abbrev pub reverse : List ℕ → ℕ → ℕ → Bool
reverse xs h g = edge_is xs g (corner xs (nxt h)) (corner xs h)

-- the edge from u to v lies along a side of the base
abbrev pub on_line : List ℤ → Side → ℕ → Bool
on_line ps s u = eq_z (orient (base ps s) (base ps (next s)) (point ps u)) (pos 0)

unfoldable pub along_side : List ℤ → ℕ → ℕ → Bool
along_side ps u v = (on_line ps s0 u && on_line ps s0 v) || (on_line ps s1 u && on_line ps s1 v) || (on_line ps s2 u && on_line ps s2 v)

-- u and v are the ends of a pair, in either order
unfoldable pub is_pair : List ℕ → ℕ → ℕ → Bool
is_pair qs u v = any_to (pair_count qs) (λ k. (eqb u (end_a qs k) && eqb v (end_b qs k)) || (eqb u (end_b qs k) && eqb v (end_a qs k)))

-- ---- the eight rules

-- 1. The list holds 1 to 2n - 5 triples of distinct point numbers below n, each strictly counterclockwise.
abbrev pub proper_triple : List ℤ → ℕ → ℕ → ℕ → Bool
proper_triple ps a b c =
    ltb a (point_count ps) && ltb b (point_count ps) && ltb c (point_count ps) && not (eqb a b) && not (eqb b c) && not (eqb c a)
    && posb (orient (point ps a) (point ps b) (point ps c))

unfoldable pub rule1 : List ℤ → List ℕ → Bool
rule1 ps xs =
    leb 1 (triples xs) && leb (triples xs) (2 * point_count ps - 5)
    && all_to (triples xs) (λ t. proper_triple ps (corner xs (3 * t)) (corner xs (3 * t + 1)) (corner xs (3 * t + 2)))

-- 2. No directed edge stands in two triples.
unfoldable pub rule2 : List ℕ → Bool
rule2 xs = all_to (3 * triples xs) (λ h. all_to (3 * triples xs) (λ g. not (edge_is xs g (corner xs h) (corner xs (nxt h))) || eqb g h))

-- 3. The reverse of each directed edge is in a triple, or the edge lies along a side of the base.
unfoldable pub rule3 : List ℤ → List ℕ → Bool
rule3 ps xs = all_to (3 * triples xs) (λ h. any_to (3 * triples xs) (reverse xs h) || along_side ps (corner xs h) (corner xs (nxt h)))

-- 4. Every point is a corner of some triple.
unfoldable pub rule4 : List ℤ → List ℕ → Bool
rule4 ps xs = all_to (point_count ps) (λ i. any_to (3 * triples xs) (λ h. eqb (corner xs h) i))

-- 5. Twice the areas of the triples sum to twice the base's area.
unfoldable pub rule5 : List ℤ → List ℕ → Bool
rule5 ps xs = eq_z (sum_to (triples xs) (triple_area ps xs)) (area_of_base (base ps))

-- 6. Each pair is an edge.
unfoldable pub rule6 : List ℕ → List ℕ → Bool
rule6 qs xs =
    all_to (pair_count qs) (λ k. any_to (3 * triples xs) (λ h. edge_is xs h (end_a qs k) (end_b qs k) || edge_is xs h (end_b qs k) (end_a qs k)))

-- 7. Each inner edge that is no pair: step 3 would not flip it.
unfoldable pub rule7 : List ℤ → List ℕ → List ℕ → Bool
rule7 ps qs xs =
    all_to (3 * triples xs)
    (λ h. all_to (3 * triples xs) (λ g.
    not (reverse xs h g) || is_pair qs (corner xs h) (corner xs (nxt h))
    || not (flips ps (corner xs h) (corner xs (nxt h)) (corner xs (nxt (nxt h))) (corner xs (nxt (nxt g))))))

-- 8. House order, no triple twice: each triple's least number is first, and the triples rise by first, second, third number.
abbrev pub least_first : List ℕ → ℕ → Bool
least_first xs t = ltb (corner xs (3 * t)) (corner xs (3 * t + 1)) && ltb (corner xs (3 * t)) (corner xs (3 * t + 2))

abbrev pub rises : ℕ → ℕ → ℕ → ℕ → ℕ → ℕ → Bool
rises a b c d e f = ltb a d || (eqb a d && (ltb b e || (eqb b e && ltb c f)))

abbrev pub rises_to : List ℕ → ℕ → Bool
rises_to xs t =
    rises (corner xs (3 * t)) (corner xs (3 * t + 1)) (corner xs (3 * t + 2)) (corner xs (3 * t + 3)) (corner xs (3 * t + 4)) (corner xs (3 * t + 5))

unfoldable pub rule8 : List ℕ → Bool
rule8 xs = all_to (triples xs) (least_first xs) && all_to (triples xs - 1) (rises_to xs)
