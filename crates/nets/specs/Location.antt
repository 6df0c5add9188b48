-- Step 1: where a point lies in a net, and the split that it asks for. Where a slot or a half-edge may be missing, 0 stands for none and
-- its number and 1 for it. Definitions only.
use Rattle.std.specs.Prelude.{Bool, cond, ◌&&◌, not, List, [], ◌∷◌, ℕ, zero, suc, ◌+◌, ◌*◌, ◌/◌, min, eqb, ℤ, pos, neg_ℤ}
use Rattle.algebra.specs.Tests.{posb, eq_z}
use Rattle.plane.specs.Determinants.{orient}
use Rattle.plane.specs.Halfedges.{nxt}
use Rattle.plane.specs.Points.{Pt}
use Rattle.tables.specs.Rules.{rises}
use Rattle.nets.specs.Nets.{Net}
use Rattle.nets.specs.Steps.{inside, side_split, edge_split}

-- ---- the walk

-- half-edge h strictly separates p from its triangle
unfoldable pub beyond : (ℕ → Pt ℤ) → Net → Pt ℤ → ℕ → Bool
beyond P m p h = posb (neg_ℤ (orient (P (m.org h)) (P (m.org (nxt h))) p))

-- p lies in the closed triangle of slot t
unfoldable pub holds : (ℕ → Pt ℤ) → Net → Pt ℤ → ℕ → Bool
holds P m p t = not (beyond P m p (3 * t)) && not (beyond P m p (3 * t + 1)) && not (beyond P m p (3 * t + 2))

abbrev pub or_else : ℕ → ℕ → ℕ
or_else zero after = after
or_else (suc x) after = suc x

-- the slot of a half-edge
abbrev pub slot_of : ℕ → ℕ
slot_of zero = zero
slot_of (suc g) = suc (g / 3)

-- the slot across h, if h strictly separates p and has a neighbour
abbrev pub over : (ℕ → Pt ℤ) → Net → Pt ℤ → ℕ → ℕ
over P m p h = cond (beyond P m p h) (slot_of (m.adj h)) 0

-- the walk goes over the first of edges 0, 1, 2 that does
unfoldable pub step : (ℕ → Pt ℤ) → Net → Pt ℤ → ℕ → ℕ
step P m p t = or_else (over P m p (3 * t)) (or_else (over P m p (3 * t + 1)) (over P m p (3 * t + 2)))

-- a walk that enters at most `cap` triangles, to one that holds p
unfoldable pub walk : (ℕ → Pt ℤ) → Net → Pt ℤ → ℕ → ℕ → ℕ
walk P m p zero at = 0
walk P m p (suc cap) zero = 0
walk P m p (suc cap) (suc t) = cond (holds P m p t) (suc t) (walk P m p cap (step P m p t))

-- the lowest slot below k that holds p
unfoldable pub scan : (ℕ → Pt ℤ) → Net → Pt ℤ → ℕ → ℕ
scan P m p zero = 0
scan P m p (suc k) = or_else (scan P m p k) (cond (holds P m p k) (suc k) 0)

-- the walk from slot z, and the scan behind it
unfoldable pub locate : (ℕ → Pt ℤ) → Net → Pt ℤ → ℕ → ℕ
locate P m p z = or_else (walk P m p (4 * m.tris + 16) (suc z)) (scan P m p m.tris)

-- ---- the place in a triangle

abbrev pub along : (ℕ → Pt ℤ) → Net → Pt ℤ → ℕ → ℕ
along P m p h = cond (eq_z (orient (P (m.org h)) (P (m.org (nxt h))) p) (pos 0)) (suc h) 0

-- the edge of slot t that p lies on
unfoldable pub edge_at : (ℕ → Pt ℤ) → Net → Pt ℤ → ℕ → ℕ
edge_at P m p t = or_else (along P m p (3 * t)) (or_else (along P m p (3 * t + 1)) (along P m p (3 * t + 2)))

-- ---- house order of two triangles: each is turned so that its least number is first

abbrev pub least : ℕ → ℕ → ℕ → ℕ
least a b c = min a (min b c)

abbrev pub second : ℕ → ℕ → ℕ → ℕ
second a b c = cond (eqb (least a b c) a) b (cond (eqb (least a b c) b) c a)

abbrev pub third : ℕ → ℕ → ℕ → ℕ
third a b c = cond (eqb (least a b c) a) c (cond (eqb (least a b c) b) a b)

abbrev pub in_house : ℕ → ℕ → ℕ → ℕ → ℕ → ℕ → Bool
in_house a b c d e f = rises (least a b c) (second a b c) (third a b c) (least d e f) (second d e f) (third d e f)

-- the triangle of slot s comes before that of slot t
unfoldable pub earlier : Net → ℕ → ℕ → Bool
earlier m s t =
    in_house (m.org (3 * s)) (m.org (3 * s + 1)) (m.org (3 * s + 2)) (m.org (3 * t)) (m.org (3 * t + 1)) (m.org (3 * t + 2))

-- ---- the split

-- the net, the suspects with the last born first, and the newest triangle
pub record Split : Type 0 where
  pub net : Net
  pub suspects : List ℕ
  pub newest : ℕ

abbrev pub inside_split : Net → ℕ → ℕ → Split
inside_split m t k = record { net = inside m t k; suspects = (m.tris + 1) ∷ m.tris ∷ t ∷ []; newest = m.tris + 1 }

abbrev pub one_side : Net → ℕ → ℕ → Split
one_side m h k = record { net = side_split m h k; suspects = m.tris ∷ (h / 3) ∷ []; newest = m.tris }

abbrev pub both_sides : Net → ℕ → ℕ → ℕ → Split
both_sides m h g k =
    record { net = edge_split m h g k; suspects = (m.tris + 1) ∷ (g / 3) ∷ m.tris ∷ (h / 3) ∷ []; newest = m.tris + 1 }

-- on half-edge h: of two triangles the one first in house order is split first
abbrev pub edge_case : Net → ℕ → ℕ → ℕ → Split
edge_case m h zero k = one_side m h k
edge_case m h (suc g) k = cond (earlier m (g / 3) (h / 3)) (both_sides m g h k) (both_sides m h g k)

abbrev pub place_case : Net → ℕ → ℕ → ℕ → Split
place_case m t zero k = inside_split m t k
place_case m t (suc h) k = edge_case m h (m.adj h) k

-- point k goes into slot t
unfoldable pub split_in : (ℕ → Pt ℤ) → Net → ℕ → ℕ → Split
split_in P m t k = place_case m t (edge_at P m (P k) t) k

abbrev pub less : ℕ → ℕ
less zero = zero
less (suc t) = t

-- point k goes in, with slot z the newest
unfoldable pub inserted : (ℕ → Pt ℤ) → Net → ℕ → ℕ → Split
inserted P m z k = split_in P m (less (locate P m (P k) z)) k
