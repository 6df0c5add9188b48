-- The lent lists read as points and pairs; the base. Document 01, "What the cutter is handed and hands back". Definitions only.
use Rattle.std.specs.Prelude.{Bool, cond, ◌&&◌, List, ℕ, ◌+◌, ◌*◌, ◌/◌, ℤ, pos, neg_ℤ, length, get_or}
use Rattle.algebra.specs.Tests.{posb, eq_z}
use Rattle.plane.specs.Points.{Pt, at}
use Rattle.plane.specs.Determinants.{orient}
use Rattle.plane.specs.Base.{Side, s0, s1, s2}

-- n and m
abbrev pub point_count : List ℤ → ℕ
point_count ps = length ps / 2

abbrev pub pair_count : List ℕ → ℕ
pair_count qs = length qs / 2

-- point i is x, y at places 2i and 2i + 1
unfoldable pub point : List ℤ → ℕ → Pt ℤ
point ps i = at (get_or ps (2 * i) (pos 0)) (get_or ps (2 * i + 1) (pos 0))

-- the two ends of pair k are point numbers
abbrev pub end_a : List ℕ → ℕ → ℕ
end_a qs k = get_or qs (2 * k) 0

abbrev pub end_b : List ℕ → ℕ → ℕ
end_b qs k = get_or qs (2 * k + 1) 0

-- the base is points 0, 1, 2, and reads 0, 2, 1 where these are clockwise
unfoldable pub clockwise : List ℤ → Bool
clockwise ps = posb (neg_ℤ (orient (point ps 0) (point ps 1) (point ps 2)))

unfoldable pub base : List ℤ → Side → Pt ℤ
base ps s0 = point ps 0
base ps s1 = point ps (cond (clockwise ps) 2 1)
base ps s2 = point ps (cond (clockwise ps) 1 2)

-- two points at one place
abbrev pub same : Pt ℤ → Pt ℤ → Bool
same p q = eq_z p.x q.x && eq_z p.y q.y
