-- What the two calls on whole coordinates answer. Definitions only.
use Rattle.std.specs.Prelude.{Bool, cond, ◌&&◌, ℕ, ℤ, pos, nat_abs, leb, Option, Some, None}
use Rattle.plane.specs.Points.{Pt}
use Rattle.plane.specs.Determinants.{orient, incircle}
use Rattle.signs.specs.Signs.{sign_z, flipped, number}
use Rattle.signs.specs.declared.Sign.{Sign}

-- refusal 4's limit: a coordinate is from -8,192 to 8,192
abbrev pub limit : ℕ
limit = 8192

-- no coordinate of p is beyond k
abbrev pub within : ℕ → Pt ℤ → Bool
within k p = leb (nat_abs p.x) k && leb (nat_abs p.y) k

-- with coordinates up to k, the sign of the determinant; else none, for out of range
unfoldable pub orient_answer : ℕ → Pt ℤ → Pt ℤ → Pt ℤ → Option Sign
orient_answer k a b c = cond (within k a && within k b && within k c) (Some (sign_z (orient a b c))) None

unfoldable pub circle_answer : ℕ → Pt ℤ → Pt ℤ → Pt ℤ → Pt ℤ → Option Sign
circle_answer k a b c d = cond (within k a && within k b && within k c && within k d) (Some (sign_z (incircle a b c d))) None

-- the opposite answer: out of range stays
abbrev pub opposite : Option Sign → Option Sign
opposite (Some s) = Some (flipped s)
opposite None = None

-- an answer as a number: a sign's, or 2
abbrev pub whole_number : Option Sign → ℤ
whole_number (Some s) = number s
whole_number None = pos 2
