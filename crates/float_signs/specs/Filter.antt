-- The float formulas of the original, operation by operation in the library's account of IEEE 754, and what they are held to on whole
-- coordinates. Definitions, and what the error bound computes to.
use Rattle.std.specs.Prelude.{◌≡◌, ℕ, zero, suc, ◌≤◌, false, cond, ◌&&◌, ℤ, pos, negsuc, unsigned_abs, refl, Float, Option, Some, None}
use Rattle.std.specs.Float.{fin, binary64}
use Rattle.std.specs.Float.Ieee.{add, sub, mul, le, lt}
use Rattle.std.specs.Float.Ieee.Scale.{finite}
use Rattle.plane.specs.Points.{Pt}
use Rattle.floats.specs.Whole.{Is, abs_f, min_positive}
use Rattle.signs.specs.Signs.{sign_z, sign_f, number}
use Rattle.signs.specs.declared.Sign.{Sign}
use Rattle.float_signs.specs.declared.Vec2.{Vec2}

abbrev pub vec : Float → Float → Vec2
vec x y = record { x = x; y = y }

-- v is the point p, whose coordinates are at most k in size
pub record WholePoint (k : ℕ) (v : Vec2) (p : Pt ℤ) : Type 0 where
  pub is_x : Is v.x p.x
  pub is_y : Is v.y p.y
  pub in_x : unsigned_abs p.x ≤ k
  pub in_y : unsigned_abs p.y ≤ k

-- a sign exactly if z is not zero, and then its sign
unfoldable pub decided : ℤ → Option Sign
decided (pos zero) = None
decided (pos (suc n)) = Some (sign_z (pos (suc n)))
decided (negsuc n) = Some (sign_z (negsuc n))

-- an answer as a number: a sign's, or 2
abbrev pub filter_number : Option Sign → ℤ
filter_number (Some s) = number s
filter_number None = pos 2

-- ---- the filter of orient2d

-- 2^-53, and (3 + 16 · 2^-53) · 2^-53 with each operation rounded
abbrev pub eps : Float
eps = fin false 1 (negsuc 52)

abbrev pub ccw_bound : Float
ccw_bound = fin false 1688849860263937 (negsuc 101)

ccw_is : mul binary64 (add binary64 (fin false 3 (pos 0)) (mul binary64 (fin false 1 (pos 4)) eps)) eps ≡ ccw_bound
unfolding mul add
ccw_is = refl

-- what the filter answers of a determinant and a permanent: the determinant's sign where the permanent is normal and finite and the
-- determinant's size is above k times the permanent; else none
unfoldable pub certified : Float → Float → Float → Option Sign
unfolding abs_f sign_f
certified k det p = cond (le min_positive p && finite p && lt (mul binary64 k p) (abs_f det)) (Some (sign_f det)) None

abbrev pub det_left : Vec2 → Vec2 → Vec2 → Float
det_left a b c = mul binary64 (sub binary64 a.x c.x) (sub binary64 b.y c.y)

abbrev pub det_right : Vec2 → Vec2 → Vec2 → Float
det_right a b c = mul binary64 (sub binary64 a.y c.y) (sub binary64 b.x c.x)

unfoldable pub orient_filter : Vec2 → Vec2 → Vec2 → Option Sign
unfolding certified abs_f
orient_filter a b c =
    certified ccw_bound (sub binary64 (det_left a b c) (det_right a b c)) (add binary64 (abs_f (det_left a b c)) (abs_f (det_right a b c)))

-- ---- the determinant of incircle

unfoldable pub circle_f : Vec2 → Vec2 → Vec2 → Vec2 → Float
circle_f a b c d =
    let adx = sub binary64 a.x d.x in
    let ady = sub binary64 a.y d.y in
    let bdx = sub binary64 b.x d.x in
    let bdy = sub binary64 b.y d.y in
    let cdx = sub binary64 c.x d.x in
    let cdy = sub binary64 c.y d.y in
    let alift = add binary64 (mul binary64 adx adx) (mul binary64 ady ady) in
    let blift = add binary64 (mul binary64 bdx bdx) (mul binary64 bdy bdy) in
    let clift = add binary64 (mul binary64 cdx cdx) (mul binary64 cdy cdy) in
    add binary64
    (add binary64
    (mul binary64 alift (sub binary64 (mul binary64 bdx cdy) (mul binary64 cdx bdy)))
    (mul binary64 blift (sub binary64 (mul binary64 cdx ady) (mul binary64 adx cdy))))
    (mul binary64 clift (sub binary64 (mul binary64 adx bdy) (mul binary64 bdx ady)))
