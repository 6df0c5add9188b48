-- Orientation and the circle determinant, as document 01 writes them under "Signs": differences are taken from the last point.
-- Definitions only.
use Rattle.std.specs.Prelude.{ℤ, ◌+ℤ◌, ◌-ℤ◌, ◌*ℤ◌}
use Rattle.plane.specs.Points.{Pt, minus, lift}

-- (ax - cx)(by - cy) - (ay - cy)(bx - cx): twice the area of a, b, c, positive where they are counterclockwise
unfoldable pub orient : Pt ℤ → Pt ℤ → Pt ℤ → ℤ
orient a b c = (a.x -ℤ c.x) *ℤ (b.y -ℤ c.y) -ℤ (a.y -ℤ c.y) *ℤ (b.x -ℤ c.x)

-- lift(a)(bx·cy - cx·by) + lift(b)(cx·ay - ax·cy) + lift(c)(ax·by - bx·ay), of points given by their differences from the fourth
unfoldable pub incircle₀ : Pt ℤ → Pt ℤ → Pt ℤ → ℤ
incircle₀ a b c =
    lift a *ℤ (b.x *ℤ c.y -ℤ c.x *ℤ b.y) +ℤ lift b *ℤ (c.x *ℤ a.y -ℤ a.x *ℤ c.y) +ℤ lift c *ℤ (a.x *ℤ b.y -ℤ b.x *ℤ a.y)

-- of counterclockwise a, b, c: positive where d is strictly inside their circle
unfoldable pub incircle : Pt ℤ → Pt ℤ → Pt ℤ → Pt ℤ → ℤ
unfolding incircle₀
incircle a b c d = incircle₀ (minus a d) (minus b d) (minus c d)

-- six times the volume between the triangle a, b, c and its corners lifted to x² + y²: a flip makes the sum of it smaller
unfoldable pub vol : Pt ℤ → Pt ℤ → Pt ℤ → ℤ
unfolding orient
vol a b c = (lift a +ℤ lift b +ℤ lift c) *ℤ orient a b c
