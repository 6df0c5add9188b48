-- A record of a triangle, and a net with a record written at a slot. A slot is a place for a triangle: the triangles of a net are the
-- slots below tris. Definitions only.
use Rattle.std.specs.Prelude.{cond, ℕ, zero, suc, ◌+◌, ◌/◌, ◌%◌, eqb}
use Rattle.nets.specs.Nets.{Net}

abbrev pub three : ℕ → ℕ → ℕ → ℕ → ℕ
three x y z zero = x
three x y z (suc zero) = y
three x y z (suc (suc k)) = z

unfoldable pub put : (ℕ → ℕ) → ℕ → ℕ → ℕ → ℕ → ℕ → ℕ
put f t x y z h = cond (eqb (h / 3) t) (three x y z (h % 3)) (f h)

-- corners, neighbours, marks
pub record Rec : Type 0 where
  pub v0 : ℕ
  pub v1 : ℕ
  pub v2 : ℕ
  pub a0 : ℕ
  pub a1 : ℕ
  pub a2 : ℕ
  pub c0 : ℕ
  pub c1 : ℕ
  pub c2 : ℕ

unfoldable pub write : Net → ℕ → Rec → Net
write m s x = record { tris = m.tris; org = put m.org s x.v0 x.v1 x.v2; adj = put m.adj s x.a0 x.a1 x.a2; con = put m.con s x.c0 x.c1 x.c2 }

-- k more slots
unfoldable pub grow : Net → ℕ → Net
grow m k = record { tris = m.tris + k; org = m.org; adj = m.adj; con = m.con }
