-- A net of triangles by half-edges: half-edge h = 3 t + k is edge k of triangle t, and runs from corner org h to the triangle's next
-- corner. adj h is the partner's number and 1, or 0 for none: the partner is the same edge as the triangle on the other side has it. con h
-- is the mark, 0 for none. Definitions only.
use Rattle.std.specs.Prelude.{◌≡◌, ℕ, suc, ◌*◌, ◌<◌}
use Rattle.plane.specs.Halfedges.{nxt}

pub record Net : Type 0 where
  pub tris : ℕ
  pub org : ℕ → ℕ
  pub adj : ℕ → ℕ
  pub con : ℕ → ℕ

abbrev pub dst : Net → ℕ → ℕ
dst m h = m.org (nxt h)

abbrev pub prv : ℕ → ℕ
prv h = nxt (nxt h)

-- S u v: u and v lie on one side of the base
pub record Linked (S : ℕ → ℕ → Type 0) (m : Net) : Type 0 where
  pub low : (h g : ℕ) → h < 3 * m.tris → m.adj h ≡ suc g → g < 3 * m.tris
  pub back : (h g : ℕ) → h < 3 * m.tris → m.adj h ≡ suc g → m.adj g ≡ suc h
  pub from : (h g : ℕ) → h < 3 * m.tris → m.adj h ≡ suc g → m.org g ≡ dst m h
  pub mark : (h g : ℕ) → h < 3 * m.tris → m.adj h ≡ suc g → m.con g ≡ m.con h
  pub side : (h : ℕ) → h < 3 * m.tris → m.adj h ≡ 0 → S (m.org h) (dst m h)
