-- A net of the working area, as crate nets has it, seen as a net of the model of recovery, as crate cavities has it. Both number their
-- half-edges alike: half-edge 3 t + j is edge j of triangle t. Definitions only.
use Rattle.std.specs.Prelude.{Bool, true, false, cond, ◌&&◌, ◌≡◌, ℕ, zero, suc, ◌*◌, ◌<◌, ltb, ℤ}
use Rattle.plane.specs.Base.{Side, s0, s1, s2}
use Rattle.plane.specs.Points.{Pt}
use Rattle.nets.specs.Building.{on_side}
use Rattle.nets.specs.Nets.{Net, dst}
use Rattle.cavities.specs.Nets.{Net as Model, Live}

-- A half-edge has a partner where its number adj is not 0. The partner is the number before that one.
abbrev pub has_mate : ℕ → Bool
has_mate zero = false
has_mate (suc g) = true

abbrev pub mate_of : ℕ → ℕ
mate_of zero = zero
mate_of (suc g) = g

-- This is the first of the base's sides that both points lie on, and the last side where they lie on neither of the other two.
unfoldable pub side_of : (Side → Pt ℤ) → Pt ℤ → Pt ℤ → Side
side_of B p q = cond (on_side B s0 p && on_side B s0 q) s0 (cond (on_side B s1 p && on_side B s1 q) s1 s2)

-- The image of the net m has the half-edges of its triangles for its live ones, with the same ends, marks and partners. A half-edge that
-- has no partner is given the side of the base that its ends lie on.
unfoldable pub image : (ℕ → Pt ℤ) → (Side → Pt ℤ) → Net → Model
image P B m = record {
  live = λ h. ltb h (3 * m.tris);
  org = m.org;
  dst = dst m;
  mark = m.con;
  has = λ h. has_mate (m.adj h);
  mate = λ h. mate_of (m.adj h);
  side = λ h. side_of B (P (m.org h)) (P (dst m h));
}

-- The net m is what the working area holds of the model's net σ: the live half-edges are those of the triangles of m, and of each of them
-- the two nets have the same ends, the same mark and the same partner. What σ has at a free number does not matter, nor which side of the
-- base it names.
pub record Reads (m : Net) (σ : Model) : Type 0 where
  pub live : (h : ℕ) → h < 3 * m.tris → Live σ h
  pub low : (h : ℕ) → Live σ h → h < 3 * m.tris
  pub org : (h : ℕ) → h < 3 * m.tris → σ.org h ≡ m.org h
  pub dst : (h : ℕ) → h < 3 * m.tris → σ.dst h ≡ dst m h
  pub mark : (h : ℕ) → h < 3 * m.tris → σ.mark h ≡ m.con h
  pub mated : (h : ℕ) → h < 3 * m.tris → σ.has h ≡ true → m.adj h ≡ suc (σ.mate h)
  pub bare : (h : ℕ) → h < 3 * m.tris → σ.has h ≡ false → m.adj h ≡ 0
