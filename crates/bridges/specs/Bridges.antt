-- The two theorems of this crate, and what they say together. They are proved in proofs/. The points are P, the base is B, and the corners
-- are the points below k. Definitions only.
use Rattle.std.specs.Prelude.{◌≡◌, ℕ, suc, ◌*◌, ◌<◌, ◌≤◌, ℤ}
use Rattle.algebra.specs.Order.{Pos}
use Rattle.plane.specs.Base.{Side, area_of_base}
use Rattle.plane.specs.Points.{Pt}
use Rattle.nets.specs.Nets.{Net, dst}
use Rattle.nets.specs.Tilings.{Tiling, Has, Present, Marked}
use Rattle.cavities.specs.Corridors.{Figure}
use Rattle.cavities.specs.Fillings.{Slots, Gaps}
use Rattle.cavities.specs.Nets.{Net as Model, Dead, Good, Inv}
use Rattle.cavities.specs.Recovered.{Begun, Recovered}
use Rattle.cavities.specs.Recovery.{Recovery}
use Rattle.cavities.specs.Tilings.{AlongP, CcwP, world, Whole}
use Rattle.cavities.specs.Traces.{Traced}
use Rattle.bridges.specs.Images.{image, Reads}

-- ---- to the model

-- What the start of a recovery asks of the net alone, where the numbers below N are in use: the base is counterclockwise, the triangles of m
-- are in place and no other half-edge is live, and the invariant holds. The pairs that must be marked are the marked edges of m, and the
-- points that must be corners are the corners of m.
pub record Ready (P : ℕ → Pt ℤ) (B : Side → Pt ℤ) (N : ℕ) (m : Net) (σ : Model) : Type 0 where
  pub base_ccw : Pos (area_of_base B)
  pub reads : Reads m σ
  pub whole : Whole P B m.tris σ
  pub inv : Inv (world P B N (Marked m) (Has m)) σ
  pub dead : (h : ℕ) → 3 * m.tris ≤ h → Dead σ h

-- TO THE MODEL: the image of a tiling is ready.
abbrev pub ToCavity : Type 0
ToCavity =
    (P : ℕ → Pt ℤ) (B : Side → Pt ℤ) (k N : ℕ) (m : Net) →
    Tiling P B k m → 3 * m.tris ≤ N → Ready P B N m (image P B m)

-- The places of a recovery, where there are t triangles: the places to park at and the two half-edges above the roots are different
-- numbers beyond the triangles and below N, and there are enough of them. Both chains of the figure lead from a to b.
pub record Places (N : ℕ) (F : Figure) (t cap n l r PL PR : ℕ) : Type 0 where
  pub numbers : 3 * t ≤ N
  pub fits : suc (suc n) < cap
  pub free : (x : ℕ) → x < cap → 3 * t ≤ F.vt x
  pub low : (x : ℕ) → x < cap → F.vt x < N
  pub apart : (x y : ℕ) → x < cap → y < cap → F.vt x ≡ F.vt y → x ≡ y
  pub left_free : 3 * t ≤ PL
  pub left_low : PL < N
  pub left_apart : ¬ Gaps F.vt 0 (suc (suc (suc n))) PL
  pub right_free : 3 * t ≤ PR
  pub right_low : PR < N
  pub right_apart : ¬ Gaps F.vt 0 (suc (suc (suc n))) PR
  pub two : ¬ (PL ≡ PR)
  pub from_a : F.cl 0 ≡ F.cr 0
  pub to_b : F.cl (suc l) ≡ F.cr (suc r)

-- So a recovery may begin at the image of a tiling.
abbrev pub ToBegun : Type 1
ToBegun =
    (P : ℕ → Pt ℤ) (B : Side → Pt ℤ) (k N : ℕ) (F : Figure) (cap n l r PL PR : ℕ) (m : Net) →
    Tiling P B k m → Places N F m.tris cap n l r PL PR →
    Begun P B N (Marked m) (Has m) F m.tris cap n l r PL PR (image P B m)

-- ---- from the model

-- What stays of half-edge h, where h is of no triangle that is crossed; the crossed slots are the n first ones of slot. Its corners and its
-- mark are those that it had. It has a partner where it had one, and where one of the two partners is of no crossed triangle, it is the
-- other one, too.
pub record Beside (slot : ℕ → ℕ) (n : ℕ) (m m' : Net) (h : ℕ) : Type 0 where
  pub org : m'.org h ≡ m.org h
  pub dst : dst m' h ≡ dst m h
  pub con : m'.con h ≡ m.con h
  pub bare : m.adj h ≡ 0 → m'.adj h ≡ 0
  pub was_bare : m'.adj h ≡ 0 → m.adj h ≡ 0
  pub pair : (g : ℕ) → ¬ Slots slot 0 n g → m.adj h ≡ suc g → m'.adj h ≡ suc g
  pub was_pair : (g : ℕ) → ¬ Slots slot 0 n g → m'.adj h ≡ suc g → m.adj h ≡ suc g

-- What a recovery of the line from a to b makes of the net m, where it crosses the slots slot 0 to slot n: m' tiles the base by as many
-- triangles, every corner of m is a corner of it, so that all points are corners still where they were, the marked edges of m and of m' are
-- the same, and the edge from b to a is there. Nothing changes outside of the crossed slots but a partner that is in one. The edge from b to
-- a is edge 0 of the last crossed slot.
pub record Taken (P : ℕ → Pt ℤ) (B : Side → Pt ℤ) (k a b : ℕ) (slot : ℕ → ℕ) (n : ℕ) (m m' : Net) : Type 0 where
  pub tile : Tiling P B k m'
  pub tris : m'.tris ≡ m.tris
  pub corner : (u : ℕ) → Has m u → Has m' u
  pub present : (j : ℕ) → Present m j → Present m' j
  pub marked : (u w : ℕ) → Marked m u w → Marked m' u w
  pub edge : (h : ℕ) × (h < 3 * m'.tris) × (m'.org h ≡ b) × (dst m' h ≡ a)
  pub only : (u w : ℕ) → Marked m' u w → Marked m u w
  pub outside : (h : ℕ) → h < 3 * m.tris → ¬ Slots slot 0 (suc n) h → Beside slot (suc n) m m' h
  pub root : (m'.org (3 * slot n) ≡ b) × (dst m' (3 * slot n) ≡ a) × (3 * slot n < 3 * m'.tris)

-- The corners of m are points below k.
abbrev pub Low : ℕ → Net → Type 0
Low k m = (h : ℕ) → h < 3 * m.tris → m.org h < k

-- FROM THE MODEL: where a net of the model is good, recovered from m and traced to a net that m reads, the net m' that reads it is taken
-- from m. Recovered alone would not do: it compares the ends of partners as points and not by their numbers, it says nothing of the marks
-- of partners, and it gives no bound of the corners.
abbrev pub FromCavity : Type 0
FromCavity =
    (P : ℕ → Pt ℤ) (B : Side → Pt ℤ) (k a b : ℕ) (slot : ℕ → ℕ) (n : ℕ) (m m' : Net) (σ σ' : Model) →
    Tiling P B k m → Reads m σ → Good (AlongP P B) σ' → Recovered P B (Marked m) (Has m) m.tris a b σ' →
    Traced (Marked m) slot m.tris n a b σ σ' → Reads m' σ' → Low k m' → Taken P B k a b slot n m m'

-- ---- both together

-- A recovery that does not stick leads from a tiling to a tiling: where it leads from the image of m to a net that m' reads, m' is taken
-- from m. Here nothing more is asked of m', since a recovery keeps the net good and brings in no new corner.
abbrev pub Through : Type 1
Through =
    (P : ℕ → Pt ℤ) (B : Side → Pt ℤ) (k N : ℕ) (F : Figure) (cap n l r PL PR : ℕ) (m m' : Net) (σ : Model) →
    Tiling P B k m → Places N F m.tris cap n l r PL PR → Recovery (CcwP P) F m.tris n l r PL PR (image P B m) σ →
    Reads m' σ → Taken P B k (F.cl 0) (F.cl (suc l)) F.slot n m m'
