-- Steps 2 and 3: when an edge flips, and flipping from a list of suspects to its end. The list has the last born first. Definitions only.
use Rattle.std.specs.Prelude.{cond, List, [], ◌∷◌, ◌⊎◌, ◌≡◌, ℕ, suc, ◌*◌, ◌/◌, ◌<◌, min, max, eqb, ℤ, pos}
use Rattle.algebra.specs.Order.{Pos}
use Rattle.plane.specs.Determinants.{orient, incircle}
use Rattle.plane.specs.Halfedges.{nxt}
use Rattle.plane.specs.Points.{Pt}
use Rattle.nets.specs.Nets.{Net, prv}
use Rattle.nets.specs.Steps.{flip}

-- the rank pair of u, v is below that of p, q
pub data Lower (rk : ℕ → ℕ) (u v p q : ℕ) : Type 0 where
  by_first : min (rk u) (rk v) < min (rk p) (rk q) → Lower rk u v p q
  by_second : min (rk u) (rk v) ≡ min (rk p) (rk q) → max (rk u) (rk v) < max (rk p) (rk q) → Lower rk u v p q

-- step 3: an edge a b with far corners c, d flips if the circle sign is positive, or if it is zero and the rank pair of c d is below
-- that of a b
abbrev pub Gains : (ℕ → Pt ℤ) → (ℕ → ℕ) → ℕ → ℕ → ℕ → ℕ → Type 0
Gains P rk a b c d = Pos (incircle (P a) (P b) (P c) (P d)) ⊎ ((incircle (P a) (P b) (P c) (P d) ≡ pos 0) × Lower rk c d a b)

-- step 3 flips half-edge h, with partner g: the edge is unmarked, it gains, and the new triangles are strictly counterclockwise
pub record Wants (P : ℕ → Pt ℤ) (rk : ℕ → ℕ) (m : Net) (h g : ℕ) : Type 0 where
  pub pair : m.adj h ≡ suc g
  pub free : m.con h ≡ 0
  pub gain : Gains P rk (m.org h) (m.org (nxt h)) (m.org (prv h)) (m.org (prv g))
  pub ccw_t : Pos (orient (P (m.org h)) (P (m.org (prv g))) (P (m.org (prv h))))
  pub ccw_n : Pos (orient (P (m.org (prv g))) (P (m.org (nxt h))) (P (m.org (prv h))))

-- s is one of the suspects
pub data Mem (s : ℕ) : List ℕ → Type 0 where
  top : {q : List ℕ} → Mem s (s ∷ q)
  below : {u : ℕ} {q : List ℕ} → Mem s q → Mem s (u ∷ q)

-- What step 3 would flip is suspect: the triangle of the half-edge, or that of its partner.
abbrev pub Watched : (ℕ → Pt ℤ) → (ℕ → ℕ) → Net → List ℕ → Type 0
Watched P rk m q = (h g : ℕ) → h < 3 * m.tris → Wants P rk m h g → Mem (h / 3) q ⊎ Mem (g / 3) q

-- s leaves the suspects
unfoldable pub leave : ℕ → List ℕ → List ℕ
leave s [] = []
leave s (u ∷ q) = cond (eqb s u) (leave s q) (u ∷ leave s q)

-- the suspects after a flip: the mate leaves, both reborn come on top
abbrev pub reborn : ℕ → ℕ → List ℕ → List ℕ
reborn h g q = g / 3 ∷ h / 3 ∷ leave (g / 3) q

-- from a net, its suspects and its newest triangle to the net and the newest triangle when no suspect is left: the last suspect is taken,
-- and the first of its edges 0, 1, 2 that step 3 flips is flipped; where there is none it is a suspect no more
pub data Legal (P : ℕ → Pt ℤ) (rk : ℕ → ℕ) : Net → List ℕ → ℕ → Net → ℕ → Type 0 where
  done : {m : Net} {z : ℕ} → Legal P rk m [] z m z
  stay : {m m' : Net} {s z z' : ℕ} {q : List ℕ} → ((h g : ℕ) → h < 3 * m.tris → h / 3 ≡ s → ¬ Wants P rk m h g) →
      Legal P rk m q z m' z' → Legal P rk m (s ∷ q) z m' z'
  turn : {m m' : Net} {s z z' : ℕ} {q : List ℕ} (h g : ℕ) → h / 3 ≡ s → h < 3 * m.tris → Wants P rk m h g →
      ((x y : ℕ) → x < h → x / 3 ≡ h / 3 → ¬ Wants P rk m x y) →
      Legal P rk (flip m h g) (reborn h g q) (g / 3) m' z' → Legal P rk m (s ∷ q) z m' z'
