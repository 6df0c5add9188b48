-- How far the pairs have come, step 4 of document 01, told of the net alone: what holds when the first k pairs are in, what a recovery leaves
-- before its edge is marked, and on what ground a pair is refused. Definitions only.
use Rattle.std.specs.Prelude.{List, ◌⊎◌, ◌≡◌, ℕ, ◌+◌, ◌*◌, ◌≤◌, ◌<◌, ℤ}
use Rattle.tables.specs.Data.{point_count, point, end_a, end_b, base}
use Rattle.tables.specs.Rules.{rank}
use Rattle.nets.specs.Building.{on_rim}
use Rattle.nets.specs.Flipping.{Wants, Watched}
use Rattle.nets.specs.Nets.{Net, dst}
use Rattle.nets.specs.Tilings.{Tiling, Present, Marked}
use Rattle.chains.specs.Sticking.{Sticks}
use Rattle.sheets.specs.Keeps.{EdgeOf}

-- The edge between u and v is there, and it is marked.
abbrev pub Fixed : Net → ℕ → ℕ → Type 0
Fixed m u v = (h : ℕ) × (h < 3 * m.tris) × EdgeOf m h u v × (¬ (m.con h ≡ 0))

-- u and v are the ends of pair i, in either order.
abbrev pub EndsOf : List ℕ → ℕ → ℕ → ℕ → Type 0
EndsOf qs i u v = ((u ≡ end_a qs i) × (v ≡ end_b qs i)) ⊎ ((u ≡ end_b qs i) × (v ≡ end_a qs i))

-- They are the ends of one of the first k pairs.
abbrev pub AmongPairs : List ℕ → ℕ → ℕ → ℕ → Type 0
AmongPairs qs k u v = (i : ℕ) × (i < k) × EndsOf qs i u v

-- The first k pairs are in: the net is a tiling by all points that step 3 leaves as it is, of 2 n - 2 - h triangles; each of these pairs is a
-- marked edge, and each marked edge is one of them.
pub record Paired (ps : List ℤ) (qs : List ℕ) (k : ℕ) (m : Net) : Type 0 where
  pub tile : Tiling (point ps) (base ps) (point_count ps) m
  pub rest : (h g : ℕ) → h < 3 * m.tris → ¬ Wants (point ps) (rank ps) m h g
  pub present : Present m (point_count ps)
  pub count : m.tris + 2 + on_rim (point ps) (base ps) (point_count ps) ≡ 2 * point_count ps
  pub few : m.tris + 5 ≤ 2 * point_count ps
  pub pairs : (i : ℕ) → i < k → Fixed m (end_a qs i) (end_b qs i)
  pub marks : (h : ℕ) → h < 3 * m.tris → ¬ (m.con h ≡ 0) → AmongPairs qs k (m.org h) (dst m h)

-- Refusal 11's ground for pair k: a net with the pairs before it in, of which pair k is no edge, and in which its recovery sticks.
pub record Ground (ps : List ℤ) (qs : List ℕ) (k : ℕ) : Type 0 where
  pub net : Net
  pub paired : Paired ps qs k net
  pub absent : (h : ℕ) → h < 3 * net.tris → ¬ EdgeOf net h (end_a qs k) (end_b qs k)
  pub sticks : Sticks (point ps) net (end_a qs k) (end_b qs k)

-- What the recovery of pair k makes of the net m, before the edge is marked: m' is a tiling of as many triangles by all points, with the same
-- marked edges; what step 3 would flip is among the suspects q; and half-edge h lies between the ends of the pair.
pub record Remade (ps : List ℤ) (qs : List ℕ) (k : ℕ) (m m' : Net) (q : List ℕ) (h : ℕ) : Type 0 where
  pub tile : Tiling (point ps) (base ps) (point_count ps) m'
  pub tris : m'.tris ≡ m.tris
  pub present : Present m' (point_count ps)
  pub kept : (u w : ℕ) → Marked m u w → Marked m' u w
  pub older : (u w : ℕ) → Marked m' u w → Marked m u w
  pub watched : Watched (point ps) (rank ps) m' q
  pub low : h < 3 * m'.tris
  pub edge : EdgeOf m' h (end_a qs k) (end_b qs k)

-- What is known of the ends of pair k where no row of the refusals' table offends.
pub record Ends (ps : List ℤ) (qs : List ℕ) (k : ℕ) : Type 0 where
  pub a_low : end_a qs k < point_count ps
  pub b_low : end_b qs k < point_count ps
  pub differ : ¬ (end_a qs k ≡ end_b qs k)
