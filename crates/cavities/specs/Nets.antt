-- A net of half-edges, some of them live; when it is good, that is, each live half-edge has its partner or lies along a side of the base;
-- and the invariant that recovery keeps. Definitions only.
use Rattle.std.specs.Prelude.{Bool, true, false, cond, not, ◌&&◌, ◌≡◌, ℕ, ◌<◌, ℤ, pos}
use Rattle.algebra.specs.Sum.{sum_to}
use Rattle.plane.specs.Base.{Side}

-- Half-edge h runs from the point org h to the point dst h, and is marked where mark h is not zero. Where has h is true, mate h is its
-- partner; else it lies along the base's side side h. A number that is not live is free.
pub record Net : Type 0 where
  pub live : ℕ → Bool
  pub org : ℕ → ℕ
  pub dst : ℕ → ℕ
  pub mark : ℕ → ℕ
  pub has : ℕ → Bool
  pub mate : ℕ → ℕ
  pub side : ℕ → Side

abbrev pub Live : Net → ℕ → Type 0
Live σ h = σ.live h ≡ true

abbrev pub Dead : Net → ℕ → Type 0
Dead σ h = σ.live h ≡ false

-- g is the partner of h
pub record Mated (σ : Net) (h g : ℕ) : Type 0 where
  pub live : Live σ g
  pub has : σ.has g ≡ true
  pub back : σ.mate g ≡ h
  pub org : σ.org g ≡ σ.dst h
  pub dst : σ.dst g ≡ σ.org h
  pub mark : σ.mark g ≡ σ.mark h

-- h has its partner, or lies along its side. Along i p q: the edge from p to q lies along side i of the base.
pub record Fine (Along : Side → ℕ → ℕ → Type 0) (σ : Net) (h : ℕ) : Type 0 where
  pub mated : σ.has h ≡ true → Mated σ h (σ.mate h)
  pub along : σ.has h ≡ false → Along (σ.side h) (σ.org h) (σ.dst h)

-- so is every live half-edge
abbrev pub Good : (Side → ℕ → ℕ → Type 0) → Net → Type 0
Good Along σ = (h : ℕ) → Live σ h → Fine Along σ h

-- the edge from p to q is there
pub record Edge (σ : Net) (p q : ℕ) : Type 0 where
  pub at : ℕ
  pub live : Live σ at
  pub org : σ.org at ≡ p
  pub dst : σ.dst at ≡ q

-- the edge from p to q is there, and marked
pub record Marked (σ : Net) (p q : ℕ) : Type 0 where
  pub at : ℕ
  pub live : Live σ at
  pub org : σ.org at ≡ p
  pub dst : σ.dst at ≡ q
  pub mark : ¬ (σ.mark at ≡ 0)

-- p is a corner
pub record Corner (σ : Net) (p : ℕ) : Type 0 where
  pub at : ℕ
  pub live : Live σ at
  pub org : σ.org at ≡ p

-- live, with no partner
abbrev pub bare : Net → ℕ → Bool
bare σ h = σ.live h && not (σ.has h)

-- the sum of φ over the ends of the half-edges below n that have no partner: the boundary's sum
unfoldable pub rim : ℕ → (ℕ → ℕ → ℤ) → Net → ℤ
rim n φ σ = sum_to n (λ h. cond (bare σ h) (φ (σ.org h) (σ.dst h)) (pos 0))

-- every live half-edge is below n
abbrev pub Below : ℕ → Net → Type 0
Below n σ = (h : ℕ) → Live σ h → h < n

-- what stays the same throughout: the sides, a bound of the numbers, the boundary's sum, the pairs that must be marked edges, and the
-- points that must be corners
pub record World : Type 1 where
  pub Along : Side → ℕ → ℕ → Type 0
  pub bound : ℕ
  pub φ : ℕ → ℕ → ℤ
  pub total : ℤ
  pub Must : ℕ → ℕ → Type 0
  pub Point : ℕ → Type 0

-- THE INVARIANT
pub record Inv (W : World) (σ : Net) : Type 0 where
  pub good : Good W.Along σ
  pub below : Below W.bound σ
  pub rim : rim W.bound W.φ σ ≡ W.total
  pub marked : (p q : ℕ) → W.Must p q → Marked σ p q
  pub corner : (p : ℕ) → W.Point p → Corner σ p
