-- What the leaves ask of the working area: the places that they write are in it. Every Room gives it. Definitions only.
use Rattle.std.specs.Prelude.{List, ℕ, ◌+◌, ◌*◌, ◌/◌, ◌≤◌, ◌<◌, length}
use Rattle.chains.specs.Areas.{adj}

-- the row of half-edge h, and h is a number of the layout for 4,096 points
abbrev pub Row : List ℕ → ℕ → Type 0
Row w h = (h < 49152) × (16 * (h / 3) + 16 ≤ length w)

-- half-edge o can move to v, and its partner can be told
abbrev pub CanMove : List ℕ → ℕ → ℕ → Type 0
CanMove w o v = (o < 49152) × (v < 49152) × (16 * (o / 3) + 16 ≤ length w) × (16 * (v / 3) + 16 ≤ length w) × (adj w o ≤ 49152) × (16 * ((adj w o + 2) / 3) ≤ length w)

-- slot s can take the corners a, b, c
abbrev pub CanCut : List ℕ → ℕ → ℕ → ℕ → ℕ → Type 0
CanCut w s a b c = (s < 8192) × (a < 4096) × (b < 4096) × (c < 4096) × (16 * s + 16 ≤ length w) × (16 * a + 16 ≤ length w) × (16 * b + 16 ≤ length w) × (16 * c + 16 ≤ length w)
