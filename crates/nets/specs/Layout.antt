-- The working area: 16 numbers for each slot and each point. Of those of slot t, the first three are its corners, then come its three
-- neighbours and its three marks; the tenth says whether it is a suspect. Of those of number i, the eleventh is suspect i of the stack,
-- the twelfth is the rank of point i, and the thirteenth is a slot that has point i as a corner. The last three are free. Definitions only.
use Rattle.std.specs.Prelude.{List, [], ◌∷◌, ◌≡◌, ℕ, zero, suc, ◌+◌, ◌*◌, ◌/◌, ◌%◌, ◌<◌, ◌≤◌, length, get_or, set}
use Rattle.nets.specs.Moves.{Move}
use Rattle.nets.specs.Nets.{Net}
use Rattle.nets.specs.Slots.{Rec}
use Rattle.nets.specs.Steps.{flip_moves, flip_a, flip_b, inside_moves, in_a, in_b, in_c, side_moves, side_a, side_b, edge_moves, edge_a, edge_b, edge_c, edge_e}

-- the place of half-edge h in the fields from f on
unfoldable pub cell : ℕ → ℕ → ℕ
cell f h = 16 * (h / 3) + f + h % 3

unfoldable pub net_of : List ℕ → ℕ → Net
net_of w T = record { tris = T; org = λ h. get_or w (cell 0 h) 0; adj = λ h. get_or w (cell 3 h) 0; con = λ h. get_or w (cell 6 h) 0 }

-- a half-edge's partner is told its number; 0 is no partner
unfoldable pub tell : ℕ → ℕ → List ℕ → List ℕ
tell zero y w = w
tell (suc o) y w = set w (cell 3 o) (suc y)

-- all partners, one after another, the last of the list first
unfoldable pub tells : (ℕ → ℕ) → List Move → List ℕ → List ℕ
tells adj [] w = w
tells adj (v ∷ L) w = tell (adj v.old) v.new (tells adj L w)

-- a record stands in slot s
unfoldable pub put_rec : List ℕ → ℕ → Rec → List ℕ
put_rec w s x =
    set (set (set (set (set (set (set (set (set w (16 * s) x.v0) (16 * s + 1) x.v1) (16 * s + 2) x.v2)
    (16 * s + 3) x.a0) (16 * s + 4) x.a1) (16 * s + 5) x.a2) (16 * s + 6) x.c0) (16 * s + 7) x.c1) (16 * s + 8) x.c2

-- ---- the other places

abbrev pub flag_cell : ℕ → ℕ
flag_cell s = 16 * s + 9

abbrev pub stack_cell : ℕ → ℕ
stack_cell i = 16 * i + 10

abbrev pub rank_cell : ℕ → ℕ
rank_cell i = 16 * i + 11

abbrev pub hint_cell : ℕ → ℕ
hint_cell v = 16 * v + 12

-- a triangle is born in slot s: its record is put there, and each of its corners has it
unfoldable pub hint : ℕ → ℕ → List ℕ → List ℕ
hint s v w = set w (hint_cell v) s

unfoldable pub born : List ℕ → ℕ → Rec → List ℕ
born w s x = hint s x.v2 (hint s x.v1 (hint s x.v0 (put_rec w s x)))

-- ---- what the steps write, T the number of triangles before

unfoldable pub flip_list : List ℕ → ℕ → ℕ → List ℕ
flip_list w h g =
    tells (net_of w 0).adj (flip_moves h g) (born (born w (h / 3) (flip_a (net_of w 0) h g)) (g / 3) (flip_b (net_of w 0) h g))

unfoldable pub inside_list : List ℕ → ℕ → ℕ → ℕ → List ℕ
inside_list w T t p =
    tells (net_of w T).adj (inside_moves (net_of w T) t) (born (born (born w t (in_a (net_of w T) t p)) T (in_b (net_of w T) t p)) (T + 1) (in_c (net_of w T) t p))

unfoldable pub side_list : List ℕ → ℕ → ℕ → ℕ → List ℕ
side_list w T h p =
    tells (net_of w T).adj (side_moves (net_of w T) h) (born (born w (h / 3) (side_a (net_of w T) h p)) T (side_b (net_of w T) h p))

unfoldable pub edge_list : List ℕ → ℕ → ℕ → ℕ → ℕ → List ℕ
edge_list w T h g p =
    tells (net_of w T).adj (edge_moves (net_of w T) h g)
    (born (born (born (born w (h / 3) (edge_a (net_of w T) h g p)) T (edge_b (net_of w T) h g p)) (g / 3) (edge_c (net_of w T) h g p)) (T + 1) (edge_e (net_of w T) h g p))

-- ---- what a step may take for granted, and what it leaves

-- the numbers of T triangles are in range, and there is room for them
pub record InRange (T : ℕ) (w : List ℕ) : Type 0 where
  pub corners : (h : ℕ) → h < 3 * T → 16 * (net_of w T).org h + 16 ≤ length w
  pub partners : (h : ℕ) → h < 3 * T → (net_of w T).adj h ≤ 3 * T
  pub room : 16 * T ≤ length w
  pub small : T ≤ 8192

-- the ranks, the free places, and all that is beyond the first 64 n
pub record Kept (n : ℕ) (w w' : List ℕ) : Type 0 where
  pub len : length w' ≡ length w
  pub ranks : (i : ℕ) → get_or w' (rank_cell i) 0 ≡ get_or w (rank_cell i) 0
  pub free : (i f : ℕ) → 13 ≤ f → f < 16 → get_or w' (16 * i + f) 0 ≡ get_or w (16 * i + f) 0
  pub rest : (c : ℕ) → 64 * n ≤ c → get_or w' c 0 ≡ get_or w c 0
