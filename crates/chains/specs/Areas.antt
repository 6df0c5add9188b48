-- What a recovery keeps in the working area, for n points. A gap of the cavity, an edge whose triangle is gone, is parked at a half-edge that
-- no triangle has: the gap between the places x and x + 1 of the chain at 6 n + x, and the two half-edges above the roots at 8 n and 8 n + 1.
-- Of a parked half-edge only partner and mark are kept; its ends stand in the chain. The chain has 2 n places, the left corners from its start
-- up, the right ones from its end down, so that one number serves a corner and the gap after it; the crossed slots have 2 n places too. Both
-- stand in the rows that no triangle reaches. The leaves of the code are functions of the list. Definitions only.
use Rattle.std.specs.Prelude.{List, ◌≡◌, ℕ, zero, suc, ◌+◌, ◌*◌, ◌%◌, ◌≤◌, ◌<◌, length, get_or, set}
use Rattle.nets.specs.Layout.{cell, tell, hint}

abbrev pub org : List ℕ → ℕ → ℕ
org w h = get_or w (cell 0 h) 0

abbrev pub adj : List ℕ → ℕ → ℕ
adj w h = get_or w (cell 3 h) 0

abbrev pub con : List ℕ → ℕ → ℕ
con w h = get_or w (cell 6 h) 0

-- ---- the chain and the crossed slots

abbrev pub chain_cell : ℕ → ℕ → ℕ
chain_cell n x = 16 * (2 * n + x) + 9

abbrev pub slot_cell : ℕ → ℕ → ℕ
slot_cell n y = 16 * (2 * n + y) + 10

unfoldable pub chain_of : ℕ → List ℕ → ℕ → ℕ
chain_of n w x = get_or w (chain_cell n x) 0

unfoldable pub slot_of : ℕ → List ℕ → ℕ → ℕ
slot_of n w y = get_or w (slot_cell n y) 0

-- ---- the leaves

-- partner and mark of half-edge o go to v, and the partner is told
unfoldable pub move_w : List ℕ → ℕ → ℕ → List ℕ
move_w w o v = set (set (tell (adj w o) v w) (cell 3 v) (adj w o)) (cell 6 v) (con w o)

-- x and y become partners, with no mark
unfoldable pub join_w : List ℕ → ℕ → ℕ → List ℕ
join_w w x y = set (set (set (set w (cell 3 x) (suc y)) (cell 6 x) 0) (cell 3 y) (suc x)) (cell 6 y) 0

-- slot s gets the corners a, b, c, and each of them has it
unfoldable pub cut_w : List ℕ → ℕ → ℕ → ℕ → ℕ → List ℕ
cut_w w s a b c = hint s c (hint s b (hint s a (set (set (set w (16 * s) a) (16 * s + 1) b) (16 * s + 2) c)))

-- the mark of h, and of its partner m - 1, where there is one
unfoldable pub mark_w : List ℕ → ℕ → ℕ → List ℕ
mark_w w h zero = set w (cell 6 h) 1
mark_w w h (suc g) = set (set w (cell 6 h) 1) (cell 6 g) 1

-- ---- what the parts of a recovery stand on, and what they leave

-- each partner is a number of the layout
abbrev pub Sound : ℕ → List ℕ → Type 0
Sound n w = (h : ℕ) → h < 8 * n + 4 → adj w h ≤ 8 * n + 2

-- t triangles by n points: the area is long enough, and partners, crossed slots and corners are in range
pub record Room (n t : ℕ) (w : List ℕ) : Type 0 where
  pub some : 3 ≤ n
  pub few : n ≤ 4096
  pub less : t + 5 ≤ 2 * n
  pub real : 0 < t
  pub long : 64 * n ≤ length w
  pub sound : Sound n w
  pub slots : (y : ℕ) → y < 2 * n → slot_of n w y < t
  pub chain : (x : ℕ) → x < 2 * n → chain_of n w x < n
  pub low : (h : ℕ) → h < 3 * t → org w h < n

-- only corners, partners, marks and hints may differ, in the first 64 n numbers
pub record Still (n : ℕ) (w w' : List ℕ) : Type 0 where
  pub long : length w' ≡ length w
  pub aside : (c : ℕ) → 9 ≤ c % 16 → ¬ (c % 16 ≡ 12) → get_or w' c 0 ≡ get_or w c 0
  pub rest : (c : ℕ) → 64 * n ≤ c → get_or w' c 0 ≡ get_or w c 0
