-- The rows that no triangle has are made ready for the first recovery. Definitions only.
use Rattle.std.specs.Prelude.{List, ◌≡◌, ℕ, ◌+◌, ◌*◌, ◌/◌, ◌%◌, ◌≤◌, ◌<◌, length, get_or}
use Rattle.nets.specs.Layout.{net_of}
use Rattle.chains.specs.Areas.{org, adj}

-- place c is one of the places from lo up to hi of a row from a up to b
pub record In (a b lo hi c : ℕ) : Type 0 where
  pub from : a ≤ c / 16
  pub to : c / 16 < b
  pub low : lo ≤ c % 16
  pub high : c % 16 < hi

pub record WipedRows (a b lo hi : ℕ) (w w' : List ℕ) : Type 0 where
  pub len : length w' ≡ length w
  pub zero : (c : ℕ) → In a b lo hi c → get_or w' c 0 ≡ 0
  pub rest : (c : ℕ) → ¬ In a b lo hi c → get_or w' c 0 ≡ get_or w c 0

-- the partners of the rows without a triangle, and the chain and the crossed slots, for n points and t triangles
pub data Zeroed (n t c : ℕ) : Type 0 where
  partner : In t (4 * n) 3 6 c → Zeroed n t c
  chain : In (2 * n) (4 * n) 9 11 c → Zeroed n t c

pub record Cleared (n t : ℕ) (w w' : List ℕ) : Type 0 where
  pub len : length w' ≡ length w
  pub zero : (c : ℕ) → Zeroed n t c → get_or w' c 0 ≡ 0
  pub rest : (c : ℕ) → ¬ Zeroed n t c → get_or w' c 0 ≡ get_or w c 0

-- the net of t triangles reads the same
pub record SameNet (t : ℕ) (w w' : List ℕ) : Type 0 where
  pub org : (h : ℕ) → h < 3 * t → (net_of w' t).org h ≡ (net_of w t).org h
  pub adj : (h : ℕ) → h < 3 * t → (net_of w' t).adj h ≡ (net_of w t).adj h
  pub con : (h : ℕ) → h < 3 * t → (net_of w' t).con h ≡ (net_of w t).con h

-- what is asked of the area before: the numbers of the t triangles by n points are in range
pub record Ranged (n t : ℕ) (w : List ℕ) : Type 0 where
  pub some : 3 ≤ n
  pub few : n ≤ 4096
  pub less : t + 5 ≤ 2 * n
  pub real : 0 < t
  pub long : 64 * n ≤ length w
  pub corners : (h : ℕ) → h < 3 * t → org w h < n
  pub partners : (h : ℕ) → h < 3 * t → adj w h ≤ 3 * t
