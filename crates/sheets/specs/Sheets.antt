-- A net's triangles as a list of triples in house order, and what writing the sheet does. Definitions only.
use Rattle.std.specs.Prelude.{List, [], ◌∷◌, ◌++◌, ◌≡◌, ℕ, zero, suc, ◌*◌, ◌≤◌, ◌<◌, length, get_or, take}
use Rattle.sorts.specs.Items.{times, Rising}
use Rattle.nets.specs.Layout.{net_of}
use Rattle.nets.specs.Location.{least, second, third}
use Rattle.nets.specs.Nets.{Net}
use Rattle.nets.specs.Tilings.{tri}

-- The triple of slot t, turned so that its least number is first.
abbrev pub triple : Net → ℕ → List ℕ
triple m t = tri (λ u. u) m least t ∷ tri (λ u. u) m second t ∷ tri (λ u. u) m third t ∷ []

-- The triples of the first T slots, each turned, in the slots' order.
unfoldable pub turned : Net → ℕ → List ℕ
turned m zero = []
turned m (suc T) = turned m T ++ triple m T

-- The list holds the net's triangles, each turned, in the order of first, second, third number: as items of three words they rise, and
-- each stands in the list as often as among the slots.
pub record Listed (m : Net) (xs : List ℕ) : Type 0 where
  pub size : length xs ≡ 3 * m.tris
  pub words : (p : ℕ) → get_or xs p 0 < 4294967296
  pub rising : Rising xs 0 m.tris
  pub same : (x : ℕ) → times xs 0 m.tris x ≡ times (turned m m.tris) 0 m.tris x

-- The triangles of the first T slots stand at the front of out', and what is behind them is kept. The working area keeps its slots, which
-- are its first 32 n numbers, and all that is behind its first 64 n.
pub record SheetWritten (n T : ℕ) (w out w' out' : List ℕ) : Type 0 where
  pub out_size : length out' ≡ length out
  pub work_size : length w' ≡ length w
  pub listed : Listed (net_of w T) (take (3 * T) out')
  pub behind : (p : ℕ) → 3 * T ≤ p → get_or out' p 0 ≡ get_or out p 0
  pub slots : (p : ℕ) → p < 32 * n → get_or w' p 0 ≡ get_or w p 0
  pub rest : (p : ℕ) → 64 * n ≤ p → get_or w' p 0 ≡ get_or w p 0
