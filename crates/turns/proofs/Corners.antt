-- The corners and the partners of a slot, as they are read. Assumes nothing.
use mathlib.Core.List.{List}
use mathlib.Core.Path.{◌≡◌, ap}
use Prim.Native.Nat.{ℕ, ◌+◌, ◌*◌, ◌<◌}
use native.Mathlib.Omega.{arith}
use lib.IntN.{ℤ}
use lib.ListN.{get_or}
use Rattle.tables.specs.Data.{point_count}
use Rattle.nets.specs.Layout.{cell, net_of}
use Rattle.turns.specs.Moves.{Numbered}

cell0 : (f t : ℕ) → cell f (3 * t) ≡ 16 * t + f
unfolding cell
cell0 f t = omega arith

cell1 : (f t : ℕ) → cell f (3 * t + 1) ≡ 16 * t + f + 1
unfolding cell
cell1 f t = omega arith

cell2 : (f t : ℕ) → cell f (3 * t + 2) ≡ 16 * t + f + 2
unfolding cell
cell2 f t = omega arith

module _ (w : List ℕ) (T t : ℕ) where
  read : {i j : ℕ} → i ≡ j → get_or w i 0 ≡ get_or w j 0
  read e = ap (λ (i : ℕ). get_or w i 0) e

  pub org0 : (net_of w T).org (3 * t) ≡ get_or w (16 * t) 0
  unfolding net_of
  org0 = read (let e = cell0 0 t in omega arith)

  pub org1 : (net_of w T).org (3 * t + 1) ≡ get_or w (16 * t + 1) 0
  unfolding net_of
  org1 = read (let e = cell1 0 t in omega arith)

  pub org2 : (net_of w T).org (3 * t + 2) ≡ get_or w (16 * t + 2) 0
  unfolding net_of
  org2 = read (let e = cell2 0 t in omega arith)

  pub adj0 : (net_of w T).adj (3 * t) ≡ get_or w (16 * t + 3) 0
  unfolding net_of
  adj0 = read (let e = cell0 3 t in omega arith)

  pub adj1 : (net_of w T).adj (3 * t + 1) ≡ get_or w (16 * t + 4) 0
  unfolding net_of
  adj1 = read (let e = cell1 3 t in omega arith)

  pub adj2 : (net_of w T).adj (3 * t + 2) ≡ get_or w (16 * t + 5) 0
  unfolding net_of
  adj2 = read (let e = cell2 3 t in omega arith)

-- each corner of slot t is a point number
abbrev pub Low : List ℤ → List ℕ → ℕ → Type 0
Low ps w t = (get_or w (16 * t) 0 < point_count ps) × (get_or w (16 * t + 1) 0 < point_count ps) × (get_or w (16 * t + 2) 0 < point_count ps)

pub lows : (ps : List ℤ) (w : List ℕ) (T t : ℕ) → Numbered ps w T → t < T → Low ps w t
lows ps w T t n l =
    (rw (org0 w T t) at (n (3 * t) (omega arith)), rw (org1 w T t) at (n (3 * t + 1) (omega arith)), rw (org2 w T t) at (n (3 * t + 2) (omega arith)))
