-- The room of a recovery has what the leaves ask for. Assumes nothing.
use mathlib.Core.List.{List}
use mathlib.Core.Path.{◌≡◌, ◌∙◌}
use Prim.Native.Nat.{ℕ, ◌+◌, ◌*◌, ◌<◌}
use native.Mathlib.Omega.{arith}
use lib.IntN.{ℤ}
use Rattle.tables.specs.Data.{point_count}
use Rattle.tables.specs.Figures.{Figure}
use Rattle.tables.proofs.Table.{near_list}
use Rattle.segments.specs.Near.{Near}
use Rattle.chains.specs.Areas.{chain_of, slot_of, cut_w, Room}
use Rattle.seams.specs.Fits.{Row, CanMove, CanCut}

module _ (n t : ℕ) (w : List ℕ) (room : Room n t w) where
  pub row_fits : (h : ℕ) → h < 8 * n + 4 → Row w h
  row_fits h l = let s = room.some in let f = room.few in let g = room.long in (omega arith, omega arith)

  pub can_move : (o v : ℕ) → o < 8 * n + 4 → v < 8 * n + 4 → CanMove w o v
  can_move o v lo lv =
      let s = room.some in
      let f = room.few in
      let g = room.long in
      let a = room.sound o lo in (omega arith, omega arith, omega arith, omega arith, omega arith, omega arith)

  pub can_cut : (s a b c : ℕ) → s < 2 * n → a < n → b < n → c < n → CanCut w s a b c
  can_cut s a b c ls la lb lc =
      let f = room.few in
      let g = room.long in (omega arith, omega arith, omega arith, omega arith, omega arith, omega arith, omega arith, omega arith)

  pub slot_low : (y : ℕ) → y < 2 * n → slot_of n w y < 2 * n
  slot_low y h = let s = room.slots y h in let l = room.less in omega arith

  -- read from the chain and from the crossed slots
  pub read_low : {a x : ℕ} → a ≡ chain_of n w x → x < 2 * n → a < n
  read_low {a} {x} e h = rw e (room.chain x h)

  pub corner_low : (ps : List ℤ) → n ≡ point_count ps → {a x : ℕ} → a ≡ chain_of n w x → x < 2 * n → a < point_count ps
  corner_low ps e {a} {x} ea h = rw (← e) (read_low ea h)

  pub cut_fits : {s a b c y i j k : ℕ} → s ≡ slot_of n w y → a ≡ chain_of n w i → b ≡ chain_of n w j → c ≡ chain_of n w k → y < 2 * n → i < 2 * n → j < 2 * n → k < 2 * n → CanCut w s a b c
  cut_fits {s} {a} {b} {c} {y} {i} {j} {k} es ea eb ec ly li lj lk = can_cut s a b c (rw es (slot_low y ly)) (read_low ea li) (read_low eb lj) (read_low ec lk)

pub figure_near : {ps : List ℤ} → Figure ps → Near ps
figure_near {ps} f = near_list ps f.even f.near

pub cut_as : (w : List ℕ) (s : ℕ) {w' : List ℕ} {a b c a' b' c' : ℕ} → w' ≡ cut_w w s a b c → a ≡ a' → b ≡ b' → c ≡ c' → w' ≡ cut_w w s a' b' c'
cut_as w s e ea eb ec = e ∙ rw (ea, eb, ec)
