-- What marking an edge writes in the working area is what it makes of the net, and the ranks, the free places and the rest are kept. Assumes
-- nothing.
use mathlib.Core.List.{List}
use mathlib.Core.Path.{◌≡◌, refl}
use Prim.Native.Nat.{ℕ, zero, suc, ◌*◌, ◌<◌, ◌≤◌}
use native.Mathlib.Omega.{arith}
use lib.IntN.{ℤ}
use lib.ListN.{length}
use Rattle.plane.specs.Base.{Side}
use Rattle.plane.specs.Points.{Pt}
use Rattle.nets.specs.Layout.{net_of, Kept}
use Rattle.nets.specs.Tilings.{Tiling}
use Rattle.nets.proofs.Memory.{net_eq}
use Rattle.chains.specs.Areas.{adj, con, mark_w}
use Rattle.chains.proofs.Laws.{mark_org, mark_adj, mark_con}
use Rattle.chains.proofs.Rooms.{mark_still, still_kept}
use Rattle.stages.specs.Marking.{mark_both, mark_net}

pub mark_net_lem : (n : ℕ) (w : List ℕ) (T h a : ℕ) → 64 * n ≤ length w → h < 12 * n → a ≤ 12 * n → net_of (mark_w w h a) T ≡ mark_net (net_of w T) h a
unfolding net_of mark_net mark_both
mark_net_lem n w T h a l b k = net_eq (net_of (mark_w w h a) T) (mark_net (net_of w T) h a) refl (mark_org w h a) (mark_adj w h a) (marks a k)
  where
    marks : (a : ℕ) → a ≤ 12 * n → (x : ℕ) → con (mark_w w h a) x ≡ mark_both (λ z. con w z) h a x
    marks zero k x = mark_con n w h zero x l b k
    marks (suc g) k x = mark_con n w h (suc g) x l b k

-- with the partner that the working area has
module _ {P : ℕ → Pt ℤ} {B : Side → Pt ℤ} {k : ℕ} (n : ℕ) (w : List ℕ) (T h : ℕ) (v : Tiling P B k (net_of w T)) (few : T ≤ 2 * n) (b : h < 3 * T) where
  low : adj w h ≤ 12 * n
  unfolding net_of
  low = go (adj w h) (λ g e. v.linked.low h g b e)
    where
      go : (a : ℕ) → ((g : ℕ) → a ≡ suc g → g < 3 * T) → a ≤ 12 * n
      go zero f = omega arith
      go (suc g) f = let l = f g refl in omega arith

  pub mark_net_adj : 64 * n ≤ length w → net_of (mark_w w h (adj w h)) T ≡ mark_net (net_of w T) h ((net_of w T).adj h)
  unfolding net_of
  mark_net_adj l = mark_net_lem n w T h (adj w h) l (let z : h < 12 * n = omega arith in z) low

  pub mark_kept : Kept n w (mark_w w h (adj w h))
  mark_kept = still_kept n w (mark_w w h (adj w h)) (mark_still n w h (adj w h) (let z : h < 12 * n = omega arith in z) low)
