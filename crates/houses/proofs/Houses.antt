-- A triangle turned so that its least number is first, and the house order of two. Assumes nothing.
use mathlib.Core.List.{List}
use mathlib.Core.Path.{◌≡◌}
use Prim.Native.Nat.{ℕ, ◌+◌, ◌*◌}
use lib.ListN.{get_or}
use Rattle.nets.specs.Layout.{net_of}
use Rattle.nets.specs.Location.{in_house, earlier}
use Rattle.turns.proofs.Corners.{org0, org1, org2}

pub earlier_is : (w : List ℕ) (T s t : ℕ) → earlier (net_of w T) s t ≡
    in_house (get_or w (16 * s) 0) (get_or w (16 * s + 1) 0) (get_or w (16 * s + 2) 0) (get_or w (16 * t) 0) (get_or w (16 * t + 1) 0) (get_or w (16 * t + 2) 0)
unfolding earlier
earlier_is w T s t = rw (org0 w T s, org1 w T s, org2 w T s, org0 w T t, org1 w T t, org2 w T t)
