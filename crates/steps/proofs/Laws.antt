-- Where the numbers of a half-edge and of the next ones stand, and that a triangle read from a half-edge on has its numbers in range.
use mathlib.Core.List.{List, [], ◌∷◌}
use mathlib.Core.Path.{◌≡◌}
use Prim.Native.Nat.{ℕ, ◌+◌, ◌*◌, ◌/◌, ◌<◌}
use native.Mathlib.Omega.{arith}
use lib.ListN.{length, get_or}
use Rattle.plane.specs.Halfedges.{nxt}
use Rattle.nets.specs.Layout.{cell, net_of, InRange}
use Rattle.nets.specs.Nets.{prv}
use Rattle.nets.proofs.Slot.{nxt_slot, nxt_slot2, nxt_in}
use Rattle.store.specs.declared.Tri.{Tri}
use Rattle.steps.specs.Seen.{seen, Low}

-- ---- the next ones stand in the same slot

pub near_next : (h : ℕ) → nxt h < 3 * (h / 3) + 3
near_next h = omega (arith, nxt_slot h)

pub near_previous : (h : ℕ) → prv h < 3 * (h / 3) + 3
near_previous h = omega (arith, nxt_slot2 h)

at_0 : (h : ℕ) → cell 0 h ≡ 13 * (h / 3) + h
unfolding cell
at_0 h = omega arith

at_3 : (h : ℕ) → cell 3 h ≡ 13 * (h / 3) + h + 3
unfolding cell
at_3 h = omega arith

at_6 : (h : ℕ) → cell 6 h ≡ 13 * (h / 3) + h + 6
unfolding cell
at_6 h = omega arith

-- ---- the triangle from half-edge h on

module _ (w : List ℕ) (h : ℕ) where
  pub seen_read :
      {i j : ℕ} → i ≡ nxt h → j ≡ prv h →
      let b = 13 * (h / 3) in
      ◌≡◌ {A = Tri} (record {
        v = get_or w (b + h) 0 ∷ get_or w (b + i) 0 ∷ get_or w (b + j) 0 ∷ [];
        adj = get_or w (b + h + 3) 0 ∷ get_or w (b + i + 3) 0 ∷ get_or w (b + j + 3) 0 ∷ [];
        con = get_or w (b + h + 6) 0 ∷ get_or w (b + i + 6) 0 ∷ get_or w (b + j + 6) 0 ∷ [];
      }) (seen w h)
  unfolding seen
  seen_read e f = rw (e, f) (simp (at_0, at_3, at_6, nxt_slot))

  pub seen_low : (T : ℕ) → InRange T w → h < 3 * T → Low T (length w) (seen w h)
  unfolding seen net_of
  seen_low T r l =
      let m : nxt h < 3 * T = nxt_in h T l in
      let n : prv h < 3 * T = nxt_in (nxt h) T m in
      record { v0 = r.corners h l; v1 = r.corners (nxt h) m; v2 = r.corners (prv h) n; a0 = r.partners h l; a1 = r.partners (nxt h) m; a2 = r.partners (prv h) n }
