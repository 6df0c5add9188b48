-- A turn of the walk, by what is read of the slot. Assumes nothing.
use mathlib.Core.Bool.{Bool, true, false, cond, ◌&&◌, not}
use mathlib.Core.List.{List}
use mathlib.Core.Logic.{◌⊎◌, inl, inr}
use mathlib.Core.Path.{◌≡◌, refl, sym}
use Prim.Native.Nat.{ℕ, zero, suc, ◌+◌, ◌*◌}
use native.Mathlib.Omega.{arith}
use lib.IntN.{ℤ, pos, negsuc, neg_ℤ}
use lib.ListN.{get_or}
use lib.Signed.{lt_z}
use Rattle.std.specs.Prelude.{Option, None, Some}
use borrow.Author.Tests.{lt-ltb, le-ltb}
use Rattle.algebra.specs.Tests.{posb, eq_z}
use Rattle.plane.proofs.Halfedges.{nxt0, nxt1, nxt2}
use Rattle.plane.specs.Determinants.{orient}
use Rattle.plane.specs.Points.{Pt}
use Rattle.nets.specs.Layout.{net_of}
use Rattle.nets.specs.Location.{beyond, holds, step, or_else, slot_of, edge_at}
use Rattle.turns.specs.Moves.{move, chosen}
use Rattle.turns.specs.Numbers.{suc_or_0}
use Rattle.turns.proofs.Corners.{org0, org1, org2, adj0, adj1, adj2}

-- below zero
pub neg_lt : (z : ℤ) → lt_z z (pos 0) ≡ posb (neg_ℤ z)
neg_lt (pos zero) = refl
neg_lt (pos (suc n)) = le-ltb (suc n) 0 (omega arith)
neg_lt (negsuc n) = sym (lt-ltb 0 (suc n) (omega arith))

-- ---- the choice

-- a way on leads over an edge that the point is beyond
beyond_some : (s0 s1 s2 : Bool) (x0 x1 x2 : ℕ) → ¬ (or_else (cond s0 x0 0) (or_else (cond s1 x1 0) (cond s2 x2 0)) ≡ 0) → not s0 && not s1 && not s2 ≡ false
beyond_some true s1 s2 x0 x1 x2 n = refl
beyond_some false true s2 x0 x1 x2 n = refl
beyond_some false false true x0 x1 x2 n = refl
beyond_some false false false x0 x1 x2 n = absurd (n refl)

pub some_beyond : {s0 s1 s2 : Bool} → (s0 ≡ true) ⊎ ((s0 ≡ false × s1 ≡ true) ⊎ (s0 ≡ false × s1 ≡ false × s2 ≡ true)) → not s0 && not s1 && not s2 ≡ false
some_beyond (inl e) = rw e
some_beyond (inr (inl e)) = rw (e.0, e.1)
some_beyond (inr (inr e)) = rw (e.0, e.1, e.2)

module _ (s0 s1 s2 : Bool) (a0 a1 a2 : ℕ) where
  abbrev first_over : ℕ
  first_over = or_else (cond s0 (slot_of a0) 0) (or_else (cond s1 (slot_of a1) 0) (cond s2 (slot_of a2) 0))

  goes : {t : ℕ} → first_over ≡ suc t → suc (suc t) ≡ chosen s0 s1 s2 a0 a1 a2
  unfolding chosen
  goes {t} k = rw (beyond_some s0 s1 s2 (slot_of a0) (slot_of a1) (slot_of a2) (λ z. let f : ⊥ = omega arith in f), k)

  -- calls told of the edges in turn
  pub goes0 : (x0 : Option ℕ) {t : ℕ} → suc_or_0 x0 ≡ cond s0 (slot_of a0) 0 → x0 ≡ Some t → suc (suc t) ≡ chosen s0 s1 s2 a0 a1 a2
  goes0 x0 e i = goes (rw (← e, i))

  module _ (x0 : Option ℕ) (e0 : suc_or_0 x0 ≡ cond s0 (slot_of a0) 0) (n0 : x0 ≡ None) (x1 : Option ℕ) (e1 : suc_or_0 x1 ≡ cond s1 (slot_of a1) 0) where
    pub goes1 : {t : ℕ} → x1 ≡ Some t → suc (suc t) ≡ chosen s0 s1 s2 a0 a1 a2
    goes1 i = goes (rw (← e0, n0, ← e1, i))

    module _ (n1 : x1 ≡ None) (x2 : Option ℕ) (e2 : suc_or_0 x2 ≡ cond s2 (slot_of a2) 0) where
      pub goes2 : {t : ℕ} → x2 ≡ Some t → suc (suc t) ≡ chosen s0 s1 s2 a0 a1 a2
      goes2 i = goes (rw (← e0, n0, ← e1, n1, ← e2, i))

      pub stuck : x2 ≡ None → not s0 && not s1 && not s2 ≡ false → 1 ≡ chosen s0 s1 s2 a0 a1 a2
      unfolding chosen
      stuck n2 n = rw (n, ← e0, n0, ← e1, n1, ← e2, n2)

  pub stays : not s0 && not s1 && not s2 ≡ true → 0 ≡ chosen s0 s1 s2 a0 a1 a2
  unfolding chosen
  stays n = rw n

-- ---- what is read of slot t

module _ (P : ℕ → Pt ℤ) (w : List ℕ) (T : ℕ) (p : Pt ℤ) (t : ℕ) where
  abbrev det : ℕ → ℕ → ℤ
  det i j = orient (P (get_or w i 0)) (P (get_or w j 0)) p

  abbrev right : ℕ → ℕ → Bool
  right i j = posb (neg_ℤ (det i j))

  beyond0 : beyond P (net_of w T) p (3 * t) ≡ right (16 * t) (16 * t + 1)
  unfolding beyond
  beyond0 = rw (nxt0 t, org0 w T t, org1 w T t)

  beyond1 : beyond P (net_of w T) p (3 * t + 1) ≡ right (16 * t + 1) (16 * t + 2)
  unfolding beyond
  beyond1 = rw (nxt1 t, org1 w T t, org2 w T t)

  beyond2 : beyond P (net_of w T) p (3 * t + 2) ≡ right (16 * t + 2) (16 * t)
  unfolding beyond
  beyond2 = rw (nxt2 t, org2 w T t, org0 w T t)

  move_is : move P (net_of w T) p t ≡ chosen (right (16 * t) (16 * t + 1)) (right (16 * t + 1) (16 * t + 2)) (right (16 * t + 2) (16 * t))
      (get_or w (16 * t + 3) 0) (get_or w (16 * t + 4) 0) (get_or w (16 * t + 5) 0)
  unfolding move holds step chosen
  move_is = rw (beyond0, beyond1, beyond2, adj0 w T t, adj1 w T t, adj2 w T t)

  pub moved : {r0 r1 r2 : Bool} → r0 ≡ right (16 * t) (16 * t + 1) → r1 ≡ right (16 * t + 1) (16 * t + 2) → r2 ≡ right (16 * t + 2) (16 * t) →
      {r : ℕ} → r ≡ chosen r0 r1 r2 (get_or w (16 * t + 3) 0) (get_or w (16 * t + 4) 0) (get_or w (16 * t + 5) 0) → r ≡ move P (net_of w T) p t
  moved e f g h = rw (move_is, ← e, ← f, ← g) h

  edge_is : edge_at P (net_of w T) p t ≡ or_else (cond (eq_z (det (16 * t) (16 * t + 1)) (pos 0)) (suc (3 * t)) 0)
      (or_else (cond (eq_z (det (16 * t + 1) (16 * t + 2)) (pos 0)) (suc (3 * t + 1)) 0) (cond (eq_z (det (16 * t + 2) (16 * t)) (pos 0)) (suc (3 * t + 2)) 0))
  unfolding edge_at
  edge_is = rw (nxt0 t, nxt1 t, nxt2 t, org0 w T t, org1 w T t, org2 w T t)

  -- calls told of the edges in turn
  module _ {r0 : Bool} (e0 : r0 ≡ eq_z (det (16 * t) (16 * t + 1)) (pos 0)) where
    pub edge0 : r0 ≡ true → suc (3 * t) ≡ edge_at P (net_of w T) p t
    edge0 h = rw (edge_is, ← e0, h)

    module _ (n0 : r0 ≡ false) {r1 : Bool} (e1 : r1 ≡ eq_z (det (16 * t + 1) (16 * t + 2)) (pos 0)) where
      pub edge1 : r1 ≡ true → suc (3 * t + 1) ≡ edge_at P (net_of w T) p t
      edge1 h = rw (edge_is, ← e0, n0, ← e1, h)

      module _ (n1 : r1 ≡ false) {r2 : Bool} (e2 : r2 ≡ eq_z (det (16 * t + 2) (16 * t)) (pos 0)) where
        pub edge2 : r2 ≡ true → suc (3 * t + 2) ≡ edge_at P (net_of w T) p t
        edge2 h = rw (edge_is, ← e0, n0, ← e1, n1, ← e2, h)

        pub no_edge : r2 ≡ false → 0 ≡ edge_at P (net_of w T) p t
        no_edge h = rw (edge_is, ← e0, n0, ← e1, n1, ← e2, h)
