-- What the walk has written of slots and chain stays to its end, and on which side each gap is parked. Assumes nothing.
use mathlib.Core.Bool.{Bool, true, false, cond}
use mathlib.Core.List.{List}
use mathlib.Core.Path.{◌≡◌, refl, sym, ap, ◌∙◌, subst}
use Prim.Native.Nat.{ℕ, zero, suc, ◌+◌, ◌-◌, ◌*◌, ◌/◌, ◌≤◌, ◌<◌}
use native.Mathlib.Omega.{arith}
use lib.Dec.{eqb}
use lib.IntN.{ℤ}
use lib.ListN.{length, set, length-set}
use Rattle.plane.specs.Halfedges.{nxt}
use Rattle.plane.specs.Points.{Pt}
use Rattle.nets.specs.Nets.{prv}
use Rattle.cavities.proofs.Leaves.{put_same, put_other}
use Rattle.chains.proofs.Entering.{enter_length}
use Rattle.chains.proofs.Rooms.{chain_put, slot_beside}
use Rattle.chains.specs.Areas.{org, chain_cell, chain_of, slot_of}
use Rattle.chains.specs.Recoveries.{begin_w}
use Rattle.chains.specs.Walks.{enter_w, left_w, right_w, arrive_w, Walks, far, stop, last, left, right}
use Rattle.chains.specs.declared.Reason.{Reason}
use Rattle.std.specs.Prelude.{Result}
use Rattle.tracks.proofs.Leaf.{enter_slot, enter_slot_is, enter_chain, enter_chain_is}

-- ---- the sides

-- the k-th gap is parked on the left, for the gaps that are parked from here on
unfoldable pub sides : {P : ℕ → Pt ℤ} {n t a b l r x : ℕ} {w w' : List ℕ} {out : Result (ℕ × ℕ) Reason} → Walks P n t a b w l r x out w' → ℕ → Bool
sides (far h) k = true
sides (stop h e) k = true
sides (last {l = l} {r = r} h e q) k = eqb k (l + r)
sides (left {l = l} {r = r} h e d) k = cond (eqb k (l + r)) true (sides d k)
sides (right {l = l} {r = r} h e d) k = cond (eqb k (l + r)) false (sides d k)

-- and from the first triangle on, which parks one on the left and one on the right
unfoldable pub turns : (ℕ → Bool) → ℕ → Bool
turns s zero = true
turns s (suc zero) = false
turns s (suc (suc k)) = s (suc (suc k))

pub turns_late : (s : ℕ → Bool) (k : ℕ) → 2 ≤ k → turns s k ≡ s k
unfolding turns
turns_late s zero l = absurd (let z : 2 ≤ 0 → ⊥ = omega arith in z l)
turns_late s (suc zero) l = absurd (let z : 2 ≤ 1 → ⊥ = omega arith in z l)
turns_late s (suc (suc k)) l = refl

-- ---- what stays

pub record Later (n l r : ℕ) (w w' : List ℕ) : Type 0 where
  pub slot : (y : ℕ) → y < l + r - 1 → slot_of n w' y ≡ slot_of n w y
  pub on_left : (z : ℕ) → z ≤ l → chain_of n w' z ≡ chain_of n w z
  pub on_right : (z : ℕ) → z ≤ r → chain_of n w' (2 * n - 1 - z) ≡ chain_of n w (2 * n - 1 - z)

later_none : (n l r : ℕ) (w : List ℕ) → Later n l r w w
later_none n l r w = record { slot = λ y h. refl; on_left = λ z h. refl; on_right = λ z h. refl }

-- a step leaves what was written before it
module _ (n l r y c : ℕ) (w : List ℕ) (p : 1 ≤ l) (q : 1 ≤ r) (few : l + r + 5 ≤ 2 * n) where
  pub later_left : Later n l r w (left_w n w l r y c)
  later_left = record {
    slot = λ z h. enter_slot n w (l + r - 1) y (prv y) l (l + 1) c z (omega arith);
    on_left = λ z h. enter_chain n w (l + r - 1) y (prv y) l (l + 1) c z (omega arith);
    on_right = λ z h. enter_chain n w (l + r - 1) y (prv y) l (l + 1) c (2 * n - 1 - z) (omega arith);
  }

  pub later_right : Later n l r w (right_w n w l r y c)
  later_right = record {
    slot = λ z h. enter_slot n w (l + r - 1) y (nxt y) (2 * n - 2 - r) (2 * n - 2 - r) c z (omega arith);
    on_left = λ z h. enter_chain n w (l + r - 1) y (nxt y) (2 * n - 2 - r) (2 * n - 2 - r) c z (omega arith);
    on_right = λ z h. enter_chain n w (l + r - 1) y (nxt y) (2 * n - 2 - r) (2 * n - 2 - r) c (2 * n - 1 - z) (omega arith);
  }

later_then : (n l r l' r' : ℕ) (w w1 w2 : List ℕ) → l ≤ l' → r ≤ r' → Later n l r w w1 → Later n l' r' w1 w2 → Later n l r w w2
later_then n l r l' r' w w1 w2 p q u v = record {
  slot = λ y h. v.slot y (omega arith) ∙ u.slot y h;
  on_left = λ z h. v.on_left z (omega arith) ∙ u.on_left z h;
  on_right = λ z h. v.on_right z (omega arith) ∙ u.on_right z h;
}

-- WHAT IS WRITTEN STAYS
pub later : {P : ℕ → Pt ℤ} {n t a b l r x : ℕ} {w w' : List ℕ} {out : Result (ℕ × ℕ) Reason} → Walks P n t a b w l r x out w' → 1 ≤ l → 1 ≤ r → t + 5 ≤ 2 * n → Later n l r w w'
unfolding arrive_w
later {n = n} (far {w = w} {l = l} {r = r} h) p q few = later_none n l r w
later {n = n} (stop {w = w} {l = l} {r = r} h e) p q few = later_none n l r w
later {n = n} {b = b} (last {w = w} {w' = w'} {l = l} {r = r} {y = y} h e z) p q few =
    subst (Later n l r w) (sym z)
    (later_then n l r l r w (left_w n w l r y b) (right_w n (left_w n w l r y b) l r y b) (omega arith) (omega arith)
    (later_left n l r y b w p q (omega arith)) (later_right n l r y b (left_w n w l r y b) p q (omega arith)))
later {n = n} (left {w = w} {w' = w'} {l = l} {r = r} {y = y} {c = c} h e d) p q few =
    later_then n l r (l + 1) r w (left_w n w l r y c) w' (omega arith) (omega arith) (later_left n l r y c w p q (omega arith)) (later d (omega arith) q few)
later {n = n} (right {w = w} {w' = w'} {l = l} {r = r} {y = y} {c = c} h e d) p q few =
    later_then n l r l (r + 1) w (right_w n w l r y c) w' (omega arith) (omega arith) (later_right n l r y c w p q (omega arith)) (later d p (omega arith) few)

-- ---- the first triangle

chain_set : (n : ℕ) (w : List ℕ) (e c z : ℕ) → chain_cell n e < length w → ¬ (z ≡ e) → chain_of n (set w (chain_cell n e) c) z ≡ chain_of n w z
chain_set n w e c z l d = chain_put n w e c z l ∙ put_other (chain_of n w) e c z d

chain_set_is : (n : ℕ) (w : List ℕ) (e c : ℕ) → chain_cell n e < length w → chain_of n (set w (chain_cell n e) c) e ≡ c
chain_set_is n w e c l = chain_put n w e c e l ∙ put_same (chain_of n w) e c

module _ (n : ℕ) (w : List ℕ) (a x : ℕ) (some : 3 ≤ n) (long : 64 * n ≤ length w) where
  u1 : List ℕ
  u1 = enter_w n w 0 x (nxt x) 0 1 (org w (nxt x))

  u2 : List ℕ
  u2 = enter_w n u1 0 x (prv x) (2 * n - 2) (2 * n - 2) (org w x)

  u3 : List ℕ
  u3 = set u2 (chain_cell n 0) a

  u1_length : length u1 ≡ length w
  unfolding u1
  u1_length = enter_length n w 0 x (nxt x) 0 1 (org w (nxt x))

  u2_length : length u2 ≡ length w
  unfolding u2
  u2_length = enter_length n u1 0 x (prv x) (2 * n - 2) (2 * n - 2) (org w x) ∙ u1_length

  u3_length : length u3 ≡ length w
  unfolding u3
  u3_length = length-set u2 (chain_cell n 0) a ∙ u2_length

  begin_is : begin_w n w a x ≡ set u3 (chain_cell n (2 * n - 1)) a
  unfolding begin_w u1 u2 u3
  begin_is = refl

  pub begin_slot : slot_of n (begin_w n w a x) 0 ≡ x / 3
  unfolding u3 u2
  begin_slot =
      ap (λ (v : List ℕ). slot_of n v 0) begin_is ∙ slot_beside n u3 (2 * n - 1) a 0 ∙ slot_beside n u2 0 a 0 ∙
      enter_slot_is n u1 0 x (prv x) (2 * n - 2) (2 * n - 2) (org w x) (let q = u1_length in omega arith)

  pub begin_a : chain_of n (begin_w n w a x) 0 ≡ a
  unfolding u3
  begin_a =
      ap (λ (v : List ℕ). chain_of n v 0) begin_is ∙ chain_set n u3 (2 * n - 1) a 0 (let q = u3_length in omega arith) (omega arith) ∙ chain_set_is n u2 0 a (let q = u2_length in omega arith)

  pub begin_left : chain_of n (begin_w n w a x) 1 ≡ org w (nxt x)
  unfolding u3 u2 u1
  begin_left =
      ap (λ (v : List ℕ). chain_of n v 1) begin_is ∙ chain_set n u3 (2 * n - 1) a 1 (let q = u3_length in omega arith) (omega arith)
      ∙ chain_set n u2 0 a 1 (let q = u2_length in omega arith) (omega arith) ∙
      enter_chain n u1 0 x (prv x) (2 * n - 2) (2 * n - 2) (org w x) 1 (omega arith) ∙ enter_chain_is n w 0 x (nxt x) 0 1 (org w (nxt x)) (omega arith)

  pub begin_a' : chain_of n (begin_w n w a x) (2 * n - 1) ≡ a
  begin_a' = ap (λ (v : List ℕ). chain_of n v (2 * n - 1)) begin_is ∙ chain_set_is n u3 (2 * n - 1) a (let q = u3_length in omega arith)

  pub begin_right : chain_of n (begin_w n w a x) (2 * n - 2) ≡ org w x
  unfolding u3 u2
  begin_right =
      ap (λ (v : List ℕ). chain_of n v (2 * n - 2)) begin_is ∙ chain_set n u3 (2 * n - 1) a (2 * n - 2) (let q = u3_length in omega arith)
      (omega arith) ∙ chain_set n u2 0 a (2 * n - 2) (let q = u2_length in omega arith) (omega arith) ∙
      enter_chain_is n u1 0 x (prv x) (2 * n - 2) (2 * n - 2) (org w x) (let q = u1_length in omega arith)
