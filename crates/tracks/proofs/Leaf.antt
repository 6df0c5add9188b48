-- What an entry of the walk writes, place by place: one crossed slot, one corner of the chain, and the partner of the parked half-edge's
-- partner. Assumes nothing.
use mathlib.Core.List.{List}
use mathlib.Core.Path.{◌≡◌, sym, ap, ◌∙◌, subst}
use Prim.Native.Nat.{ℕ, suc, ◌+◌, ◌*◌, ◌/◌, ◌≤◌, ◌<◌}
use native.Mathlib.Omega.{arith}
use lib.ListN.{length, set, length-set}
use lib.Seq.{get_or-set_same, get_or-set_other}
use Rattle.nets.specs.Layout.{cell}
use Rattle.cavities.proofs.Leaves.{put_same, put_other}
use Rattle.chains.proofs.Entering.{enter_off, enter_adj}
use Rattle.chains.proofs.Laws.{cell_inj, cell_apart, cell_away, cell_off, off_cell, chain_mod, slot_mod, move_length, move_off, told}
use Rattle.chains.specs.Areas.{adj, con, chain_cell, slot_cell, chain_of, slot_of, move_w}
use Rattle.chains.specs.Walks.{enter_w}

module _ (n : ℕ) (w : List ℕ) (k y o g e c : ℕ) where
  pub enter_con : (h : ℕ) → ¬ (h ≡ 6 * n + g) → con (enter_w n w k y o g e c) h ≡ con w h
  enter_con h d =
      enter_off n w k y o g e c (cell 6 h) (cell_off 6 h (slot_cell n k) (omega arith) (slot_mod n k)) (cell_off 6 h (chain_cell n e) (omega arith) (chain_mod n e))
      (λ q z. cell_away 6 3 h q (omega arith) (omega arith)) (cell_away 6 3 h (6 * n + g) (omega arith) (omega arith)) (λ q. d (cell_inj 6 h (6 * n + g) q))

  -- the partner of o is told, and no other half-edge
  pub enter_not : (h : ℕ) → ¬ (h ≡ 6 * n + g) → ¬ (adj w o ≡ suc h) → adj (enter_w n w k y o g e c) h ≡ adj w h
  enter_not h d p =
      enter_off n w k y o g e c (cell 3 h) (cell_off 3 h (slot_cell n k) (omega arith) (slot_mod n k)) (cell_off 3 h (chain_cell n e) (omega arith) (chain_mod n e))
      (λ q z u. p (z ∙ ap suc (sym (cell_inj 3 h q u)))) (λ q. d (cell_inj 3 h (6 * n + g) q)) (cell_apart 3 6 h (6 * n + g) (omega arith) (omega arith))

  pub enter_told : (h : ℕ) → 64 * n ≤ length w → g < 2 * n → h < 6 * n → adj w o ≡ suc h → adj (enter_w n w k y o g e c) h ≡ suc (6 * n + g)
  enter_told h long gl hl p =
      enter_adj n w k y o g e c long (omega arith) (omega arith) h ∙ put_other (told (adj w o) (6 * n + g) (λ z. adj w z)) (6 * n + g) (adj w o) h (omega arith) ∙
      ap (λ (m : ℕ). told m (6 * n + g) (λ z. adj w z) h) p ∙ put_same (λ z. adj w z) h (suc (6 * n + g))

  pub enter_slot : (z : ℕ) → ¬ (z ≡ k) → slot_of n (enter_w n w k y o g e c) z ≡ slot_of n w z
  unfolding slot_of
  enter_slot z d =
      enter_off n w k y o g e c (slot_cell n z) (omega arith) (omega arith) (λ q u. off_cell 3 q (slot_cell n z) (omega arith) (slot_mod n z))
      (off_cell 3 (6 * n + g) (slot_cell n z) (omega arith) (slot_mod n z)) (off_cell 6 (6 * n + g) (slot_cell n z) (omega arith) (slot_mod n z))

  pub enter_slot_is : slot_cell n k < length w → slot_of n (enter_w n w k y o g e c) k ≡ y / 3
  unfolding enter_w slot_of
  enter_slot_is l =
      get_or-set_other (move_w (set w (slot_cell n k) (y / 3)) o (6 * n + g)) (chain_cell n e) (slot_cell n k) c 0 (omega arith) ∙
      move_off (set w (slot_cell n k) (y / 3)) o (6 * n + g) (slot_cell n k) (λ q u. off_cell 3 q (slot_cell n k) (omega arith) (slot_mod n k))
      (off_cell 3 (6 * n + g) (slot_cell n k) (omega arith) (slot_mod n k)) (off_cell 6 (6 * n + g) (slot_cell n k) (omega arith) (slot_mod n k)) ∙
      get_or-set_same w (slot_cell n k) (y / 3) 0 l

  pub enter_chain : (z : ℕ) → ¬ (z ≡ e) → chain_of n (enter_w n w k y o g e c) z ≡ chain_of n w z
  unfolding chain_of
  enter_chain z d =
      enter_off n w k y o g e c (chain_cell n z) (omega arith) (omega arith) (λ q u. off_cell 3 q (chain_cell n z) (omega arith) (chain_mod n z))
      (off_cell 3 (6 * n + g) (chain_cell n z) (omega arith) (chain_mod n z)) (off_cell 6 (6 * n + g) (chain_cell n z) (omega arith) (chain_mod n z))

  pub enter_chain_is : chain_cell n e < length w → chain_of n (enter_w n w k y o g e c) e ≡ c
  unfolding enter_w chain_of
  enter_chain_is l =
      get_or-set_same (move_w (set w (slot_cell n k) (y / 3)) o (6 * n + g)) (chain_cell n e) c 0
      (subst (λ (z : ℕ). chain_cell n e < z) (sym (move_length (set w (slot_cell n k) (y / 3)) o (6 * n + g) ∙ length-set w (slot_cell n k) (y / 3))) l)
