-- What stands in the area after a step of the walk along the corridor: a triangle entered, the last one, the first one. Assumes nothing.
use mathlib.Core.List.{List}
use mathlib.Core.Path.{◌≡◌, refl, sym, ap, ◌∙◌, subst}
use Prim.Native.Nat.{ℕ, suc, ◌+◌, ◌-◌, ◌*◌, ◌/◌, ◌≤◌, ◌<◌}
use native.Mathlib.Omega.{arith}
use lib.ListN.{length, get_or, set, length-set}
use lib.Seq.{get_or-set_other}
use Rattle.plane.specs.Halfedges.{nxt}
use Rattle.nets.specs.Layout.{cell, Kept}
use Rattle.nets.specs.Nets.{prv}
use Rattle.nets.proofs.Keeps.{kept_then}
use Rattle.nets.proofs.Slot.{nxt_in}
use Rattle.cavities.specs.Leaves.{put}
use Rattle.chains.specs.Areas.{org, adj, con, chain_cell, slot_cell, chain_of, slot_of, move_w, Room, Still}
use Rattle.chains.specs.Walks.{enter_w, left_w, right_w, arrive_w}
use Rattle.chains.specs.Recoveries.{begin_w}
use Rattle.chains.proofs.Laws.{chain_mod, slot_mod, set_beside, put_by, told, told_by, move_length, move_off, move_org, move_adj, move_con}
use Rattle.chains.proofs.Rooms.{move_still, chain_still, slot_still, still_kept, move_room, chain_put, slot_put, chain_beside, slot_beside, room_slot, room_chain, chain_kept, slot_kept}

third_low : (t y : ℕ) → y < 3 * t → y / 3 < t
third_low t y h = omega arith

-- ---- a triangle is entered

module _ (n : ℕ) (w : List ℕ) (k y o g e c : ℕ) where
  unfoldable e1 : List ℕ
  e1 = set w (slot_cell n k) (y / 3)

  unfoldable e2 : List ℕ
  e2 = move_w e1 o (6 * n + g)

  enter_is : enter_w n w k y o g e c ≡ set e2 (chain_cell n e) c
  unfolding enter_w e1 e2
  enter_is = refl

  e1_length : length e1 ≡ length w
  unfolding e1
  e1_length = length-set w (slot_cell n k) (y / 3)

  e2_length : length e2 ≡ length w
  unfolding e2
  e2_length = move_length e1 o (6 * n + g) ∙ e1_length

  e1_field : (f h : ℕ) → f ≤ 6 → get_or e1 (cell f h) 0 ≡ get_or w (cell f h) 0
  unfolding e1
  e1_field f h b = set_beside w f (slot_cell n k) (y / 3) h b (slot_mod n k)

  e3_field : (f h : ℕ) → f ≤ 6 → get_or (enter_w n w k y o g e c) (cell f h) 0 ≡ get_or e2 (cell f h) 0
  e3_field f h b = ap (λ (u : List ℕ). get_or u (cell f h) 0) enter_is ∙ set_beside e2 f (chain_cell n e) c h b (chain_mod n e)

  e1_adj : (h : ℕ) → adj e1 h ≡ adj w h
  e1_adj h = e1_field 3 h (omega arith)

  pub enter_length : length (enter_w n w k y o g e c) ≡ length w
  enter_length = ap length enter_is ∙ length-set e2 (chain_cell n e) c ∙ e2_length

  pub enter_off : (x : ℕ) → ¬ (x ≡ slot_cell n k) → ¬ (x ≡ chain_cell n e) → ((q : ℕ) → adj w o ≡ suc q → ¬ (x ≡ cell 3 q)) → ¬ (x ≡ cell 3 (6 * n + g)) → ¬ (x ≡ cell 6 (6 * n + g)) →
      get_or (enter_w n w k y o g e c) x 0 ≡ get_or w x 0
  unfolding e1 e2
  enter_off x ns nc na n3 n6 =
      ap (λ (u : List ℕ). get_or u x 0) enter_is ∙ get_or-set_other e2 (chain_cell n e) x c 0 nc
      ∙ move_off e1 o (6 * n + g) x (λ q z. na q (sym (e1_adj o) ∙ z)) n3 n6 ∙ get_or-set_other w (slot_cell n k) x (y / 3) 0 ns

  pub enter_org : (h : ℕ) → org (enter_w n w k y o g e c) h ≡ org w h
  unfolding e2
  enter_org h = e3_field 0 h (omega arith) ∙ move_org e1 o (6 * n + g) h ∙ e1_field 0 h (omega arith)

  module _ (long : 64 * n ≤ length w) (low : 6 * n + g < 12 * n) where
    long1 : 64 * n ≤ length e1
    long1 = rw e1_length long

    pub enter_adj : adj w o ≤ 12 * n → (h : ℕ) → adj (enter_w n w k y o g e c) h ≡ put (told (adj w o) (6 * n + g) (λ z. adj w z)) (6 * n + g) (adj w o) h
    unfolding e2
    enter_adj b h =
        e3_field 3 h (omega arith) ∙ move_adj n e1 o (6 * n + g) long1 low (rw (e1_adj o) b) h
        ∙ ap (λ (m : ℕ). put (told m (6 * n + g) (λ z. adj e1 z)) (6 * n + g) m h) (e1_adj o)
        ∙ put_by (told (adj w o) (6 * n + g) (λ z. adj e1 z)) (told (adj w o) (6 * n + g) (λ z. adj w z)) (6 * n + g) (adj w o) h
        (λ x. told_by (adj w o) (6 * n + g) (λ z. adj e1 z) (λ z. adj w z) x e1_adj)

    pub enter_con : (h : ℕ) → con (enter_w n w k y o g e c) h ≡ put (λ z. con w z) (6 * n + g) (con w o) h
    unfolding e2
    enter_con h =
        e3_field 6 h (omega arith) ∙ move_con n e1 o (6 * n + g) long1 low h
        ∙ ap (λ (m : ℕ). put (λ z. con e1 z) (6 * n + g) m h) (e1_field 6 o (omega arith))
        ∙ put_by (λ z. con e1 z) (λ z. con w z) (6 * n + g) (con w o) h (λ z. e1_field 6 z (omega arith))

  module _ (t : ℕ) (r : Room n t w) (hk : k < 2 * n) (hy : y < 3 * t) (ho : o < 8 * n + 4) (hg : g < 2 * n) (he : e < 2 * n) where
    room1 : Room n t e1
    unfolding e1
    room1 = room_slot n t w k (y / 3) r hk (third_low t y hy)

    still2 : Still n e1 e2
    unfolding e2
    still2 = move_still n e1 o (6 * n + g) r.some room1.sound ho (omega arith)

    room2 : Room n t e2
    unfolding e2
    room2 = move_room n t e1 o (6 * n + g) room1 ho (omega arith)

    pub enter_room : c < n → Room n t (enter_w n w k y o g e c)
    enter_room hc = subst (Room n t) (sym enter_is) (room_chain n t e2 e c room2 he hc)

    pub enter_kept : Kept n w (enter_w n w k y o g e c)
    unfolding e1
    enter_kept =
        subst (Kept n w) (sym enter_is)
        (kept_then n w e2 (set e2 (chain_cell n e) c)
        (kept_then n w e1 e2 (slot_kept n w k (y / 3) hk) (still_kept n e1 e2 still2)) (chain_kept n e2 e c he))

    pub enter_chain : (x : ℕ) → chain_of n (enter_w n w k y o g e c) x ≡ put (chain_of n w) e c x
    unfolding e1
    enter_chain x =
        ap (λ (u : List ℕ). chain_of n u x) enter_is ∙ chain_put n e2 e c x (let a = e2_length in let l = r.long in omega arith)
        ∙ put_by (chain_of n e2) (chain_of n w) e c x (λ z. ap (λ (f : ℕ → ℕ). f z) (chain_still n e1 e2 still2) ∙ chain_beside n w k (y / 3) z)

    pub enter_slot : (x : ℕ) → slot_of n (enter_w n w k y o g e c) x ≡ put (slot_of n w) k (y / 3) x
    unfolding e1
    enter_slot x =
        ap (λ (u : List ℕ). slot_of n u x) enter_is ∙ slot_beside n e2 e c x ∙ ap (λ (f : ℕ → ℕ). f x) (slot_still n e1 e2 still2)
        ∙ slot_put n w k (y / 3) x (let l = r.long in omega arith)

-- ---- the last triangle

pub arrive_length : (n : ℕ) (w : List ℕ) (l r y b : ℕ) → length (arrive_w n w l r y b) ≡ length w
unfolding arrive_w
arrive_length n w l r y b =
    enter_length n (left_w n w l r y b) (l + r - 1) y (nxt y) (2 * n - 2 - r) (2 * n - 2 - r) b ∙ enter_length n w (l + r - 1) y (prv y) l (l + 1) b

-- ranges of the places of a step
module _ (n t l r y : ℕ) (less : t + 5 ≤ 2 * n) (few : l + r + 3 < 2 * n) (some : 0 < l + r) (low : y < 3 * t) where
  pub step_slot : l + r - 1 < 2 * n
  step_slot = omega arith

  pub step_prv : prv y < 8 * n + 4
  step_prv = let a = nxt_in (nxt y) t (nxt_in y t low) in omega arith

  pub step_nxt : nxt y < 8 * n + 4
  step_nxt = let a = nxt_in y t low in omega arith

  pub step_gap : l < 2 * n
  step_gap = omega arith

  pub step_end : l + 1 < 2 * n
  step_end = omega arith

  pub step_right : 2 * n - 2 - r < 2 * n
  step_right = omega arith

module _ (n t : ℕ) (w : List ℕ) (l r y b : ℕ) (rm : Room n t w) (few : l + r + 3 < 2 * n) (some : 0 < l + r) (low : y < 3 * t) (end : b < n) where
  pub left_room : Room n t (left_w n w l r y b)
  left_room = let q = rm.less in
      enter_room n w (l + r - 1) y (prv y) l (l + 1) b t rm (step_slot n t l r y q few some low) low (step_prv n t l r y q few some low)
      (step_gap n t l r y q few some low) (step_end n t l r y q few some low) end

  pub right_room : Room n t (right_w n w l r y b)
  right_room = let q = rm.less in
      enter_room n w (l + r - 1) y (nxt y) (2 * n - 2 - r) (2 * n - 2 - r) b t rm (step_slot n t l r y q few some low) low (step_nxt n t l r y q few some low)
      (step_right n t l r y q few some low) (step_right n t l r y q few some low) end

  pub left_kept : Kept n w (left_w n w l r y b)
  left_kept = let q = rm.less in
      enter_kept n w (l + r - 1) y (prv y) l (l + 1) b t rm (step_slot n t l r y q few some low) low (step_prv n t l r y q few some low)
      (step_gap n t l r y q few some low) (step_end n t l r y q few some low)

  pub right_kept : Kept n w (right_w n w l r y b)
  right_kept = let q = rm.less in
      enter_kept n w (l + r - 1) y (nxt y) (2 * n - 2 - r) (2 * n - 2 - r) b t rm (step_slot n t l r y q few some low) low (step_nxt n t l r y q few some low)
      (step_right n t l r y q few some low) (step_right n t l r y q few some low)

pub arrive_room : (n t : ℕ) (w : List ℕ) (l r y b : ℕ) → Room n t w → l + r + 3 < 2 * n → 0 < l + r → y < 3 * t → b < n → Room n t (arrive_w n w l r y b)
unfolding arrive_w
arrive_room n t w l r y b rm few some low end = right_room n t (left_w n w l r y b) l r y b (left_room n t w l r y b rm few some low end) few some low end

pub arrive_kept : (n t : ℕ) (w : List ℕ) (l r y b : ℕ) → Room n t w → l + r + 3 < 2 * n → 0 < l + r → y < 3 * t → b < n → Kept n w (arrive_w n w l r y b)
unfolding arrive_w
arrive_kept n t w l r y b rm few some low end =
    kept_then n w (left_w n w l r y b) (right_w n (left_w n w l r y b) l r y b) (left_kept n t w l r y b rm few some low end)
    (right_kept n t (left_w n w l r y b) l r y b (left_room n t w l r y b rm few some low end) few some low end)

-- ---- the first triangle

pub begin_length : (n : ℕ) (w : List ℕ) (a x : ℕ) → length (begin_w n w a x) ≡ length w
unfolding begin_w
begin_length n w a x =
    length-set (set (enter_w n (enter_w n w 0 x (nxt x) 0 1 (org w (nxt x))) 0 x (prv x) (2 * n - 2) (2 * n - 2) (org w x)) (chain_cell n 0) a) (chain_cell n (2 * n - 1)) a
    ∙ length-set (enter_w n (enter_w n w 0 x (nxt x) 0 1 (org w (nxt x))) 0 x (prv x) (2 * n - 2) (2 * n - 2) (org w x)) (chain_cell n 0) a
    ∙ enter_length n (enter_w n w 0 x (nxt x) 0 1 (org w (nxt x))) 0 x (prv x) (2 * n - 2) (2 * n - 2) (org w x) ∙ enter_length n w 0 x (nxt x) 0 1 (org w (nxt x))

module _ (n t : ℕ) (w : List ℕ) (a x : ℕ) (rm : Room n t w) (end : a < n) (low : x < 3 * t) where
  unfoldable b1 : List ℕ
  b1 = enter_w n w 0 x (nxt x) 0 1 (org w (nxt x))

  unfoldable b2 : List ℕ
  b2 = enter_w n b1 0 x (prv x) (2 * n - 2) (2 * n - 2) (org w x)

  unfoldable b3 : List ℕ
  b3 = set b2 (chain_cell n 0) a

  begin_is : begin_w n w a x ≡ set b3 (chain_cell n (2 * n - 1)) a
  unfolding begin_w b1 b2 b3
  begin_is = refl

  zero_low : 0 < 2 * n
  zero_low = let s = rm.some in omega arith

  one_low : 1 < 2 * n
  one_low = let s = rm.some in omega arith

  last_low : 2 * n - 2 < 2 * n
  last_low = let s = rm.some in omega arith

  end_low : 2 * n - 1 < 2 * n
  end_low = let s = rm.some in omega arith

  nxt_low : nxt x < 8 * n + 4
  nxt_low = let l = rm.less in let p = nxt_in x t low in omega arith

  prv_low : prv x < 8 * n + 4
  prv_low = let l = rm.less in let p = nxt_in (nxt x) t (nxt_in x t low) in omega arith

  room_1 : Room n t b1
  unfolding b1
  room_1 = enter_room n w 0 x (nxt x) 0 1 (org w (nxt x)) t rm zero_low low nxt_low zero_low one_low (rm.low (nxt x) (nxt_in x t low))

  room_2 : Room n t b2
  unfolding b2
  room_2 = enter_room n b1 0 x (prv x) (2 * n - 2) (2 * n - 2) (org w x) t room_1 zero_low low prv_low last_low last_low (rm.low x low)

  room_3 : Room n t b3
  unfolding b3
  room_3 = room_chain n t b2 0 a room_2 zero_low end

  pub begin_room : Room n t (begin_w n w a x)
  begin_room = subst (Room n t) (sym begin_is) (room_chain n t b3 (2 * n - 1) a room_3 end_low end)

  pub begin_kept : Kept n w (begin_w n w a x)
  unfolding b1 b2 b3
  begin_kept =
      subst (Kept n w) (sym begin_is)
      (kept_then n w b3 (set b3 (chain_cell n (2 * n - 1)) a)
      (kept_then n w b2 b3
      (kept_then n w b1 b2 (enter_kept n w 0 x (nxt x) 0 1 (org w (nxt x)) t rm zero_low low nxt_low zero_low one_low)
      (enter_kept n b1 0 x (prv x) (2 * n - 2) (2 * n - 2) (org w x) t room_1 zero_low low prv_low last_low last_low))
      (chain_kept n b2 0 a zero_low)) (chain_kept n b3 (2 * n - 1) a end_low))

  pub begin_org : (h : ℕ) → org (begin_w n w a x) h ≡ org w h
  unfolding b1 b2 b3
  begin_org h =
      ap (λ (u : List ℕ). org u h) begin_is ∙ set_beside b3 0 (chain_cell n (2 * n - 1)) a h (omega arith) (chain_mod n (2 * n - 1))
      ∙ set_beside b2 0 (chain_cell n 0) a h (omega arith) (chain_mod n 0)
      ∙ enter_org n b1 0 x (prv x) (2 * n - 2) (2 * n - 2) (org w x) h ∙ enter_org n w 0 x (nxt x) 0 1 (org w (nxt x)) h
