-- The leaves keep the area sound and leave what is none of theirs, so the room for a recovery stays; and what stands in it after a step of the
-- walk. Assumes nothing.
use mathlib.Core.List.{List}
use mathlib.Core.Path.{◌≡◌, refl, sym, ap, ◌∙◌, fun_ext}
use Prim.Native.Nat.{ℕ, zero, suc, ◌+◌, ◌*◌, ◌%◌, ◌≤◌, ◌<◌}
use native.Mathlib.Decide.{ℕ_discrete}
use native.Mathlib.Omega.{arith}
use lib.ListN.{length, get_or, set, length-set}
use lib.Seq.{get_or-set_same, get_or-set_other}
use Rattle.nets.specs.Layout.{cell, tell, hint_cell, rank_cell, Kept}
use Rattle.nets.proofs.Keeps.{kept_set}
use Rattle.cavities.specs.Leaves.{put, put3}
use Rattle.cavities.proofs.Leaves.{put_same, put_other}
use Rattle.chains.specs.Areas.{org, adj, con, chain_cell, slot_cell, chain_of, slot_of, move_w, join_w, cut_w, mark_w, Sound, Room, Still}
use Rattle.chains.proofs.Laws.{cell_apart, off_cell, cell_off, cell_low, above_cell, chain_mod, slot_mod, set_beside, tell_length, move_length, join_length, cut_length, mark_length, move_off, join_off, cut_off, mark_off, move_org, join_org, cut_org, cut_adj, mark_org, mark_adj}

-- ---- partners stay in range

-- one number is written
pub set_sound : (n : ℕ) (w : List ℕ) (i v : ℕ) → Sound n w → i < length w → v ≤ 8 * n + 2 → Sound n (set w i v)
set_sound n w i v s l b h k = go (ℕ_discrete (cell 3 h) i)
  where
    go : Dec (cell 3 h ≡ i) → get_or (set w i v) (cell 3 h) 0 ≤ 8 * n + 2
    go (yes e) = rw (ap (λ (x : ℕ). get_or (set w i v) x 0) e ∙ get_or-set_same w i v 0 l) b
    go (no e) = rw (get_or-set_other w i (cell 3 h) v 0 e) (s h k)

-- one that is no partner's place
pub set_quiet : (n : ℕ) (w : List ℕ) (i v : ℕ) → Sound n w → ((h : ℕ) → ¬ (cell 3 h ≡ i)) → Sound n (set w i v)
set_quiet n w i v s q h k = rw (get_or-set_other w i (cell 3 h) v 0 (q h)) (s h k)

tell_sound : (n m v : ℕ) (w : List ℕ) → Sound n w → 64 * n ≤ length w → m ≤ 12 * n → v < 8 * n + 2 → Sound n (tell m v w)
unfolding tell
tell_sound n zero v w s l k b = s
tell_sound n (suc m) v w s l k b = set_sound n w (cell 3 m) (suc v) s (let e = cell_low 3 m n (omega arith) (omega arith) in omega arith) (omega arith)

-- the numbers of the layout are in the area
pub top_low : (n v : ℕ) → 3 ≤ n → v < 8 * n + 4 → v < 12 * n
top_low n v l b = omega arith

-- and so is a partner
pub near : (n : ℕ) (w : List ℕ) (o : ℕ) → 3 ≤ n → Sound n w → o < 8 * n + 4 → adj w o ≤ 12 * n
near n w o l s h = let e = s o h in omega arith

pub move_sound : (n : ℕ) (w : List ℕ) (o v : ℕ) → 3 ≤ n → Sound n w → 64 * n ≤ length w → o < 8 * n + 4 → v < 8 * n + 2 → Sound n (move_w w o v)
unfolding move_w
move_sound n w o v some s l ho hv =
    set_quiet n (set (tell (adj w o) v w) (cell 3 v) (adj w o)) (cell 6 v) (con w o)
    (set_sound n (tell (adj w o) v w) (cell 3 v) (adj w o) (tell_sound n (adj w o) v w s l (near n w o some s ho) hv)
    (rw (tell_length (adj w o) v w) (let e = cell_low 3 v n (omega arith) (omega arith) in omega arith)) (s o ho))
    (λ h. cell_apart 3 6 h v (omega arith) (omega arith))

pub join_sound : (n : ℕ) (w : List ℕ) (x y : ℕ) → 3 ≤ n → Sound n w → 64 * n ≤ length w → x < 8 * n + 2 → y < 8 * n + 2 → Sound n (join_w w x y)
unfolding join_w
join_sound n w x y some s l hx hy =
    set_quiet n (set (set (set w (cell 3 x) (suc y)) (cell 6 x) 0) (cell 3 y) (suc x)) (cell 6 y) 0
    (set_sound n (set (set w (cell 3 x) (suc y)) (cell 6 x) 0) (cell 3 y) (suc x)
    (set_quiet n (set w (cell 3 x) (suc y)) (cell 6 x) 0
    (set_sound n w (cell 3 x) (suc y) s (let e = cell_low 3 x n (omega arith) (omega arith) in omega arith) (omega arith))
    (λ h. cell_apart 3 6 h x (omega arith) (omega arith)))
    (rw (length-set (set w (cell 3 x) (suc y)) (cell 6 x) 0, length-set w (cell 3 x) (suc y)) (let e = cell_low 3 y n (omega arith) (omega arith) in omega arith)) (omega arith))
    (λ h. cell_apart 3 6 h y (omega arith) (omega arith))

pub cut_sound : (n : ℕ) (w : List ℕ) (s a b c : ℕ) → Sound n w → Sound n (cut_w w s a b c)
cut_sound n w s a b c snd h k = rw (cut_adj w s a b c h) (snd h k)

pub mark_sound : (n : ℕ) (w : List ℕ) (h m : ℕ) → Sound n w → Sound n (mark_w w h m)
mark_sound n w h m snd q k = rw (mark_adj w h m q) (snd q k)

-- ---- what is none of theirs stays

pub still_none : (n : ℕ) (w : List ℕ) → Still n w w
still_none n w = record { long = refl; aside = λ c h k. refl; rest = λ c h. refl }

pub still_step : (n : ℕ) (w w1 w2 : List ℕ) → Still n w w1 → Still n w1 w2 → Still n w w2
still_step n w w1 w2 a b = record { long = b.long ∙ a.long; aside = λ c h k. b.aside c h k ∙ a.aside c h k; rest = λ c h. b.rest c h ∙ a.rest c h }

pub move_still : (n : ℕ) (w : List ℕ) (o v : ℕ) → 3 ≤ n → Sound n w → o < 8 * n + 4 → v < 8 * n + 2 → Still n w (move_w w o v)
move_still n w o v some s ho hv = record {
  long = move_length w o v;
  aside = λ c h k. move_off w o v c (λ q e. off_cell 3 q c (omega arith) h) (off_cell 3 v c (omega arith) h) (off_cell 6 v c (omega arith) h);
  rest = λ c h.
      let a = near n w o some s ho in
      move_off w o v c (λ q e. above_cell 3 q n c (omega arith) (omega arith) h) (above_cell 3 v n c (omega arith) (omega arith) h) (above_cell 6 v n c (omega arith) (omega arith) h);
}

pub join_still : (n : ℕ) (w : List ℕ) (x y : ℕ) → 3 ≤ n → x < 8 * n + 2 → y < 8 * n + 2 → Still n w (join_w w x y)
join_still n w x y some hx hy = record {
  long = join_length w x y;
  aside = λ c h k. join_off w x y c (off_cell 3 x c (omega arith) h) (off_cell 6 x c (omega arith) h) (off_cell 3 y c (omega arith) h) (off_cell 6 y c (omega arith) h);
  rest = λ c h.
      join_off w x y c (above_cell 3 x n c (omega arith) (omega arith) h) (above_cell 6 x n c (omega arith) (omega arith) h)
      (above_cell 3 y n c (omega arith) (omega arith) h) (above_cell 6 y n c (omega arith) (omega arith) h);
}

not_hint : (c a : ℕ) → ¬ (c % 16 ≡ 12) → ¬ (c ≡ hint_cell a)
not_hint c a n e = omega arith

pub cut_still : (n : ℕ) (w : List ℕ) (s a b c : ℕ) → s < 2 * n → a < n → b < n → c < n → Still n w (cut_w w s a b c)
cut_still n w s a b c ls la lb lc = record {
  long = cut_length w s a b c;
  aside = λ z h k. cut_off w s a b c z (λ e. omega arith) (λ e. omega arith) (λ e. omega arith) (not_hint z a k) (not_hint z b k) (not_hint z c k);
  rest = λ z h. cut_off w s a b c z (λ e. omega arith) (λ e. omega arith) (λ e. omega arith) (λ e. omega arith) (λ e. omega arith) (λ e. omega arith);
}

pub mark_still : (n : ℕ) (w : List ℕ) (h m : ℕ) → h < 12 * n → m ≤ 12 * n → Still n w (mark_w w h m)
mark_still n w h m lh lm = record {
  long = mark_length w h m;
  aside = λ c k q. mark_off w h m c (off_cell 6 h c (omega arith) k) (λ g e. off_cell 6 g c (omega arith) k);
  rest = λ c k. mark_off w h m c (above_cell 6 h n c (omega arith) lh k) (λ g e. above_cell 6 g n c (omega arith) (omega arith) k);
}

chain_place : (n x : ℕ) → ¬ (chain_cell n x % 16 ≡ 12)
chain_place n x = omega arith

slot_place : (n y : ℕ) → ¬ (slot_cell n y % 16 ≡ 12)
slot_place n y = omega arith

pub chain_still : (n : ℕ) (w w' : List ℕ) → Still n w w' → chain_of n w' ≡ chain_of n w
unfolding chain_of
chain_still n w w' k = fun_ext (λ x. k.aside (chain_cell n x) (chain_mod n x) (chain_place n x))

pub slot_still : (n : ℕ) (w w' : List ℕ) → Still n w w' → slot_of n w' ≡ slot_of n w
unfolding slot_of
slot_still n w w' k = fun_ext (λ y. k.aside (slot_cell n y) (slot_mod n y) (slot_place n y))

rank_mod : (i : ℕ) → 9 ≤ rank_cell i % 16
rank_mod i = omega arith

rank_place : (i : ℕ) → ¬ (rank_cell i % 16 ≡ 12)
rank_place i = omega arith

free_mod : (i f : ℕ) → 13 ≤ f → f < 16 → 9 ≤ (16 * i + f) % 16
free_mod i f l u = omega arith

free_place : (i f : ℕ) → 13 ≤ f → f < 16 → ¬ ((16 * i + f) % 16 ≡ 12)
free_place i f l u = omega arith

-- and so do the ranks, the free places and the rest
pub still_kept : (n : ℕ) (w w' : List ℕ) → Still n w w' → Kept n w w'
still_kept n w w' k = record {
  len = k.long;
  ranks = λ i. k.aside (rank_cell i) (rank_mod i) (rank_place i);
  free = λ i f l u. k.aside (16 * i + f) (free_mod i f l u) (free_place i f l u);
  rest = k.rest;
}

-- ---- the room stays

pub room_of : (n t : ℕ) (w w' : List ℕ) → Room n t w → Still n w w' → Sound n w' → ((h : ℕ) → h < 3 * t → org w' h < n) → Room n t w'
room_of n t w w' r k s low = record {
  some = r.some;
  few = r.few;
  less = r.less;
  real = r.real;
  long = rw k.long r.long;
  sound = s;
  slots = λ y h. rw (slot_still n w w' k) (r.slots y h);
  chain = λ x h. rw (chain_still n w w' k) (r.chain x h);
  low = low;
}

pub move_room : (n t : ℕ) (w : List ℕ) (o v : ℕ) → Room n t w → o < 8 * n + 4 → v < 8 * n + 2 → Room n t (move_w w o v)
move_room n t w o v r ho hv =
    room_of n t w (move_w w o v) r (move_still n w o v r.some r.sound ho hv) (move_sound n w o v r.some r.sound r.long ho hv)
    (λ h k. rw (move_org w o v h) (r.low h k))

pub join_room : (n t : ℕ) (w : List ℕ) (x y : ℕ) → Room n t w → x < 8 * n + 2 → y < 8 * n + 2 → Room n t (join_w w x y)
join_room n t w x y r hx hy =
    room_of n t w (join_w w x y) r (join_still n w x y r.some hx hy) (join_sound n w x y r.some r.sound r.long hx hy)
    (λ h k. rw (join_org w x y h) (r.low h k))

put_low : (n : ℕ) (f : ℕ → ℕ) (k a h : ℕ) → a < n → f h < n → put f k a h < n
put_low n f k a h la lf = go (ℕ_discrete h k)
  where
    go : Dec (h ≡ k) → put f k a h < n
    go (yes e) = rw (ap (put f k a) e ∙ put_same f k a) la
    go (no e) = rw (put_other f k a h e) lf

pub cut_room : (n t : ℕ) (w : List ℕ) (s a b c : ℕ) → Room n t w → s < 2 * n → a < n → b < n → c < n → Room n t (cut_w w s a b c)
unfolding put3
cut_room n t w s a b c r ls la lb lc =
    room_of n t w (cut_w w s a b c) r (cut_still n w s a b c ls la lb lc) (cut_sound n w s a b c r.sound)
    (λ h k.
    let l = r.long in
    rw (cut_org w s a b c (omega arith) h)
    (put_low n (put (put (λ z. org w z) (3 * s) a) (3 * s + 1) b) (3 * s + 2) c h lc
    (put_low n (put (λ z. org w z) (3 * s) a) (3 * s + 1) b h lb (put_low n (λ z. org w z) (3 * s) a h la (r.low h k)))))

pub mark_room : (n t : ℕ) (w : List ℕ) (h m : ℕ) → Room n t w → h < 12 * n → m ≤ 12 * n → Room n t (mark_w w h m)
mark_room n t w h m r lh lm =
    room_of n t w (mark_w w h m) r (mark_still n w h m lh lm) (mark_sound n w h m r.sound) (λ q k. rw (mark_org w h m q) (r.low q k))

-- ---- a place of the chain and one of the crossed slots

chain_inj : (n x z : ℕ) → chain_cell n x ≡ chain_cell n z → x ≡ z
chain_inj n x z e = omega arith

slot_inj : (n x z : ℕ) → slot_cell n x ≡ slot_cell n z → x ≡ z
slot_inj n x z e = omega arith

chain_slot : (n x y : ℕ) → ¬ (chain_cell n x ≡ slot_cell n y)
chain_slot n x y e = omega arith

slot_chain : (n x y : ℕ) → ¬ (slot_cell n y ≡ chain_cell n x)
slot_chain n x y e = omega arith

pub chain_fits : (n t : ℕ) (w : List ℕ) (x : ℕ) → Room n t w → x < 2 * n → chain_cell n x < length w
chain_fits n t w x r h = let l = r.long in omega arith

pub slot_fits : (n t : ℕ) (w : List ℕ) (y : ℕ) → Room n t w → y < 2 * n → slot_cell n y < length w
slot_fits n t w y r h = let l = r.long in omega arith

pub chain_put : (n : ℕ) (w : List ℕ) (e c x : ℕ) → chain_cell n e < length w → chain_of n (set w (chain_cell n e) c) x ≡ put (chain_of n w) e c x
unfolding chain_of
chain_put n w e c x l = go (ℕ_discrete x e)
  where
    go : Dec (x ≡ e) → get_or (set w (chain_cell n e) c) (chain_cell n x) 0 ≡ put (chain_of n w) e c x
    go (yes q) =
        ap (λ (z : ℕ). get_or (set w (chain_cell n e) c) (chain_cell n z) 0) q ∙ get_or-set_same w (chain_cell n e) c 0 l
        ∙ sym (put_same (chain_of n w) e c) ∙ ap (put (chain_of n w) e c) (sym q)
    go (no q) = get_or-set_other w (chain_cell n e) (chain_cell n x) c 0 (λ z. q (chain_inj n x e z)) ∙ sym (put_other (chain_of n w) e c x q)

pub slot_put : (n : ℕ) (w : List ℕ) (k s y : ℕ) → slot_cell n k < length w → slot_of n (set w (slot_cell n k) s) y ≡ put (slot_of n w) k s y
unfolding slot_of
slot_put n w k s y l = go (ℕ_discrete y k)
  where
    go : Dec (y ≡ k) → get_or (set w (slot_cell n k) s) (slot_cell n y) 0 ≡ put (slot_of n w) k s y
    go (yes q) =
        ap (λ (z : ℕ). get_or (set w (slot_cell n k) s) (slot_cell n z) 0) q ∙ get_or-set_same w (slot_cell n k) s 0 l
        ∙ sym (put_same (slot_of n w) k s) ∙ ap (put (slot_of n w) k s) (sym q)
    go (no q) = get_or-set_other w (slot_cell n k) (slot_cell n y) s 0 (λ z. q (slot_inj n y k z)) ∙ sym (put_other (slot_of n w) k s y q)

pub chain_beside : (n : ℕ) (w : List ℕ) (k s x : ℕ) → chain_of n (set w (slot_cell n k) s) x ≡ chain_of n w x
unfolding chain_of
chain_beside n w k s x = get_or-set_other w (slot_cell n k) (chain_cell n x) s 0 (chain_slot n x k)

pub slot_beside : (n : ℕ) (w : List ℕ) (e c y : ℕ) → slot_of n (set w (chain_cell n e) c) y ≡ slot_of n w y
unfolding slot_of
slot_beside n w e c y = get_or-set_other w (chain_cell n e) (slot_cell n y) c 0 (slot_chain n e y)

pub room_slot : (n t : ℕ) (w : List ℕ) (k s : ℕ) → Room n t w → k < 2 * n → s < t → Room n t (set w (slot_cell n k) s)
room_slot n t w k s r hk hs = record {
  some = r.some;
  few = r.few;
  less = r.less;
  real = r.real;
  long = rw (length-set w (slot_cell n k) s) r.long;
  sound = set_quiet n w (slot_cell n k) s r.sound (λ h. cell_off 3 h (slot_cell n k) (omega arith) (slot_mod n k));
  slots = λ y h. rw (slot_put n w k s y (slot_fits n t w k r hk)) (put_low t (slot_of n w) k s y hs (r.slots y h));
  chain = λ x h. rw (chain_beside n w k s x) (r.chain x h);
  low = λ h l. rw (set_beside w 0 (slot_cell n k) s h (omega arith) (slot_mod n k)) (r.low h l);
}

pub room_chain : (n t : ℕ) (w : List ℕ) (e c : ℕ) → Room n t w → e < 2 * n → c < n → Room n t (set w (chain_cell n e) c)
room_chain n t w e c r he hc = record {
  some = r.some;
  few = r.few;
  less = r.less;
  real = r.real;
  long = rw (length-set w (chain_cell n e) c) r.long;
  sound = set_quiet n w (chain_cell n e) c r.sound (λ h. cell_off 3 h (chain_cell n e) (omega arith) (chain_mod n e));
  slots = λ y h. rw (slot_beside n w e c y) (r.slots y h);
  chain = λ x h. rw (chain_put n w e c x (chain_fits n t w e r he)) (put_low n (chain_of n w) e c x hc (r.chain x h));
  low = λ h l. rw (set_beside w 0 (chain_cell n e) c h (omega arith) (chain_mod n e)) (r.low h l);
}

-- both keep the ranks, the free places and the rest
pub chain_kept : (n : ℕ) (w : List ℕ) (e c : ℕ) → e < 2 * n → Kept n w (set w (chain_cell n e) c)
chain_kept n w e c h = kept_set n w (chain_cell n e) c (omega arith) (omega arith) (omega arith)

pub slot_kept : (n : ℕ) (w : List ℕ) (k s : ℕ) → k < 2 * n → Kept n w (set w (slot_cell n k) s)
slot_kept n w k s h = kept_set n w (slot_cell n k) s (omega arith) (omega arith) (omega arith)
