-- The steps of the walk: the area after each of them, and the walk as it goes on. Assumes nothing.
use mathlib.Core.List.{List}
use mathlib.Core.Path.{◌≡◌, sym, subst}
use Prim.Native.Nat.{ℕ, ◌+◌, ◌-◌, ◌*◌, ◌/◌, ◌≤◌, ◌<◌}
use native.Mathlib.Omega.{arith}
use Rattle.std.specs.Prelude.{Result, Ok, Err}
use lib.IntN.{ℤ}
use lib.ListN.{length, set, length-set}
use Rattle.plane.specs.Halfedges.{nxt}
use Rattle.plane.specs.Points.{Pt}
use Rattle.nets.specs.Layout.{Kept}
use Rattle.nets.specs.Nets.{prv}
use Rattle.nets.proofs.Keeps.{kept_same, kept_then}
use Rattle.nets.proofs.Slot.{nxt_in}
use Rattle.chains.specs.Areas.{org, chain_cell, slot_cell, move_w, Sound, Room}
use Rattle.chains.specs.Recoveries.{begin_w}
use Rattle.chains.specs.Walks.{look_at, enter_w, left_w, right_w, Walks}
use Rattle.chains.specs.Walks.Walks.{left, right}
use Rattle.chains.specs.declared.Beyond.TheVariants.{Left, Right}
use Rattle.chains.specs.declared.Reason.{Reason}
use Rattle.chains.proofs.Laws.{cell_off, chain_mod, slot_mod}
use Rattle.chains.proofs.Rooms.{set_quiet, move_sound}
use Rattle.chains.proofs.Entering.{enter_length, left_room, right_room, left_kept, right_kept}
use Rattle.seams.specs.Fits.{CanMove}
use Rattle.corridors.specs.Collected.{Area, Collected}
use Rattle.corridors.proofs.Looks.{prv_in, left_low, right_low}

-- ---- a single step asks for no more than room and partners in range

pub room_area : (n t : ℕ) (w : List ℕ) → Room n t w → Area n w
room_area n t w r = record { some = r.some; few = r.few; long = r.long; sound = r.sound }

pub slot_sound : (n : ℕ) (w : List ℕ) (k s : ℕ) → Sound n w → Sound n (set w (slot_cell n k) s)
slot_sound n w k s d = set_quiet n w (slot_cell n k) s d (λ h. cell_off 3 h (slot_cell n k) (omega arith) (slot_mod n k))

-- the half-edge o can be parked once the crossed slot is written
pub enter_fits : (n : ℕ) (w : List ℕ) (k s o g : ℕ) → Area n w → o < 6 * n → g < 2 * n → CanMove (set w (slot_cell n k) s) o (6 * n + g)
enter_fits n w k s o g r ho hg =
    let few = r.few in
    let some = r.some in
    let long = r.long in
    let l = length-set w (slot_cell n k) s in
    let a = slot_sound n w k s r.sound o (omega arith) in
    (omega arith, omega arith, omega arith, omega arith, omega arith, omega arith)

pub enter_area : (n : ℕ) (w : List ℕ) (k y o g e c : ℕ) → Area n w → o < 6 * n → g < 2 * n → Area n (enter_w n w k y o g e c)
unfolding enter_w
enter_area n w k y o g e c r ho hg =
    let w1 : List ℕ = set w (slot_cell n k) (y / 3) in
    let some = r.some in
    let long = r.long in
    let l1 = length-set w (slot_cell n k) (y / 3) in
    let l : 64 * n ≤ length w1 = omega arith in
    record {
      some = some;
      few = r.few;
      long = rw (enter_length n w k y o g e c) long;
      sound =
          set_quiet n (move_w w1 o (6 * n + g)) (chain_cell n e) c (move_sound n w1 o (6 * n + g) some (slot_sound n w k (y / 3) r.sound) l (omega arith) (omega arith))
          (λ h. cell_off 3 h (chain_cell n e) (omega arith) (chain_mod n e));
    }

-- the first triangle
pub begun : (n : ℕ) (w : List ℕ) (a x : ℕ) {g f v u : ℕ} {w1 w2 w3 w4 : List ℕ} → g ≡ nxt x → f ≡ prv x → v ≡ org w g → u ≡ org w x → w1 ≡ enter_w n w 0 x g 0 1 v →
    w2 ≡ enter_w n w1 0 x f (2 * n - 2) (2 * n - 2) u → w3 ≡ set w2 (chain_cell n 0) a → w4 ≡ set w3 (chain_cell n (2 * n - 1)) a → w4 ≡ begin_w n w a x
unfolding begin_w
begun n w a x eg ef ev eu e1 e2 e3 e4 = rw (e4, e3, e2, e1, ev, eg, ef, eu)

-- ---- the loop

-- from w₀, one corner on each side and x0 the walk has come to w, l, r and x: a walk from here on is one from there on
pub record Live (P : ℕ → Pt ℤ) (n t a b : ℕ) (w₀ : List ℕ) (x0 : ℕ) (w : List ℕ) (l r x : ℕ) : Type 0 where
  pub room : Room n t w
  pub kept : Kept n w₀ w
  pub some_l : 1 ≤ l
  pub some_r : 1 ≤ r
  pub few : l + r ≤ t + 1
  pub low : x < 3 * t
  pub go : (out : Result (ℕ × ℕ) Reason) (w' : List ℕ) → Walks P n t a b w l r x out w' → Walks P n t a b w₀ 1 1 x0 out w'

pub live_start : (P : ℕ → Pt ℤ) (n t a b : ℕ) (w : List ℕ) (x : ℕ) → Room n t w → x < 3 * t → Live P n t a b w x w 1 1 x
live_start P n t a b w x r h = let z = r.real in record { room = r; kept = kept_same n w; some_l = omega arith; some_r = omega arith; few = omega arith; low = h; go = λ out w' g. g }

module _ {P : ℕ → Pt ℤ} {n t a b : ℕ} {w₀ : List ℕ} {x0 : ℕ} {w : List ℕ} {l r x : ℕ} (o : Live P n t a b w₀ x0 w l r x) (more : l + r ≤ t) where
  pub fits : l + r + 3 < 2 * n
  fits = let z = o.room.less in omega arith

  pub some : 0 < l + r
  some = let z = o.some_l in omega arith

  pub live_left : {w1 : List ℕ} {y c x1 : ℕ} → look_at P t a b w x ≡ Ok (Left y c) → w1 ≡ left_w n w l r y c → x1 ≡ nxt y → Live P n t a b w₀ x0 w1 (l + 1) r x1
  live_left {w1} {y} {c} {x1} e z q =
      let h = left_low n t P a b w x o.room y c e in
      let sr = o.some_r in
      record {
        room = subst (Room n t) (sym z) (left_room n t w l r y c o.room fits some h.0 h.1);
        kept = kept_then n w₀ w w1 o.kept (subst (Kept n w) (sym z) (left_kept n t w l r y c o.room fits some h.0 h.1));
        some_l = omega arith;
        some_r = sr;
        few = omega arith;
        low = subst (λ (u : ℕ). u < 3 * t) (sym q) (nxt_in y t h.0);
        go = λ out w' g. o.go out w' (left more e (subst (λ (u : ℕ). Walks P n t a b (left_w n w l r y c) (l + 1) r u out w') q (subst (λ (v : List ℕ). Walks P n t a b v (l + 1) r x1 out w') z g)));
      }

  pub live_right : {w1 : List ℕ} {y c x1 : ℕ} → look_at P t a b w x ≡ Ok (Right y c) → w1 ≡ right_w n w l r y c → x1 ≡ prv y → Live P n t a b w₀ x0 w1 l (r + 1) x1
  live_right {w1} {y} {c} {x1} e z q =
      let h = right_low n t P a b w x o.room y c e in
      let sl = o.some_l in
      record {
        room = subst (Room n t) (sym z) (right_room n t w l r y c o.room fits some h.0 h.1);
        kept = kept_then n w₀ w w1 o.kept (subst (Kept n w) (sym z) (right_kept n t w l r y c o.room fits some h.0 h.1));
        some_l = sl;
        some_r = omega arith;
        few = omega arith;
        low = subst (λ (u : ℕ). u < 3 * t) (sym q) (prv_in y t h.0);
        go = λ out w' g. o.go out w' (right more e (subst (λ (u : ℕ). Walks P n t a b (right_w n w l r y c) l (r + 1) u out w') q (subst (λ (v : List ℕ). Walks P n t a b v l (r + 1) x1 out w') z g)));
      }

-- the walk sticks where it stands
pub stopped : {P : ℕ → Pt ℤ} {n t a b : ℕ} {w₀ : List ℕ} {x0 : ℕ} {w : List ℕ} {l r x : ℕ} → Live P n t a b w₀ x0 w l r x → {e : Reason} → Walks P n t a b w l r x (Err e) w →
    (out : Result (ℕ × ℕ) Reason) → out ≡ Err e → Collected P n t a b w₀ x0 out w
stopped {P} {n} {t} {a} {b} {w₀} {x0} {w} o {e} g out q =
    subst (λ (u : Result (ℕ × ℕ) Reason). Collected P n t a b w₀ x0 u w) (sym q) (record { walks = o.go (Err e) w g; bounded = tt; room = o.room; kept = o.kept })
