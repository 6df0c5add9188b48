-- Both sides of the cavity are filled, and the roots are joined. Assumes nothing.
use mathlib.Core.List.{List}
use mathlib.Core.Path.{◌≡◌, refl, sym, ap, ◌∙◌, subst}
use Prim.Native.Nat.{ℕ, zero, suc, ◌+◌, ◌-◌, ◌*◌, ◌/◌, ◌%◌, ◌≤◌, ◌<◌}
use native.Mathlib.Omega.{arith}
use lib.IntN.{ℤ}
use lib.ListN.{set}
use Rattle.plane.specs.Points.{Pt}
use Rattle.nets.specs.Layout.{cell, Kept}
use Rattle.chains.specs.Areas.{chain_of, slot_of, move_w, mark_w, Room, Still}
use Rattle.chains.specs.Fillings.{FillW, NoApex, Filled}
use Rattle.chains.specs.Recoveries.{begin_w, SidesW, StuckW, RecoversW}
use Rattle.chains.specs.Recoveries.StuckW.{on_way, at_apex}
use Rattle.chains.specs.Walks.{Walks}
use Rattle.chains.specs.declared.Reason.{Reason}
use Rattle.chains.specs.declared.Reason.TheVariants.{Apex}
use Rattle.nets.proofs.Keeps.{kept_then}
use Rattle.std.specs.Prelude.{Result, Ok, Err, ⊤}
use Rattle.chains.specs.Recoveries.SidesW.{on_right}
use Rattle.chains.proofs.Rooms.{still_step, chain_still, slot_still, still_kept, move_still, move_room}
use Rattle.carving.specs.Closing.{Shut, Closing}
use Rattle.corridors.specs.Collected.{Collected}

-- ---- marks

pub mark_none : (w : List ℕ) (h m : ℕ) → ¬ (1 ≤ m) → set w (16 * (h / 3) + 6 + h % 3) 1 ≡ mark_w w h m
unfolding mark_w cell
mark_none w h zero n = refl
mark_none w h (suc m) n = absurd (n (omega arith))

pub mark_some : (w : List ℕ) (h m : ℕ) {g : ℕ} → (1 ≤ m) × (g ≡ m - 1) → set (set w (16 * (h / 3) + 6 + h % 3) 1) (16 * (g / 3) + 6 + g % 3) 1 ≡ mark_w w h m
unfolding mark_w cell
mark_some w h zero p = absurd (let l = p.0 in let z : ⊥ = omega arith in z)
mark_some w h (suc m) p = let e : suc m - 1 ≡ m = omega arith in rw (p.1, e)

-- ---- the closing

count_left : (l : ℕ) → 0 + (l + 1 - 0 - 1) ≡ l
count_left l = omega arith

count_right : (n l r : ℕ) → l + r + 3 < 2 * n → l + (2 * n - 1 - (2 * n - 2 - r) - 1) ≡ l + r
count_right n l r h = omega arith

module _ {P : ℕ → Pt ℤ} {n t : ℕ} {w : List ℕ} {l r : ℕ} (room : Room n t w) (p : 1 ≤ l) (q : 1 ≤ r) (fits : l + r ≤ t) where
  module _ {w1 : List ℕ} (f : Filled P n t w 0 (l + 1) 0 (8 * n) w1) where
    pub sticks_right : {w2 : List ℕ} {e : Reason} {out : Result ⊤ Reason} → (e ≡ Apex) × NoApex P (chain_of n w1) (2 * n - 2 - r) (2 * n - 1) × Still n w1 w2 → out ≡ Err e
        → Closing P n t w l r out w2
    sticks_right {w2} s q = subst (λ (u : Result ⊤ Reason). Closing P n t w l r u w2) (sym q) (
      s.0,
      on_right (subst (λ (c : ℕ → ℕ). NoApex P c (2 * n - 2 - r) (2 * n - 1)) (chain_still n w w1 f.still) s.1),
      still_kept n w w2 (still_step n w w1 w2 f.still s.2),
    )

    module _ {w2 : List ℕ} (g : Filled P n t w1 (2 * n - 2 - r) (2 * n - 1) l (8 * n + 1) w2) where
      still2 : Still n w w2
      still2 = still_step n w w1 w2 f.still g.still

      pub root_low : slot_of n w2 (l + r - 1) < t
      root_low = let z = room.less in g.room.slots (l + r - 1) (omega arith)

      right_fill : FillW P (6 * n) (chain_of n w) (slot_of n w) (2 * n - 2 - r) (2 * n - 1) l (l + r) (8 * n + 1) w1 w2
      right_fill =
          let z = room.less in
          subst (λ (c : ℕ → ℕ). FillW P (6 * n) c (slot_of n w) (2 * n - 2 - r) (2 * n - 1) l (l + r) (8 * n + 1) w1 w2) (chain_still n w w1 f.still)
          (subst (λ (s : ℕ → ℕ). FillW P (6 * n) (chain_of n w1) s (2 * n - 2 - r) (2 * n - 1) l (l + r) (8 * n + 1) w1 w2) (slot_still n w w1 f.still)
          (subst (λ (k : ℕ). FillW P (6 * n) (chain_of n w1) (slot_of n w1) (2 * n - 2 - r) (2 * n - 1) l k (8 * n + 1) w1 w2) (count_right n l r (omega arith)) g.fill))

      pub shut : {s : ℕ} {w3 : List ℕ} → s ≡ slot_of n w2 (l + r - 1) → w3 ≡ move_w w2 (8 * n) (3 * s) → Shut P n t w l r w3
      shut {s} {w3} e m =
          let z = room.less in
          let low = root_low in
          let sl : 3 * s < 8 * n + 2 = omega arith in
          let so = room.some in
          let st : Still n w2 w3 = subst (Still n w2) (sym m) (move_still n w2 (8 * n) (3 * s) so g.room.sound (omega arith) sl) in
          let all : Still n w w3 = still_step n w w2 w3 still2 st in
          record {
            closed = record {
              w1 = w1;
              w2 = w2;
              left = subst (λ (k : ℕ). FillW P (6 * n) (chain_of n w) (slot_of n w) 0 (l + 1) 0 k (8 * n) w w1) (count_left l) f.fill;
              right = right_fill;
              root = m ∙ ap (λ (u : ℕ). move_w w2 (8 * n) (3 * u)) (e ∙ ap (λ (u : ℕ → ℕ). u (l + r - 1)) (slot_still n w w2 still2));
            };
            room = subst (Room n t) (sym m) (move_room n t w2 (8 * n) (3 * s) g.room (omega arith) sl);
            slots = slot_still n w w3 all;
            kept = still_kept n w w3 all;
          }

-- ---- the recovery sticks

module _ {P : ℕ → Pt ℤ} {n t a b x : ℕ} {w w0 : List ℕ} (begun : w0 ≡ begin_w n w a x) (kept : Kept n w w0) where
  walk : {out : Result (ℕ × ℕ) Reason} {w1 : List ℕ} → Collected P n t a b w0 x out w1 → Walks P n t a b (begin_w n w a x) 1 1 x out w1
  walk {out} {w1} o = subst (λ (v : List ℕ). Walks P n t a b v 1 1 x out w1) begun o.walks

  sticks : {w1 : List ℕ} {e : Reason} {out : Result ℕ Reason} → out ≡ Err e → StuckW P n t a b w x e × Kept n w w1 → RecoversW P n t a b w x out w1
  sticks {w1} q s = subst (λ (u : Result ℕ Reason). RecoversW P n t a b w x u w1) (sym q) s

  -- on the way
  pub on_the_way : {w1 : List ℕ} {e : Reason} {out : Result ℕ Reason} → Collected P n t a b w0 x (Err e) w1 → out ≡ Err e → RecoversW P n t a b w x out w1
  on_the_way {w1} o q = sticks q (on_way (walk o), kept_then n w w0 w1 kept o.kept)

  -- at an apex
  pub not_closed : {l r : ℕ} {w1 w2 : List ℕ} {e : Reason} {out : Result ℕ Reason} → Collected P n t a b w0 x (Ok (l, r)) w1 → (e ≡ Apex) × SidesW P n w1 l r × Kept n w1 w2
      → out ≡ Err e → RecoversW P n t a b w x out w2
  not_closed {l} {r} {w1} {w2} o s q = sticks q (subst (StuckW P n t a b w x) (sym s.0) (at_apex (walk o) s.1), kept_then n w w0 w2 kept (kept_then n w0 w1 w2 o.kept s.2))
