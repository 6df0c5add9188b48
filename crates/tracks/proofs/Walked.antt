-- The walk of the working area to its end: it is the model's walk where it meets b, and where it sticks, document 01's step 4 sticks. Assumes
-- nothing.
use mathlib.Core.Bool.{Bool, true, false, cond}
use mathlib.Core.List.{List}
use mathlib.Core.Logic.{◌⊎◌, inl, inr}
use mathlib.Core.Path.{◌≡◌, refl, sym, ap, ◌∙◌, subst}
use Prim.Native.Nat.{ℕ, suc, ◌+◌, ◌-◌, ◌*◌, ◌/◌, ◌≤◌, ◌<◌}
use native.Mathlib.Omega.{arith}
use lib.Dec.{eqb}
use lib.IntN.{ℤ}
use lib.ListN.{length}
use Rattle.algebra.proofs.Order.{not_both}
use Rattle.algebra.proofs.Sum.{eqb_yes, eqb_no}
use Rattle.plane.specs.Base.{Side}
use Rattle.plane.specs.Halfedges.{nxt}
use Rattle.plane.specs.Points.{Pt}
use Rattle.nets.specs.Layout.{net_of}
use Rattle.nets.specs.Nets.{prv}
use Rattle.nets.specs.Tilings.{Tiling}
use Rattle.cavities.proofs.Walk.{arrive}
use Rattle.cavities.specs.Corridors.{Arrive}
use Rattle.cavities.specs.Tilings.{CcwP}
use Rattle.bridges.specs.Bridges.{Places}
use Rattle.chains.proofs.Entering.{enter_length}
use Rattle.chains.specs.Areas.{chain_of, slot_of, Room}
use Rattle.chains.specs.Fillings.{NoApex}
use Rattle.chains.specs.Recoveries.{begin_w, SidesW, on_left, on_right}
use Rattle.chains.specs.Sticking.{Leaves, Sticks, on_the_way, apex}
use Rattle.chains.specs.Walks.{look_at, left_w, right_w, arrive_w, Walks, far, stop, last, left, right}
use Rattle.chains.specs.declared.Beyond.TheVariants.{Left, Right, Last}
use Rattle.chains.specs.declared.Reason.{Reason}
use Rattle.std.specs.Prelude.{Result, Ok, Err}
use Rattle.mirrors.specs.Models.{Ghost, model_of}
use Rattle.tracks.specs.Tracks.{count, other, place, Track, Tracks, SticksOnWay, SticksAtApex}
use Rattle.tracks.proofs.Apexes.{no_apex_shift}
use Rattle.tracks.proofs.Count.{count_yes, count_both, place_right, place_low, place_apart}
use Rattle.tracks.proofs.Later.{sides, turns, turns_late, later, begin_slot, begin_a, begin_a', begin_left, begin_right}
use Rattle.tracks.proofs.Leaf.{enter_slot_is, enter_chain, enter_chain_is}
use Rattle.tracks.proofs.Saw.{saw_last, saw_stuck}
use Rattle.tracks.proofs.Start.{Opening, begun}
use Rattle.tracks.proofs.State.{State, F, W, σ, bound, small, til, solid, strip, at_left, fits, adj_m, org_m, state_left, state_right}
use Rattle.tracks.proofs.Step.{arrives}
use Rattle.tracks.proofs.Stick.{stops, goes_far}

module _ (P : ℕ → Pt ℤ) (B : Side → Pt ℤ) (kk n t a b : ℕ) (w0 : List ℕ) (tile : Tiling P B kk (net_of w0 t)) (rm : Room n t w0) (s : ℕ → Bool) (w1 : List ℕ) where
  abbrev Stands : ℕ → ℕ → ℕ → List ℕ → Type 0
  Stands l r x w = (H : Ghost) × State P B kk n t a b w0 tile rm s w1 l r x w H

  -- b is met
  record Met (l r : ℕ) : Type 0 where
    x : ℕ
    y : ℕ
    w : List ℕ
    ghost : Ghost
    state : State P B kk n t a b w0 tile rm s w1 l r x w ghost
    few : l + r ≤ t
    look : look_at P t a b w x ≡ Ok (Last y)
    is : w1 ≡ arrive_w n w l r y b
    turn : s (l + r) ≡ true
    turn' : s (l + r + 1) ≡ false

  unfoldable Got : Result (ℕ × ℕ) Reason → Type 0
  Got (Ok (l, r)) = Met l r
  Got (Err e) = Sticks P (net_of w0 t) a b

  go_left : (l r x : ℕ) (w w' : List ℕ) (y c : ℕ) (out : Result (ℕ × ℕ) Reason) → Walks P n t a b (left_w n w l r y c) (l + 1) r (nxt y) out w' → w' ≡ w1 →
      l + r ≤ t → look_at P t a b w x ≡ Ok (Left y c) → s (l + r) ≡ true → (Stands (l + 1) r (nxt y) (left_w n w l r y c) → Got out) → Stands l r x w → Got out
  go_left l r x w w' y c out d e h look turn f st =
      let S = st.1 in
      let p = S.some_left in let q = S.some_right in
      let less = rm.less in
      let long = S.keeps.long in
      let lt = later d (omega arith) q less in
      f (state_left P B kk n t a b w0 tile rm s w1 l r x w st.0 S h y c look
      (ap (λ (v : List ℕ). slot_of n v (l + r - 1)) (sym e) ∙ lt.slot (l + r - 1) (omega arith) ∙ enter_slot_is n w (l + r - 1) y (prv y) l (l + 1) c (omega arith))
      (ap (λ (v : List ℕ). chain_of n v (l + 1)) (sym e) ∙ lt.on_left (l + 1) (omega arith) ∙ enter_chain_is n w (l + r - 1) y (prv y) l (l + 1) c (omega arith)) turn)

  go_right : (l r x : ℕ) (w w' : List ℕ) (y c : ℕ) (out : Result (ℕ × ℕ) Reason) → Walks P n t a b (right_w n w l r y c) l (r + 1) (prv y) out w' → w' ≡ w1 →
      l + r ≤ t → look_at P t a b w x ≡ Ok (Right y c) → s (l + r) ≡ false → (Stands l (r + 1) (prv y) (right_w n w l r y c) → Got out) → Stands l r x w → Got out
  go_right l r x w w' y c out d e h look turn f st =
      let S = st.1 in
      let p = S.some_left in let q = S.some_right in
      let less = rm.less in
      let long = S.keeps.long in
      let lt = later d p (omega arith) less in
      let z : 2 * n - 2 - r ≡ 2 * n - 1 - (r + 1) = omega arith in
      f (state_right P B kk n t a b w0 tile rm s w1 l r x w st.0 S h y c look
      (ap (λ (v : List ℕ). slot_of n v (l + r - 1)) (sym e) ∙ lt.slot (l + r - 1) (omega arith) ∙ enter_slot_is n w (l + r - 1) y (nxt y) (2 * n - 2 - r) (2 * n - 2 - r) c (omega arith))
      (ap (λ (v : List ℕ). chain_of n v (2 * n - 2 - r)) (sym e)
      ∙ subst (λ (u : ℕ). chain_of n w' u ≡ chain_of n (right_w n w l r y c) u) (sym z) (lt.on_right (r + 1) (omega arith))
      ∙ enter_chain_is n w (l + r - 1) y (nxt y) (2 * n - 2 - r) (2 * n - 2 - r) c (omega arith)) turn)

  at_once : (k : ℕ) (u v : Bool) → cond (eqb k k) u v ≡ u
  at_once k u v = ap (λ (z : Bool). cond z u v) (eqb_yes k k refl)

  later_on : (k j : ℕ) (u v : Bool) → j < k → cond (eqb k j) u v ≡ v
  later_on k j u v h = ap (λ (z : Bool). cond z u v) (eqb_no k j (omega arith))

  -- TO THE END
  go : {l r x : ℕ} {w w' : List ℕ} {out : Result (ℕ × ℕ) Reason} (d : Walks P n t a b w l r x out w') → w' ≡ w1 → ((k : ℕ) → l + r ≤ k → s k ≡ sides d k) → Stands l r x w → Got out
  unfolding sides Got
  go (far {w = w} {l = l} {r = r} {x = x} h) e f st = goes_far P B kk n t a b w0 tile rm s w1 l r x w st.0 st.1 h
  go (stop {w = w} {l = l} {r = r} {x = x} {e = q} h k) e f st = stops P B kk n t a b w0 tile rm s w1 l r x w st.0 st.1 q (saw_stuck P t a b w x q k)
  go (last {w = w} {w' = w''} {l = l} {r = r} {x = x} {y = y} h k z) e f st = record {
    x = x;
    y = y;
    w = w;
    ghost = st.0;
    state = st.1;
    few = h;
    look = k;
    is = sym e ∙ z;
    turn = f (l + r) (omega arith) ∙ eqb_yes (l + r) (l + r) refl;
    turn' = f (l + r + 1) (omega arith) ∙ eqb_no (l + r + 1) (l + r) (omega arith);
  }
  go (left {w = w} {w' = w''} {l = l} {r = r} {x = x} {y = y} {c = c} {out = out} h k d) e f st =
      go_left l r x w w'' y c out d e h k (f (l + r) (omega arith) ∙ at_once (l + r) true (sides d (l + r)))
      (λ u. go d e (λ j q. f j (omega arith) ∙ later_on j (l + r) true (sides d j) (omega arith)) u) st
  go (right {w = w} {w' = w''} {l = l} {r = r} {x = x} {y = y} {c = c} {out = out} h k d) e f st =
      go_right l r x w w'' y c out d e h k (f (l + r) (omega arith) ∙ at_once (l + r) false (sides d (l + r)))
      (λ u. go d e (λ j q. f j (omega arith) ∙ later_on j (l + r) false (sides d j) (omega arith)) u) st

  -- ---- b is met

  module _ (l r : ℕ) (met : Met l r) where
    abbrev S : State P B kk n t a b w0 tile rm s w1 l r met.x met.w met.ghost
    S = met.state

    few : l + r ≤ t
    few = met.few

    w2 : List ℕ
    w2 = left_w n met.w l r met.y b

    is : w1 ≡ right_w n w2 l r met.y b
    unfolding arrive_w w2
    is = met.is

    w2_length : length w2 ≡ length met.w
    unfolding w2
    w2_length = enter_length n met.w (l + r - 1) met.y (prv met.y) l (l + 1) b

    slot : slot_of n w1 (l + r - 1) ≡ met.y / 3
    slot =
        ap (λ (v : List ℕ). slot_of n v (l + r - 1)) is ∙
        enter_slot_is n w2 (l + r - 1) met.y (nxt met.y) (2 * n - 2 - r) (2 * n - 2 - r) b (let q = w2_length in let z = S.keeps.long in let h = rm.less in let u = few in omega arith)

    left_to : chain_of n w1 (suc l) ≡ b
    unfolding w2
    left_to =
        let h = rm.less in let u = few in let z = S.keeps.long in
        let e : suc l ≡ l + 1 = omega arith in
        ap (λ (v : List ℕ). chain_of n v (suc l)) is ∙ ap (chain_of n (right_w n w2 l r met.y b)) e ∙
        enter_chain n w2 (l + r - 1) met.y (nxt met.y) (2 * n - 2 - r) (2 * n - 2 - r) b (l + 1) (omega arith) ∙
        enter_chain_is n met.w (l + r - 1) met.y (prv met.y) l (l + 1) b (omega arith)

    right_to : chain_of n w1 (2 * n - 2 - r) ≡ b
    right_to =
        ap (λ (v : List ℕ). chain_of n v (2 * n - 2 - r)) is ∙
        enter_chain_is n w2 (l + r - 1) met.y (nxt met.y) (2 * n - 2 - r) (2 * n - 2 - r) b (let q = w2_length in let z = S.keeps.long in let h = rm.less in let u = few in omega arith)

    right_to' : chain_of n w1 (2 * n - 1 - suc r) ≡ b
    right_to' = let e : 2 * n - 1 - suc r ≡ 2 * n - 2 - r = omega arith in ap (chain_of n w1) e ∙ right_to

    long : 64 * n ≤ length w1
    long =
        let q = w2_length in let z = S.keeps.long in
        let v : length w1 ≡ length w2 = ap length is ∙ enter_length n w2 (l + r - 1) met.y (nxt met.y) (2 * n - 2 - r) (2 * n - 2 - r) b in
        omega arith

    here : suc (suc (l + r - 1)) ≡ l + r + 1
    here = let p = S.some_left in omega arith

    at_last : place n s (suc (suc (l + r - 1))) ≡ 6 * n + (2 * n - 2 - r)
    at_last =
        let e : l + r + 1 ≡ suc (l + r) = omega arith in
        let p = count_both s (l + r + 1) in let q = ap (count s) e ∙ count_yes s (l + r) met.turn in let v = S.turned in
        let z : count (other s) (l + r + 1) ≡ r = omega arith in
        ap (place n s) here ∙ place_right n s (l + r + 1) met.turn' ∙ ap (λ (u : ℕ). 6 * n + (2 * n - 2 - u)) z

    fits' : suc (suc (l + r - 1)) < t + 3
    fits' = let p = here in let q = few in omega arith

    -- ---- it sticks at an apex

    sticks : SidesW P n w1 l r → Sticks P (net_of w0 t) a b
    sticks d =
        let sn = saw_last P t a b met.w met.x met.y met.look in
        on_the_way (slot_of n w1) (chain_of n w1) (λ z. chain_of n w1 (2 * n - 1 - z)) S.way
        (apex met.y (adj_m P B kk n t a b w0 tile rm s w1 l r met.x met.w met.ghost S few met.y sn.0 slot)
        (sym (org_m P B kk n t a b w0 tile rm s w1 l r met.x met.w met.ghost S few met.y sn.0 slot b sn.1)) left_to right_to' (side d))
      where
        side : SidesW P n w1 l r → NoApex P (chain_of n w1) 0 (suc l) ⊎ NoApex P (λ z. chain_of n w1 (2 * n - 1 - (suc r - z))) 0 (suc r)
        side (on_left f) = let e : l + 1 ≡ suc l = omega arith in inl (subst (NoApex P (chain_of n w1) 0) e f)
        side (on_right f) =
            let h = rm.less in let u = few in
            let e : 2 * n - 2 - r ≡ 2 * n - 2 - r + 0 = omega arith in
            let g : 2 * n - 1 ≡ 2 * n - 2 - r + suc r = omega arith in
            inr (no_apex_shift P (chain_of n w1) (λ z. chain_of n w1 (2 * n - 1 - (suc r - z))) (2 * n - 2 - r) (suc r)
            (λ z q. let v : 2 * n - 1 - (suc r - z) ≡ 2 * n - 2 - r + z = omega arith in ap (chain_of n w1) v) 0 (suc r) (omega arith)
            (subst (λ (i : ℕ). NoApex P (chain_of n w1) i (2 * n - 2 - r + suc r)) e (subst (NoApex P (chain_of n w1) (2 * n - 2 - r)) g f)))

    -- ---- it is the model's walk

    module _ (x0 : ℕ) (op : Opening n a x0 w0 w1 s) where
      low : (k : ℕ) → k < t + 3 → (6 * n ≤ place n s k) × (place n s k < 8 * n)
      low k h = let q = rm.less in place_low n s k (omega arith)

      under : (v k : ℕ) → 8 * n ≤ v → k < suc (suc (suc (l + r - 1))) → ¬ (v ≡ place n s k)
      under v k h i e = let f = fits' in let z = (low k (omega arith)).1 in omega arith

      places : Places (8 * n + 2) (F P B kk n t a b w0 tile rm s w1) t (t + 3) (l + r - 1) l r (8 * n) (8 * n + 1)
      places =
          let less = rm.less in
          record {
            numbers = omega arith;
            fits = fits';
            free = λ x h. (let z = (low x h).0 in omega arith);
            low = λ x h. (let z = (low x h).1 in omega arith);
            apart = λ x y h i e. place_apart n s x y (omega arith) (omega arith) e;
            left_free = omega arith;
            left_low = omega arith;
            left_apart = λ d. under (8 * n) d.at (omega arith) d.high d.is;
            right_free = omega arith;
            right_low = omega arith;
            right_apart = λ d. under (8 * n + 1) d.at (omega arith) d.high d.is;
            two = omega arith;
            from_a = op.on_left ∙ sym (let e : 2 * n - 1 - 0 ≡ 2 * n - 1 = omega arith in ap (chain_of n w1) e ∙ op.on_right);
            to_b = left_to ∙ sym right_to';
          }

      track : Track P B n t a b w0 l r w1
      unfolding w2
      track =
          let sn = saw_last P t a b met.w met.x met.y met.look in
          let less = rm.less in
          let p = S.some_left in let q = S.some_right in let u = few in
          let tl = til P B kk n t a b w0 tile rm s w1 in
          let ft = fits P B kk n t a b w0 tile rm s w1 l r met.x met.w met.ghost S few in
          let al = at_left P B kk n t a b w0 tile rm s w1 l r met.x met.w met.ghost S few met.turn in
          let v = arrives (W P B kk n t a b w0 tile rm s w1) (CcwP P) (F P B kk n t a b w0 tile rm s w1) t (t + 3) (σ P B kk n t a b w0 tile rm s w1) tl
          (solid P B kk n t a b w0 tile rm s w1) n (bound P B kk n t a b w0 tile rm s w1) (l + r - 1) l r met.x met.w met.ghost S.keeps.long S.walk ft met.y sn.0 slot
          (small P B kk n t a b w0 tile rm s w1) (l + 1) (2 * n - 2 - r) b sn.1 (sym left_to) (sym right_to') (sym al) (sym at_last) l
          (2 * n - 2 - r) (omega arith) (omega arith) al at_last fits' in
          let ar : Arrive (F P B kk n t a b w0 tile rm s w1) t (l + r - 1) l r met.x (nxt met.y) (prv met.y) (model_of n met.w met.ghost) v.σ2 v.σ3 (model_of n w1 v.ghost) =
          subst (λ (z : List ℕ). Arrive (F P B kk n t a b w0 tile rm s w1) t (l + r - 1) l r met.x (nxt met.y) (prv met.y)
          (model_of n met.w met.ghost) v.σ2 v.σ3 (model_of n z v.ghost)) (sym is) v.arrive in
          let st = strip P B kk n t a b w0 tile rm s w1 l r met.x met.w met.ghost S few in
          let op' = arrive (W P B kk n t a b w0 tile rm s w1) (CcwP P) (F P B kk n t a b w0 tile rm s w1) t (t + 3) (σ P B kk n t a b w0 tile rm s w1)
          tl (l + r - 1) l r met.x (nxt met.y) (prv met.y)
          (model_of n met.w met.ghost) v.σ2 v.σ3 (model_of n w1 v.ghost) st fits' ar in
          record {
            apart = λ p u v. not_both u v;
            turns = s;
            ghost = v.ghost;
            x = met.x;
            f = nxt met.y;
            g = prv met.y;
            σ1 = model_of n met.w met.ghost;
            σ2 = v.σ2;
            σ3 = v.σ3;
            some_left = p;
            some_right = q;
            few = few;
            long = long;
            walk = S.walk;
            arrive = ar;
            places = places;
            left_from = op.on_left;
            right_from = op.on_right;
            left_to = left_to;
            right_to = right_to;
            slot_low = λ y h. op'.core.slot_real y (omega arith);
            slot_apart = λ y z h k e. op'.core.slot_apart y z (omega arith) (omega arith) e;
          }

-- ---- from the first triangle on

module _ (P : ℕ → Pt ℤ) (B : Side → Pt ℤ) (kk n t a b : ℕ) (w0 : List ℕ) (x : ℕ) (out : Result (ℕ × ℕ) Reason) (w1 : List ℕ) (tile : Tiling P B kk (net_of w0 t))
    (rm : Room n t w0) (lv : Leaves P (net_of w0 t) a b x) (d : Walks P n t a b (begin_w n w0 a x) 1 1 x out w1) where
  abbrev s : ℕ → Bool
  s = turns (sides d)

  opens : Opening n a x w0 w1 s
  unfolding turns
  opens =
      let lt = later d (omega arith) (omega arith) rm.less in
      let some = rm.some in let long = rm.long in
      let e0 : 2 * n - 1 - 0 ≡ 2 * n - 1 = omega arith in
      let e1 : 2 * n - 1 - 1 ≡ 2 * n - 2 = omega arith in
      record {
        slot = lt.slot 0 (omega arith) ∙ begin_slot n w0 a x some long;
        on_left = lt.on_left 0 (omega arith) ∙ begin_a n w0 a x some long;
        on_right = subst (λ (z : ℕ). chain_of n w1 z ≡ chain_of n (begin_w n w0 a x) z) e0 (lt.on_right 0 (omega arith)) ∙ begin_a' n w0 a x some long;
        to_left = lt.on_left 1 (omega arith) ∙ begin_left n w0 a x some long;
        to_right = subst (λ (z : ℕ). chain_of n w1 z ≡ chain_of n (begin_w n w0 a x) z) e1 (lt.on_right 1 (omega arith)) ∙ begin_right n w0 a x some long;
        turn0 = refl;
        turn1 = refl;
      }

  walked : Got P B kk n t a b w0 tile rm s w1 out
  walked = go P B kk n t a b w0 tile rm s w1 d refl (λ k h. turns_late (sides d) k h) (begun P B kk n t a b w0 tile rm s w1 x lv opens)

-- THE WALK OF THE CODE IS THE WALK OF THE MODEL
pub tracks : Tracks
unfolding Got
tracks P B kk n t a b w x l r w1 tile rm lv d =
    track P B kk n t a b w tile rm (turns (sides d)) w1 l r (walked P B kk n t a b w x (Ok (l, r)) w1 tile rm lv d) x (opens P B kk n t a b w x (Ok (l, r)) w1 tile rm lv d)

-- WHERE IT STICKS, DOCUMENT 01'S STEP 4 STICKS: on the way
pub sticks_on_way : SticksOnWay
unfolding Got
sticks_on_way P B kk n t a b w x e w1 tile rm lv d = walked P B kk n t a b w x (Err e) w1 tile rm lv d

-- and at an apex
pub sticks_at_apex : SticksAtApex
unfolding Got
sticks_at_apex P B kk n t a b w x l r w1 tile rm lv d = sticks P B kk n t a b w tile rm (turns (sides d)) w1 l r (walked P B kk n t a b w x (Ok (l, r)) w1 tile rm lv d)
