-- The first triangle: where the walk stands before its first step. Assumes nothing.
use mathlib.Core.Bool.{Bool, true, false}
use mathlib.Core.List.{List}
use mathlib.Core.Path.{◌≡◌, sym, ap, ◌∙◌, subst}
use Prim.Native.Nat.{ℕ, suc, ◌+◌, ◌-◌, ◌*◌, ◌/◌, ◌≤◌, ◌<◌}
use native.Mathlib.Omega.{arith}
use lib.IntN.{ℤ, neg_ℤ}
use lib.ListN.{length, set}
use Rattle.algebra.specs.Order.{Pos}
use Rattle.plane.specs.Base.{Side}
use Rattle.plane.specs.Determinants.{orient}
use Rattle.plane.specs.Halfedges.{nxt}
use Rattle.plane.specs.Points.{Pt}
use Rattle.nets.specs.Layout.{net_of}
use Rattle.nets.specs.Nets.{prv}
use Rattle.nets.specs.Tilings.{Tiling}
use Rattle.cavities.proofs.Steps.{parked_inv, not_same}
use Rattle.cavities.proofs.Strip.{parts, turn}
use Rattle.cavities.specs.Changes.{Parked}
use Rattle.cavities.specs.Corridors.{Three, Walk, start}
use Rattle.cavities.specs.Nets.{Net, Live, Dead, Inv}
use Rattle.bridges.specs.Images.{image}
use Rattle.chains.proofs.Entering.{enter_length}
use Rattle.chains.proofs.Laws.{chain_mod}
use Rattle.chains.specs.Areas.{org, chain_cell, chain_of, slot_of, Room}
use Rattle.chains.specs.Recoveries.{begin_w}
use Rattle.chains.specs.Sticking.{Leaves, first}
use Rattle.chains.specs.Walks.{enter_w}
use Rattle.mirrors.proofs.Memory.{model_start, model_aside}
use Rattle.mirrors.specs.Models.{Ghost, model_of, ghost_of, park_g}
use Rattle.tracks.specs.Tracks.{count, other, place}
use Rattle.tracks.proofs.Count.{count_none, count_yes, count_no, count_both, place_left, place_right}
use Rattle.tracks.proofs.Keeps.{Keeps, keeps_none, keeps_wide, keeps_enter, keeps_chain}
use Rattle.tracks.proofs.Saw.{nxt_low, prv_low, nxt_third, prv_third, three_of}
use Rattle.tracks.proofs.State.{State, F, W, bound, small, some, til, solid, back}
use Rattle.tracks.proofs.Step.{park_net_lem}

-- what the first triangle leaves of slots and chain
pub record Opening (n a x : ℕ) (w0 w1 : List ℕ) (s : ℕ → Bool) : Type 0 where
  pub slot : slot_of n w1 0 ≡ x / 3
  pub on_left : chain_of n w1 0 ≡ a
  pub on_right : chain_of n w1 (2 * n - 1) ≡ a
  pub to_left : chain_of n w1 1 ≡ org w0 (nxt x)
  pub to_right : chain_of n w1 (2 * n - 2) ≡ org w0 x
  pub turn0 : s 0 ≡ true
  pub turn1 : s 1 ≡ false

module _ (P : ℕ → Pt ℤ) (B : Side → Pt ℤ) (kk n t a b : ℕ) (w0 : List ℕ) (tile : Tiling P B kk (net_of w0 t)) (rm : Room n t w0) (s : ℕ → Bool)
    (w1 : List ℕ) (x : ℕ) (lv : Leaves P (net_of w0 t) a b x) (op : Opening n a x w0 w1 s) where
  abbrev τ : Net
  τ = image P B (net_of w0 t)

  xl : x < 3 * t
  unfolding net_of
  xl = lv.low

  til' : (h : ℕ) → h < 3 * t → Live τ h
  til' = (til P B kk n t a b w0 tile rm s w1).live

  G0 : Ghost
  G0 = ghost_of P B w0 t

  is0 : model_of n w0 G0 ≡ τ
  unfolding G0
  is0 = model_start P B n w0 t

  at0 : place n s 0 ≡ 6 * n + 0
  at0 = place_left n s 0 op.turn0 ∙ ap (λ (z : ℕ). 6 * n + z) (count_none s)

  two : count (other s) 1 ≡ 0
  two = let p = count_both s 1 in let q = count_yes s 0 op.turn0 in let z = count_none s in omega arith

  at1 : place n s 1 ≡ 6 * n + (2 * n - 2)
  at1 = place_right n s 1 op.turn1 ∙ (let z = two in omega arith)

  dead0 : Dead τ (place n s 0)
  dead0 = (til P B kk n t a b w0 tile rm s w1).dead 0 (omega arith)

  dead1 : Dead τ (place n s 1)
  dead1 = (til P B kk n t a b w0 tile rm s w1).dead 1 (omega arith)

  -- the edge on the left
  u1 : List ℕ
  u1 = enter_w n w0 0 x (nxt x) 0 1 (org w0 (nxt x))

  G1 : Ghost
  G1 = park_g n w0 G0 (nxt x) (6 * n + 0)

  park0 : Parked τ (model_of n u1 G1) (nxt x) (place n s 0)
  unfolding u1 G1
  park0 =
      subst (λ (v : ℕ). Parked τ (model_of n (enter_w n w0 0 x (nxt x) 0 1 (org w0 (nxt x))) (park_g n w0 G0 (nxt x) (6 * n + 0))) (nxt x) v) (sym at0)
      (subst (λ (ρ : Net). Parked ρ (model_of n (enter_w n w0 0 x (nxt x) 0 1 (org w0 (nxt x))) (park_g n w0 G0 (nxt x) (6 * n + 0))) (nxt x) (6 * n + 0)) is0
      (park_net_lem (W P B kk n t a b w0 tile rm s w1) n w0 G0 0 x (nxt x) 0 1 (org w0 (nxt x)) (bound P B kk n t a b w0 tile rm s w1) rm.long
      (subst (Inv (W P B kk n t a b w0 tile rm s w1)) (sym is0) (til P B kk n t a b w0 tile rm s w1).inv)
      (subst (λ (ρ : Net). Live ρ (nxt x)) (sym is0) (til' (nxt x) (nxt_low x t xl)))
      (subst (λ (ρ : Net). Dead ρ (6 * n + 0)) (sym is0) (subst (Dead τ) at0 dead0)) (let z = rm.some in omega arith)
      (subst (λ (ρ : Net). ¬ (ρ.org (nxt x) ≡ ρ.dst (nxt x))) (sym is0) (solid P B kk n t a b w0 tile rm s w1 (nxt x) (nxt_low x t xl)))))

  inv1 : Inv (W P B kk n t a b w0 tile rm s w1) (model_of n u1 G1)
  inv1 =
      parked_inv (W P B kk n t a b w0 tile rm s w1) τ (model_of n u1 G1) (nxt x) (place n s 0) (til' (nxt x) (nxt_low x t xl)) dead0
      ((til P B kk n t a b w0 tile rm s w1).low 0 (omega arith)) park0 (til P B kk n t a b w0 tile rm s w1).inv

  f_v : ¬ (prv x ≡ place n s 0)
  f_v = not_same τ (prv x) (place n s 0) (til' (prv x) (prv_low x t xl)) dead0

  f_live : Live (model_of n u1 G1) (prv x)
  f_live = park0.live (prv x) (λ e. (parts (three_of x)).fg (sym e)) f_v ∙ til' (prv x) (prv_low x t xl)

  v_dead : Dead (model_of n u1 G1) (place n s 1)
  v_dead =
      park0.live (place n s 1) (λ e. not_same τ (nxt x) (place n s 1) (til' (nxt x) (nxt_low x t xl)) dead1 (sym e))
      (λ e. let q = (til P B kk n t a b w0 tile rm s w1).apart 1 0 (omega arith) (omega arith) e in omega arith) ∙ dead1

  proper1 : ¬ ((model_of n u1 G1).org (prv x) ≡ (model_of n u1 G1).dst (prv x))
  proper1 e = solid P B kk n t a b w0 tile rm s w1 (prv x) (prv_low x t xl) (sym (park0.org (prv x) f_v) ∙ e ∙ park0.dst (prv x) f_v)

  long1 : 64 * n ≤ length u1
  unfolding u1
  long1 = subst (λ (z : ℕ). 64 * n ≤ z) (sym (enter_length n w0 0 x (nxt x) 0 1 (org w0 (nxt x)))) rm.long

  -- and the one on the right
  u2 : List ℕ
  u2 = enter_w n u1 0 x (prv x) (2 * n - 2) (2 * n - 2) (org w0 x)

  G2 : Ghost
  G2 = park_g n u1 G1 (prv x) (6 * n + (2 * n - 2))

  park1 : Parked (model_of n u1 G1) (model_of n u2 G2) (prv x) (place n s 1)
  unfolding u2 G2
  park1 =
      subst (Parked (model_of n u1 G1) (model_of n (enter_w n u1 0 x (prv x) (2 * n - 2) (2 * n - 2) (org w0 x)) (park_g n u1 G1 (prv x) (6 * n + (2 * n - 2)))) (prv x)) (sym at1)
      (park_net_lem (W P B kk n t a b w0 tile rm s w1) n u1 G1 0 x (prv x) (2 * n - 2) (2 * n - 2) (org w0 x) (bound P B kk n t a b w0 tile rm s w1) long1 inv1 f_live
      (subst (Dead (model_of n u1 G1)) at1 v_dead) (let z = rm.some in omega arith) proper1)

  is2 : model_of n (begin_w n w0 a x) G2 ≡ model_of n u2 G2
  unfolding begin_w u2 u1
  is2 = model_aside n (set u2 (chain_cell n 0) a) G2 (chain_cell n (2 * n - 1)) a (chain_mod n (2 * n - 1)) ∙ model_aside n u2 G2 (chain_cell n 0) a (chain_mod n 0)

  three : Three (slot_of n w1 0) (prv x) x (nxt x)
  three = subst (λ (q : ℕ). Three q (prv x) x (nxt x)) (sym op.slot) (turn (turn (three_of x)))

  cr0 : chain_of n w1 (2 * n - 1 - 0) ≡ a
  cr0 = let e : 2 * n - 1 - 0 ≡ 2 * n - 1 = omega arith in ap (chain_of n w1) e ∙ op.on_right

  cr1 : chain_of n w1 (2 * n - 1 - 1) ≡ org w0 x
  cr1 = let e : 2 * n - 1 - 1 ≡ 2 * n - 2 = omega arith in ap (chain_of n w1) e ∙ op.to_right

  far : org w0 (prv x) ≡ a
  unfolding net_of
  far = lv.far

  on_left : Pos (orient (P a) (P b) (P (org w0 (nxt x))))
  unfolding net_of
  on_left = lv.left

  on_right : Pos (neg_ℤ (orient (P a) (P b) (P (org w0 x))))
  unfolding net_of
  on_right = lv.right

  gr0 : 6 * n + (2 * n - 2 - 0) ≡ 6 * n + (2 * n - 2)
  gr0 = omega arith

  walk : Walk (F P B kk n t a b w0 tile rm s w1) t 1 1 1 x τ (model_of n u2 G2)
  unfolding image net_of
  walk =
      start three (let e = op.slot in let z = xl in omega arith) (far ∙ sym op.on_left) (far ∙ sym cr0) (sym cr1) (sym op.to_left)
      (subst (λ (u : ℕ). Pos (orient (P a) (P b) (P u))) (sym op.to_left) on_left) (subst (λ (u : ℕ). Pos (neg_ℤ (orient (P a) (P b) (P u)))) (sym cr1) on_right)
      (sym at0) (gr0 ∙ sym at1) park0 park1

  keeps : Keeps n t w0 (slot_of n w1) 1 (begin_w n w0 a x)
  unfolding begin_w u1 u2
  keeps =
      keeps_chain n t w0 (slot_of n w1) 1 (set u2 (chain_cell n 0) a) (2 * n - 1) a (keeps_chain n t w0 (slot_of n w1) 1 u2 0 a
      (keeps_enter n t w0 (slot_of n w1) (small P B kk n t a b w0 tile rm s w1) (some P B kk n t a b w0 tile rm s w1)
      (back P B kk n t a b w0 tile rm s w1) 1 u1 0 x (prv x) (2 * n - 2) (2 * n - 2) (org w0 x) 0
      (keeps_enter n t w0 (slot_of n w1) (small P B kk n t a b w0 tile rm s w1) (some P B kk n t a b w0 tile rm s w1) (back P B kk n t a b w0 tile rm s w1) 1 w0 0 x (nxt x) 0 1 (org w0 (nxt x)) 0
      (keeps_wide n t w0 (slot_of n w1) 0 1 w0 (omega arith) (keeps_none n t w0 (slot_of n w1) rm.long)) (let z = rm.some in omega arith)
      (nxt_low x t xl) (omega arith) (op.slot ∙ sym (nxt_third x)))
      (let z = rm.some in omega arith) (prv_low x t xl) (omega arith) (op.slot ∙ sym (prv_third x))))

  -- THE FIRST STATE
  pub begun : (H : Ghost) × State P B kk n t a b w0 tile rm s w1 1 1 x (begin_w n w0 a x) H
  unfolding net_of
  begun = (
    G2,
    record {
      some_left = omega arith;
      some_right = omega arith;
      few = (let z = rm.real in omega arith);
      low = xl;
      keeps = keeps;
      walk = subst (Walk (F P B kk n t a b w0 tile rm s w1) t 1 1 1 x τ) (sym is2) walk;
      way = first lv op.slot op.on_left cr0 op.to_left cr1;
      turned = count_no s 1 op.turn1 ∙ count_yes s 0 op.turn0 ∙ ap suc (count_none s);
    },
  )
