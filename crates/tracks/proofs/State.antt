-- Where the walk stands: the model's walk to here, document 01's way to here, and what the area keeps of the net before. Each step leads from
-- one such state to the next. Assumes nothing.
use mathlib.Core.Bool.{Bool, true, false}
use mathlib.Core.List.{List}
use mathlib.Core.Path.{◌≡◌, refl, sym, ap, ◌∙◌, subst}
use Prim.Native.Nat.{ℕ, suc, ◌+◌, ◌-◌, ◌*◌, ◌/◌, ◌≤◌, ◌<◌}
use native.Mathlib.Omega.{arith}
use lib.IntN.{ℤ, neg_ℤ}
use Rattle.algebra.proofs.Order.{not_both}
use Rattle.algebra.specs.Order.{Pos}
use Rattle.plane.specs.Base.{Side}
use Rattle.plane.specs.Determinants.{orient}
use Rattle.plane.specs.Halfedges.{nxt}
use Rattle.plane.specs.Points.{Pt}
use Rattle.nets.proofs.FlipTile.{tile_apart}
use Rattle.nets.specs.Layout.{net_of}
use Rattle.nets.specs.Nets.{prv}
use Rattle.nets.specs.Tilings.{Tiling, Has, Marked}
use Rattle.cavities.proofs.Walk.{walk_strip}
use Rattle.cavities.specs.Corridors.{Figure, Walk, Tiled, Strip}
use Rattle.cavities.specs.Nets.{Net, World}
use Rattle.cavities.specs.Tilings.{CcwP, world}
use Rattle.bridges.proofs.To.{to_cavity}
use Rattle.bridges.specs.Images.{image}
use Rattle.chains.specs.Areas.{org, adj, con, chain_of, slot_of, Room}
use Rattle.chains.specs.Sticking.{Way, left as way-left, right as way-right}
use Rattle.chains.specs.Walks.{look_at, enter_w, left_w, right_w}
use Rattle.chains.specs.declared.Beyond.TheVariants.{Left, Right}
use Rattle.std.specs.Prelude.{Ok}
use Rattle.mirrors.specs.Models.{Ghost, model_of}
use Rattle.tracks.specs.Tracks.{count, other, place, figure}
use Rattle.tracks.proofs.Count.{count_yes, count_no, count_both, place_left, place_right, place_low, place_apart}
use Rattle.tracks.proofs.Keeps.{Keeps, keeps_wide, keeps_enter, seen_mate}
use Rattle.tracks.proofs.Saw.{nxt_low, prv_low, nxt_third, prv_third, Seen, saw_left, saw_right}
use Rattle.tracks.proofs.Step.{new, step_left, step_right}

module _ (P : ℕ → Pt ℤ) (B : Side → Pt ℤ) (kk n t a b : ℕ) (w0 : List ℕ) (tile : Tiling P B kk (net_of w0 t)) (rm : Room n t w0) (s : ℕ → Bool) (w1 : List ℕ) where
  abbrev pub F : Figure
  F = figure P n a b (λ p u v. not_both u v) w1 s

  abbrev pub W : World
  W = world P B (8 * n + 2) (Marked (net_of w0 t)) (Has (net_of w0 t))

  abbrev pub σ : Net
  σ = image P B (net_of w0 t)

  pub bound : 8 * n + 2 ≤ 12 * n
  bound = let q = rm.some in omega arith

  pub small : t ≤ 2 * n
  small = let q = rm.less in omega arith

  pub some : 1 ≤ n
  some = let q = rm.some in omega arith

  pub til : Tiled W (CcwP P) (place n s) t (t + 3) σ
  unfolding net_of
  til =
      let l = rm.less in
      let y = to_cavity P B kk (8 * n + 2) (net_of w0 t) tile (omega arith) in
      record {
        inv = y.inv;
        live = y.whole.live;
        tri = y.whole.tri;
        dead = λ x q. y.dead (place n s x) (let z = (place_low n s x (omega arith)).0 in omega arith);
        low = λ x q. (let z = (place_low n s x (omega arith)).1 in omega arith);
        apart = λ x y p q e. place_apart n s x y (omega arith) (omega arith) e;
      }

  pub solid : (h : ℕ) → h < 3 * t → ¬ (σ.org h ≡ σ.dst h)
  unfolding net_of image
  solid h l e = tile_apart tile h l e

  pub back : (h g : ℕ) → h < 3 * t → adj w0 h ≡ suc g → adj w0 g ≡ suc h
  unfolding net_of
  back h g l e = tile.linked.back h g l e

  pub record State (l r x : ℕ) (w : List ℕ) (G : Ghost) : Type 0 where
    pub some_left : 1 ≤ l
    pub some_right : 1 ≤ r
    pub few : l + r ≤ t + 1
    pub low : x < 3 * t
    pub keeps : Keeps n t w0 (slot_of n w1) (l + r - 1) w
    pub walk : Walk F t (l + r - 1) l r x σ (model_of n w G)
    pub way : Way P (net_of w0 t) a b (slot_of n w1) (chain_of n w1) (λ z. chain_of n w1 (2 * n - 1 - z)) l r x
    pub turned : count s (l + r) ≡ l

  walk_again : (k l r x k' l' r' : ℕ) (τ : Net) → k ≡ k' → l ≡ l' → r ≡ r' → Walk F t k l r x σ τ → Walk F t k' l' r' x σ τ
  walk_again k l r x k' l' r' τ p q z v = subst (λ (u : ℕ). Walk F t k' l' u x σ τ) z (subst (λ (u : ℕ). Walk F t k' u r x σ τ) q (subst (λ (u : ℕ). Walk F t u l r x σ τ) p v))

  abbrev Way' : ℕ → ℕ → ℕ → Type 0
  Way' l r x = Way P (net_of w0 t) a b (slot_of n w1) (chain_of n w1) (λ z. chain_of n w1 (2 * n - 1 - z)) l r x

  module _ (l r x : ℕ) (w : List ℕ) (G : Ghost) (S : State l r x w G) (h : l + r ≤ t) where
    pub strip : Strip W F t (l + r - 1) l r x σ (model_of n w G)
    strip = walk_strip W (CcwP P) F t (t + 3) til (let z : l + r - 1 < t + 3 = omega arith in z) S.walk

    pub whole : suc (l + r - 1) ≡ l + r
    whole = let p = S.some_left in omega arith

    pub at_left : s (l + r) ≡ true → place n s (suc (l + r - 1)) ≡ 6 * n + l
    at_left e = ap (place n s) whole ∙ place_left n s (l + r) e ∙ ap (λ (z : ℕ). 6 * n + z) S.turned

    pub at_right : s (l + r) ≡ false → place n s (suc (l + r - 1)) ≡ 6 * n + (2 * n - 2 - r)
    at_right e =
        let p = count_both s (l + r) in let q = S.turned in let z : count (other s) (l + r) ≡ r = omega arith in
        ap (place n s) whole ∙ place_right n s (l + r) e ∙ ap (λ (v : ℕ). 6 * n + (2 * n - 2 - v)) z

    pub fits : suc (l + r - 1) < t + 3
    fits = let q = S.some_left in omega arith

    module _ (y : ℕ) (seen : Seen t w x y) (slot : slot_of n w1 (l + r - 1) ≡ y / 3) where
      pub adj_m : (net_of w0 t).adj x ≡ suc y
      unfolding net_of
      adj_m = seen_mate n t w0 (slot_of n w1) small some back (l + r - 1) w x y S.keeps S.low seen

      pub con_m : (net_of w0 t).con x ≡ 0
      unfolding net_of
      con_m = sym (S.keeps.mark x S.low) ∙ seen.plain

      pub org_m : (c : ℕ) → org w (prv y) ≡ c → c ≡ (net_of w0 t).org (prv y)
      unfolding net_of
      org_m c e = sym e ∙ S.keeps.corner (prv y)

      pub new_m : (i : ℕ) → i < l + r - 1 → ¬ (slot_of n w1 i ≡ y / 3)
      new_m = new W (CcwP P) F t (t + 3) σ til solid n bound (l + r - 1) l r x w G S.keeps.long S.walk fits y seen slot

      keeps_o : (k o g e c : ℕ) → o < 3 * t → o / 3 ≡ y / 3 → g < 2 * n → Keeps n t w0 (slot_of n w1) (l + r) (enter_w n w k y o g e c)
      keeps_o k o g e c ol o3 gl =
          keeps_enter n t w0 (slot_of n w1) small some back (l + r) w k y o g e c (l + r - 1)
          (keeps_wide n t w0 (slot_of n w1) (l + r - 1) (l + r) w (omega arith) S.keeps) gl ol (let p = S.some_left in omega arith) (slot ∙ sym o3)

    -- ---- a step to the left

    module _ (y c : ℕ) (look : look_at P t a b w x ≡ Ok (Left y c)) (slot : slot_of n w1 (l + r - 1) ≡ y / 3) (corner : chain_of n w1 (l + 1) ≡ c) (turn : s (l + r) ≡ true) where
      pub state_left : (H : Ghost) × State (l + 1) r (nxt y) (left_w n w l r y c) H
      state_left =
          let sn = saw_left P t a b w x y c look in
          let seen = sn.0 in
          let less = rm.less in
          let p = S.some_left in let q = S.some_right in
          let one : suc l ≡ l + 1 = omega arith in
          let cl : chain_of n w1 (suc l) ≡ c = ap (chain_of n w1) one ∙ corner in
          let v = step_left W (CcwP P) F t (t + 3) σ til solid n bound (l + r - 1) l r x w G S.keeps.long S.walk fits y seen slot small (l + 1) c
          (sn.1 ∙ sym cl) (subst (λ (u : ℕ). Pos (orient (P a) (P b) (P u))) (sym cl) sn.2) (sym (at_left turn)) l (at_left turn) (omega arith) in (
            v.0,
            record {
              some_left = omega arith;
              some_right = q;
              few = omega arith;
              low = nxt_low y t seen.low;
              keeps = (let e : l + r ≡ l + 1 + r - 1 = omega arith in
                  subst (λ (K : ℕ). Keeps n t w0 (slot_of n w1) K (left_w n w l r y c)) e
                  (keeps_o y seen slot (l + r - 1) (prv y) l (l + 1) c (prv_low y t seen.low) (prv_third y) (omega arith)));
              walk = walk_again (suc (l + r - 1)) (suc l) r (nxt y) (l + 1 + r - 1) (l + 1) r (model_of n (left_w n w l r y c) v.0) (omega arith) one refl v.1;
              way = subst (λ (z : ℕ). Way' z r (nxt y)) one
                  (way-left S.way (adj_m y seen slot) (con_m y seen slot) (new_m y seen slot) slot
                  (subst (λ (u : ℕ). Pos (orient (P a) (P b) (P u))) (org_m y seen slot c sn.1) sn.2) (cl ∙ org_m y seen slot c sn.1));
              turned = (let e : l + 1 + r ≡ suc (l + r) = omega arith in ap (count s) e ∙ count_yes s (l + r) turn ∙ ap suc S.turned ∙ one);
            },
          )

    -- ---- a step to the right

    module _ (y c : ℕ) (look : look_at P t a b w x ≡ Ok (Right y c)) (slot : slot_of n w1 (l + r - 1) ≡ y / 3) (corner : chain_of n w1 (2 * n - 2 - r) ≡ c) (turn : s (l + r) ≡ false) where
      pub state_right : (H : Ghost) × State l (r + 1) (prv y) (right_w n w l r y c) H
      state_right =
          let sn = saw_right P t a b w x y c look in
          let seen = sn.0 in
          let less = rm.less in
          let p = S.some_left in let q = S.some_right in
          let one : suc r ≡ r + 1 = omega arith in
          let two : 2 * n - 1 - suc r ≡ 2 * n - 2 - r = omega arith in
          let cr : chain_of n w1 (2 * n - 1 - suc r) ≡ c = ap (chain_of n w1) two ∙ corner in
          let v = step_right W (CcwP P) F t (t + 3) σ til solid n bound (l + r - 1) l r x w G S.keeps.long S.walk fits y seen slot small (2 * n - 2 - r) c
          (sn.1 ∙ sym cr) (subst (λ (u : ℕ). Pos (neg_ℤ (orient (P a) (P b) (P u)))) (sym cr) sn.2) (sym (at_right turn)) (2 * n - 2 - r) (at_right turn) (omega arith) in (
            v.0,
            record {
              some_left = p;
              some_right = omega arith;
              few = omega arith;
              low = prv_low y t seen.low;
              keeps = (let e : l + r ≡ l + (r + 1) - 1 = omega arith in
                  subst (λ (K : ℕ). Keeps n t w0 (slot_of n w1) K (right_w n w l r y c)) e
                  (keeps_o y seen slot (l + r - 1) (nxt y) (2 * n - 2 - r) (2 * n - 2 - r) c (nxt_low y t seen.low) (nxt_third y) (omega arith)));
              walk = walk_again (suc (l + r - 1)) l (suc r) (prv y) (l + (r + 1) - 1) l (r + 1) (model_of n (right_w n w l r y c) v.0) (omega arith) refl one v.1;
              way = subst (λ (z : ℕ). Way' l z (prv y)) one
                  (way-right S.way (adj_m y seen slot) (con_m y seen slot) (new_m y seen slot) slot
                  (subst (λ (u : ℕ). Pos (neg_ℤ (orient (P a) (P b) (P u)))) (org_m y seen slot c sn.1) sn.2) (cr ∙ org_m y seen slot c sn.1));
              turned = (let e : l + (r + 1) ≡ suc (l + r) = omega arith in ap (count s) e ∙ count_no s (l + r) turn ∙ S.turned);
            },
          )
