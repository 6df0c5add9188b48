-- A step of the walk in the working area is a step of the model's walk, and so are its first triangle and its last. Assumes nothing.
use mathlib.Core.Bool.{true}
use mathlib.Core.List.{List}
use mathlib.Core.Path.{◌≡◌, refl, sym, ap, ◌∙◌, subst}
use Prim.Native.Nat.{ℕ, suc, ◌+◌, ◌*◌, ◌/◌, ◌≤◌, ◌<◌}
use native.Mathlib.Omega.{arith}
use borrow.Author.Tests.{lt-ltb}
use lib.ListN.{length}
use Rattle.plane.specs.Halfedges.{nxt}
use Rattle.nets.specs.Nets.{prv}
use Rattle.cavities.proofs.Leaves.{parks, drops}
use Rattle.cavities.proofs.Net.{clash}
use Rattle.cavities.proofs.Steps.{dropped_inv, parked_inv, not_same}
use Rattle.cavities.proofs.Strip.{parts}
use Rattle.cavities.proofs.Walk.{walk_strip, vt_fresh, in_live, in_gap, in_new, keep_x, keep_y, exit_was, org1, dst1, open', pair}
use Rattle.cavities.specs.Changes.{Dropped, Parked}
use Rattle.cavities.specs.Corridors.{Three, In, Figure, Walk, left, right, Arrive, Tiled, Strip}
use Rattle.cavities.specs.Fillings.{Slots, Gaps}
use Rattle.cavities.specs.Nets.{Net, Live, Dead, World, Inv}
use Rattle.bridges.specs.Images.{has_mate, mate_of}
use Rattle.chains.proofs.Entering.{enter_length}
use Rattle.chains.specs.Areas.{org}
use Rattle.chains.specs.Walks.{enter_w}
use Rattle.mirrors.proofs.Memory.{model_enter, model_drop, adj_fits, adj_back}
use Rattle.mirrors.specs.Models.{Ghost, model_of, park_g, drop_g}
use Rattle.tracks.proofs.Saw.{prv_low, three_of, Seen}

third : (y t : ℕ) → y < 3 * t → y / 3 < t
third y t h = omega arith

real : (t s k : ℕ) → s < t → k < 3 → 3 * s + k < 3 * t
real t s k l h = omega arith

model_live : (n : ℕ) (w : List ℕ) (G : Ghost) (h : ℕ) → Live (model_of n w G) h → G.live h ≡ true
unfolding model_of
model_live n w G h e = e

-- an entry parks half-edge o at 6 n + g
pub park_net_lem : (W : World) (n : ℕ) (w : List ℕ) (G : Ghost) (k y o g e c : ℕ) → W.bound ≤ 12 * n → 64 * n ≤ length w → Inv W (model_of n w G) →
    Live (model_of n w G) o → Dead (model_of n w G) (6 * n + g) → g < 2 * n →
    ¬ ((model_of n w G).org o ≡ (model_of n w G).dst o) → Parked (model_of n w G) (model_of n (enter_w n w k y o g e c) (park_g n w G o (6 * n + g))) o (6 * n + g)
park_net_lem W n w G k y o g e c bound long inv lo dv gl proper =
    let fits = adj_fits W n w G inv o (model_live n w G o lo) in
    subst (λ (τ : Net). Parked (model_of n w G) τ o (6 * n + g))
    (sym (model_enter n w k y o g e c long (omega arith) (omega arith) (λ z q. adj_back W n w G inv o (model_live n w G o lo) z q) G)) (parks W (model_of n w G) o (6 * n + g) inv lo dv proper)

module _ (W : World) (Ccw : ℕ → ℕ → ℕ → Type 0) (F : Figure) (t cap : ℕ) (σ : Net) (til : Tiled W Ccw F.vt t cap σ)
    (solid : (h : ℕ) → h < 3 * t → ¬ (σ.org h ≡ σ.dst h)) (n : ℕ) (bound : W.bound ≤ 12 * n) where
  module _ (k l r x : ℕ) (w : List ℕ) (G : Ghost) (long : 64 * n ≤ length w) (walk : Walk F t k l r x σ (model_of n w G)) (fits : suc k < cap) (y : ℕ)
      (seen : Seen t w x y) (slot : F.slot k ≡ y / 3) where
    abbrev σ1 : Net
    σ1 = model_of n w G

    st : Strip W F t k l r x σ (model_of n w G)
    st = walk_strip W Ccw F t cap til (omega arith) walk

    has : σ1.has x ≡ true
    unfolding model_of
    has = ap has_mate seen.mate

    plain : σ1.mark x ≡ 0
    unfolding model_of
    plain = seen.plain

    mate_y : σ1.mate x ≡ y
    unfolding model_of
    mate_y = ap mate_of seen.mate

    three : Three (F.slot k) (σ1.mate x) (nxt y) (prv y)
    three = subst (λ (s : ℕ). Three s (σ1.mate x) (nxt y) (prv y)) (sym slot) (subst (λ (m : ℕ). Three (y / 3) m (nxt y) (prv y)) (sym mate_y) (three_of y))

    low : F.slot k < t
    low = rw slot (third y t seen.low)

    -- the triangle is entered for the first time
    pub new : (i : ℕ) → i < k → ¬ (F.slot i ≡ y / 3)
    new i h q =
        let p = (parts three).in_e in
        in_new W Ccw F t cap σ til k l r x (nxt y) (prv y) σ1 st fits has plain three low (σ1.mate x) p
        (record { at = i; k = p.k; low = omega arith; high = h; three = p.three; is = p.is ∙ ap (λ (u : ℕ). 3 * u + p.k) (slot ∙ sym q) })

    -- the pair is dropped
    G2 : Ghost
    G2 = drop_g G x (σ1.mate x)

    σ2 : Net
    σ2 = model_of n w G2

    not_mate : ¬ (x ≡ σ1.mate x)
    not_mate q = open' W Ccw F t cap σ til k l r x (nxt y) (prv y) σ1 st fits has plain three low
        (sym (pair W Ccw F t cap σ til k l r x (nxt y) (prv y) σ1 st fits has plain three low).dst ∙ ap σ1.dst (sym q))

    drop : Dropped σ1 σ2 x (σ1.mate x)
    unfolding σ2 G2
    drop = subst (λ (τ : Net). Dropped σ1 τ x (σ1.mate x)) (sym (model_drop n w G x (σ1.mate x))) (drops σ1 x (σ1.mate x) not_mate)

    inv2 : Inv W σ2
    inv2 =
        dropped_inv W σ1 σ2 x (σ1.mate x) st.core.exit_live has refl plain (keep_x W Ccw F t cap σ til k l r x (nxt y) (prv y) σ1 st fits has plain three low)
        (keep_y W Ccw F t cap σ til k l r x (nxt y) (prv y) σ1 st fits has plain three low) drop st.core.inv

    slot_was : (h : ℕ) → Slots F.slot 0 k h → Live σ h
    slot_was h s = til.live h (subst (λ (z : ℕ). z < 3 * t) (sym s.is) (real t (F.slot s.at) s.k (st.core.slot_real s.at s.high) s.three))

    was : (o : ℕ) → In (F.slot k) o → Live σ o
    was o oi = in_live W Ccw F t cap σ til k l r x (nxt y) (prv y) σ1 st fits has plain three low o oi

    lo : (o : ℕ) → In (F.slot k) o → ¬ (o ≡ σ1.mate x) → Live σ2 o
    lo o oi om =
        drop.live o (λ q. in_new W Ccw F t cap σ til k l r x (nxt y) (prv y) σ1 st fits has plain three low o oi (subst (Slots F.slot 0 k) (sym q) st.core.exit_in)) om ∙
        st.core.live o (in_new W Ccw F t cap σ til k l r x (nxt y) (prv y) σ1 st fits has plain three low o oi)
        (in_gap W Ccw F t cap σ til k l r x (nxt y) (prv y) σ1 st fits has plain three low o oi) ∙ was o oi

    -- a place that no gap has yet is dead
    dead : (v : ℕ) → Dead σ v → ¬ Gaps F.vt 0 (suc k) v → Dead σ2 v
    dead v d f =
        drop.live v (λ q. not_same σ x v (exit_was W Ccw F t cap σ til k l r x (nxt y) (prv y) σ1 st fits has plain three low) d (sym q))
        (λ q. not_same σ (σ1.mate x) v (was (σ1.mate x) (parts three).in_e) d (sym q)) ∙ st.core.live v (λ s. clash (slot_was v s) d) f ∙ d

    o_low : (o : ℕ) → In (F.slot k) o → o < 3 * t
    o_low o oi = subst (λ (z : ℕ). z < 3 * t) (sym oi.is) (real t (F.slot k) oi.k low oi.three)

    proper : (o : ℕ) → In (F.slot k) o → ¬ (σ2.org o ≡ σ2.dst o)
    proper o oi q =
        solid o (o_low o oi) (sym (org1 W Ccw F t cap σ til k l r x (nxt y) (prv y) σ1 st fits has plain three low o oi) ∙
        sym (drop.same o).org ∙ q ∙ (drop.same o).dst ∙ dst1 W Ccw F t cap σ til k l r x (nxt y) (prv y) σ1 st fits has plain three low o oi)

    -- and a half-edge of the new triangle is parked
    module _ (o g e c : ℕ) (oi : In (F.slot k) o) (om : ¬ (o ≡ σ1.mate x)) (gl : g < 2 * n) (at : F.vt (suc k) ≡ 6 * n + g) where
      dv : Dead σ2 (F.vt (suc k))
      dv = dead (F.vt (suc k)) (til.dead (suc k) fits) (vt_fresh W Ccw F t cap σ til k fits)

      G3 : Ghost
      G3 = park_g n w G2 o (6 * n + g)

      park : Parked σ2 (model_of n (enter_w n w k y o g e c) G3) o (F.vt (suc k))
      unfolding σ2 G3
      park =
          subst (Parked (model_of n w G2) (model_of n (enter_w n w k y o g e c) (park_g n w G2 o (6 * n + g))) o) (sym at)
          (park_net_lem W n w G2 k y o g e c bound long inv2 (lo o oi om) (subst (Dead (model_of n w G2)) at dv) gl (proper o oi))

    gm : ¬ (prv y ≡ σ1.mate x)
    gm z = (parts three).eg (sym z)

    fm : ¬ (nxt y ≡ σ1.mate x)
    fm z = (parts three).ef (sym z)

    -- b is met: both edges beside it are parked
    module _ (g g' e e' b : ℕ) (gl : g < 2 * n) (gl' : g' < 2 * n) (at : F.vt (suc k) ≡ 6 * n + g) (at' : F.vt (suc (suc k)) ≡ 6 * n + g') (fits' : suc (suc k) < cap) where
      w3 : List ℕ
      w3 = enter_w n w k y (prv y) g e b

      H3 : Ghost
      H3 = G3 (prv y) g e b (parts three).in_g gm gl at

      σ3 : Net
      σ3 = model_of n w3 H3

      p1 : Parked σ2 σ3 (prv y) (F.vt (suc k))
      unfolding σ3 w3 H3
      p1 = park (prv y) g e b (parts three).in_g gm gl at

      inv3 : Inv W σ3
      inv3 = parked_inv W σ2 σ3 (prv y) (F.vt (suc k)) (lo (prv y) (parts three).in_g gm) (dv (prv y) g e b (parts three).in_g gm gl at) (til.low (suc k) fits) p1 inv2

      v_dead' : Dead σ (F.vt (suc (suc k)))
      v_dead' = til.dead (suc (suc k)) fits'

      f_v : ¬ (nxt y ≡ F.vt (suc k))
      f_v = not_same σ (nxt y) (F.vt (suc k)) (was (nxt y) (parts three).in_f) (til.dead (suc k) fits)

      lo' : Live σ3 (nxt y)
      lo' = p1.live (nxt y) (parts three).fg f_v ∙ lo (nxt y) (parts three).in_f fm

      fresh' : ¬ Gaps F.vt 0 (suc k) (F.vt (suc (suc k)))
      fresh' d = let q = til.apart (suc (suc k)) d.at fits' (let u = fits' in let v = d.high in omega arith) d.is in let v = d.high in omega arith

      dv' : Dead σ3 (F.vt (suc (suc k)))
      dv' =
          p1.live (F.vt (suc (suc k))) (λ q. not_same σ (prv y) (F.vt (suc (suc k))) (was (prv y) (parts three).in_g) v_dead' (sym q))
          (λ q. let z = til.apart (suc (suc k)) (suc k) fits' fits q in omega arith) ∙
          dead (F.vt (suc (suc k))) v_dead' fresh'

      proper' : ¬ (σ3.org (nxt y) ≡ σ3.dst (nxt y))
      proper' q = proper (nxt y) (parts three).in_f (sym (p1.org (nxt y) f_v) ∙ q ∙ p1.dst (nxt y) f_v)

      G4 : Ghost
      G4 = park_g n w3 H3 (nxt y) (6 * n + g')

      long3 : 64 * n ≤ length w3
      unfolding w3
      long3 = subst (λ (z : ℕ). 64 * n ≤ z) (sym (enter_length n w k y (prv y) g e b)) long

      p2 : Parked σ3 (model_of n (enter_w n w3 k y (nxt y) g' e' b) G4) (nxt y) (F.vt (suc (suc k)))
      unfolding σ3 G4
      p2 =
          subst (Parked (model_of n w3 H3) (model_of n (enter_w n w3 k y (nxt y) g' e' b) (park_g n w3 H3 (nxt y) (6 * n + g'))) (nxt y)) (sym at')
          (park_net_lem W n w3 H3 k y (nxt y) g' e' b bound long3 inv3 lo' (subst (Dead (model_of n w3 H3)) at' dv') gl' proper')

    -- ---- the steps

    abbrev pub Stepped : ℕ → ℕ → ℕ → List ℕ → Type 0
    Stepped l' r' x' w' = (H : Ghost) × Walk F t (suc k) l' r' x' σ (model_of n w' H)

    org_is : (h : ℕ) → h < 6 * n → σ1.org h ≡ org w h
    unfolding model_of
    org_is h q = simp (lt-ltb h (6 * n) q)

    -- A STEP OF THE CODE IS A STEP OF THE MODEL
    pub step_left : (small : t ≤ 2 * n) (e c : ℕ) → org w (prv y) ≡ F.cl (suc l) → F.Left (F.cl (suc l)) → F.gl l ≡ F.vt (suc k) → (g : ℕ) →
        F.vt (suc k) ≡ 6 * n + g → g < 2 * n → Stepped (suc l) r (nxt y) (enter_w n w k y (prv y) g e c)
    step_left small e c o isl gp g at gl =
        let q = prv_low y t seen.low in (
          G3 (prv y) g e c (parts three).in_g gm gl at,
          left walk has plain three low (org_is (prv y) (omega arith) ∙ o) isl gp drop (park (prv y) g e c (parts three).in_g gm gl at),
        )

    pub step_right : (small : t ≤ 2 * n) (e c : ℕ) → org w (prv y) ≡ F.cr (suc r) → F.Right (F.cr (suc r)) → F.gr r ≡ F.vt (suc k) → (g : ℕ) →
        F.vt (suc k) ≡ 6 * n + g → g < 2 * n → Stepped l (suc r) (prv y) (enter_w n w k y (nxt y) g e c)
    step_right small e c o isr gp g at gl =
        let q = prv_low y t seen.low in (
          G3 (nxt y) g e c (parts three).in_f fm gl at,
          right walk has plain three low (org_is (prv y) (omega arith) ∙ o) isr gp drop (park (nxt y) g e c (parts three).in_f fm gl at),
        )

    pub record Comes (w' : List ℕ) : Type 0 where
      pub ghost : Ghost
      pub σ2 : Net
      pub σ3 : Net
      pub arrive : Arrive F t k l r x (nxt y) (prv y) σ1 σ2 σ3 (model_of n w' ghost)

    pub arrives : (small : t ≤ 2 * n) (e e' b : ℕ) → org w (prv y) ≡ b → b ≡ F.cl (suc l) → b ≡ F.cr (suc r) → F.gl l ≡ F.vt (suc k) →
        F.gr r ≡ F.vt (suc (suc k)) → (g g' : ℕ) → g < 2 * n → g' < 2 * n →
        F.vt (suc k) ≡ 6 * n + g → F.vt (suc (suc k)) ≡ 6 * n + g' → suc (suc k) < cap → Comes (enter_w n (enter_w n w k y (prv y) g e b) k y (nxt y) g' e' b)
    unfolding w3
    arrives small e e' b o cl cr gpl gpr g g' gl gl' at at' fits' =
        let q = prv_low y t seen.low in
        record {
          ghost = G4 g g' e e' b gl gl' at at' fits';
          σ2 = σ2;
          σ3 = σ3 g g' e e' b gl gl' at at' fits';
          arrive = record {
            has = has;
            plain = plain;
            three = three;
            small = low;
            b_left = org_is (prv y) (omega arith) ∙ o ∙ cl;
            b_right = org_is (prv y) (omega arith) ∙ o ∙ cr;
            at_left = gpl;
            at_right = gpr;
            drop = drop;
            park = p1 g g' e e' b gl gl' at at' fits';
            park' = p2 g g' e e' b gl gl' at at' fits';
          };
        }
