-- The walk of the crate cavities is a route: what it crosses are gates. So the cavity that it opens is closed by the scan. Assumes nothing
-- but what the tiling says of its edges, of b and of the sides of a b (Sees).
use mathlib.Core.Bool.{true}
use mathlib.Core.Path.{◌≡◌, sym, ap, ◌∙◌, subst}
use Prim.Native.Nat.{ℕ, suc, ◌+◌, ◌*◌, ◌<◌}
use native.Mathlib.Omega.{arith}
use lib.IntN.{ℤ}
use Rattle.algebra.proofs.Order.{pos_by, pos_nn}
use Rattle.algebra.specs.Order.{Pos, NonNeg}
use Rattle.plane.proofs.Orient.{orient_cyc}
use Rattle.plane.specs.Determinants.{orient}
use Rattle.plane.specs.Points.{Pt}
use Rattle.cavities.proofs.Net.{clash}
use Rattle.cavities.proofs.Strip.{parts, turn_ef}
use Rattle.cavities.proofs.Walk.{walk_strip}
use Rattle.cavities.specs.Corridors.{Three, t0, t1, t2, In, Parts, Tiled, Figure, Walk, start, left, right, Strip}
use Rattle.cavities.specs.Fillings.{Tri, Gaps}
use Rattle.cavities.specs.Nets.{Net, Mated, World}
use Rattle.cavities.specs.Tilings.{CcwP}
use Rattle.routes.specs.Gates.{Beyond}
use Rattle.routes.specs.Needles.{Pierce}
use Rattle.routes.specs.Routes.{Route, first, more_left, more_right}
use Rattle.routes.specs.Walks.{Sees}
use Rattle.routes.proofs.Gate.{go_left, go_right}
use Rattle.routes.proofs.Route.{not_first, not_second, two_ends, last_gate}
use Rattle.routes.proofs.Step.{pos_or, turn}

-- corners of a triangle, from any of its half-edges
tri_left : {s e f g : ℕ} (pts : ℕ → Pt ℤ) (σ : Net) → Three s e f g → Tri (CcwP pts) σ s → Pos (orient (pts (σ.org e)) (pts (σ.org f)) (pts (σ.org g)))
tri_left pts σ (t0 {t = t}) k = k.ccw
tri_left pts σ (t1 {t = t}) k = pos_by (sym (orient_cyc (pts (σ.org (3 * t))) (pts (σ.org (3 * t + 1))) (pts (σ.org (3 * t + 2))))) k.ccw
tri_left pts σ (t2 {t = t}) k = pos_by (orient_cyc (pts (σ.org (3 * t + 2))) (pts (σ.org (3 * t))) (pts (σ.org (3 * t + 1)))) k.ccw

real : (t s k : ℕ) → s < t → k < 3 → 3 * s + k < 3 * t
real t s k l h = omega arith

module _ (W : World) (pts : ℕ → Pt ℤ) (Edge : ℕ → ℕ → Type 0) (a b : Pt ℤ) (F : Figure) (t cap : ℕ) (σ : Net) (til : Tiled W (CcwP pts) F.vt t cap σ) (sees : Sees pts Edge a b F t σ) where
  old : (n h : ℕ) → n < cap → h < 3 * t → ¬ Gaps F.vt 0 (suc n) h
  old n h fits l d = clash (til.live h l) (ap σ.live d.is ∙ til.dead d.at (let k = fits in let m = d.high in omega arith))

  -- the edge to leave by
  exit_edge : (n l r x : ℕ) (σ1 : Net) → n < cap → Strip W F t n l r x σ σ1 → Edge (F.cl l) (F.cr r)
  exit_edge n l r x σ1 fits st =
      sees.tidy.turned (F.cr r) (F.cl l)
      (subst (λ (e : ℕ × ℕ). Edge e.0 e.1) (λ i. ((sym (st.core.org x out) ∙ st.exit.org) i, (sym (st.core.dst x out) ∙ st.exit.dst) i)) (sees.edge x low))
    where
      low : x < 3 * t
      low = let s = st.core.exit_in in subst (λ (k : ℕ). k < 3 * t) (sym s.is) (real t (F.slot s.at) s.k (st.core.slot_real s.at s.high) s.three)

      out : ¬ Gaps F.vt 0 (suc n) x
      out = old n x fits low

  -- the triangle that is entered next
  module _ (n l r x f g : ℕ) (σ1 : Net) (fits : n < cap) (st : Strip W F t n l r x σ σ1) (has : σ1.has x ≡ true) (three : Three (F.slot n) (σ1.mate x) f g) (small : F.slot n < t) where
    prt : Parts (F.slot n) (σ1.mate x) f g
    prt = parts three

    pair : Mated σ1 x (σ1.mate x)
    pair = (st.core.inv.good x st.core.exit_live).mated has

    out : (h : ℕ) → In (F.slot n) h → ¬ Gaps F.vt 0 (suc n) h
    out h i = old n h fits (subst (λ (k : ℕ). k < 3 * t) (sym i.is) (real t (F.slot n) i.k small i.three))

    e_org : σ.org (σ1.mate x) ≡ F.cl l
    e_org = sym (st.core.org (σ1.mate x) (out (σ1.mate x) prt.in_e)) ∙ pair.org ∙ st.exit.dst

    f_org : σ.org f ≡ F.cr r
    f_org = sym (turn_ef (CcwP pts) σ three (til.tri (F.slot n) small)) ∙ sym (st.core.dst (σ1.mate x) (out (σ1.mate x) prt.in_e)) ∙ pair.dst ∙ st.exit.org

    g_org : (w : ℕ) → σ1.org g ≡ w → σ.org g ≡ w
    g_org w e = sym (st.core.org g (out g prt.in_g)) ∙ e

    pub entered : (w : ℕ) → σ1.org g ≡ w → Pos (orient (pts (F.cl l)) (pts (F.cr r)) (pts w))
    entered w e = subst (λ (X : Type 0). X) (λ i. Pos (orient (pts (e_org i)) (pts (f_org i)) (pts (g_org w e i)))) (tri_left pts σ three (til.tri (F.slot n) small))

    pub beyond : (w : ℕ) → σ1.org g ≡ w → Pierce a b (pts (F.cl l)) (pts (F.cr r)) → ¬ (b ≡ pts w) → Beyond (pts (F.cl l)) (pts (F.cr r)) (pts w) b
    beyond w e p ne h k =
        sees.alone (F.slot n) (σ1.mate x) f g small three (λ q. not_second a b (pts (F.cl l)) p.left (q ∙ ap pts e_org))
        (λ q. not_first b a (pts (F.cr r)) p.right (q ∙ ap pts f_org)) (λ q. ne (q ∙ ap pts (g_org w e)))
        (at e_org f_org (pos_nn p.after)) (at f_org (g_org w e) h) (at (g_org w e) e_org k)
      where
        at : {u v u' v' : ℕ} → u ≡ u' → v ≡ v' → NonNeg (orient (pts u') (pts v') b) → NonNeg (orient (pts u) (pts v) b)
        at p q h = subst (λ (X : Type 0). X) (λ i. NonNeg (orient (pts (sym p i)) (pts (sym q i)) b)) h

  follow_start : (f x g : ℕ) (σ2 : Net) → 1 < cap → Strip W F t 1 1 1 x σ σ2 → Three (F.slot 0) f x g → F.slot 0 < t → σ.org f ≡ F.cl 0 →
      σ.org x ≡ F.cr 1 → σ.org g ≡ F.cl 1 → F.Left (F.cl 1) → F.Right (F.cr 1) → Route pts Edge F.cl F.cr a b 1 1 1
  follow_start f x g σ2 fits st three small ef ex eg l r =
      first (record {
        edge = exit_edge 1 1 1 x σ2 fits st;
        pierce = record { left = on_left; right = on_right; before = pos_by (sym (orient_cyc a (pts (F.cr 1)) (pts (F.cl 1)))) ccw; after = after };
      })
    where
      on_left : Pos (orient a b (pts (F.cl 1)))
      on_left = sees.left (F.cl 1) l

      on_right : Pos (orient b a (pts (F.cr 1)))
      on_right = sees.right (F.cr 1) r

      ccw : Pos (orient a (pts (F.cr 1)) (pts (F.cl 1)))
      ccw = subst (λ (X : Type 0). X) (λ i. Pos (orient ((ap pts ef ∙ sees.from) i) (pts (ex i)) (pts (eg i)))) (tri_left pts σ three (til.tri (F.slot 0) small))

      at : {u v : ℕ} {u' v' : Pt ℤ} → pts u ≡ u' → pts v ≡ v' → NonNeg (orient u' v' b) → NonNeg (orient (pts u) (pts v) b)
      at p q h = subst (λ (X : Type 0). X) (λ i. NonNeg (orient (sym p i) (sym q i) b)) h

      inner : NonNeg (orient (pts (F.cr 1)) (pts (F.cl 1)) b) → ⊥
      inner h =
          sees.alone (F.slot 0) f x g small three (λ q. two_ends a b (pts (F.cl 1)) on_left (q ∙ ap pts ef ∙ sees.from))
          (λ q. not_first b a (pts (F.cr 1)) on_right (q ∙ ap pts ex)) (λ q. not_second a b (pts (F.cl 1)) on_left (q ∙ ap pts eg))
          (at (ap pts ef ∙ sees.from) (ap pts ex) (pos_nn (pos_by (orient_cyc a (pts (F.cr 1)) b ∙ orient_cyc (pts (F.cr 1)) b a) on_right)))
          (at (ap pts ex) (ap pts eg) h) (at (ap pts eg) (ap pts ef ∙ sees.from) (pos_nn (pos_by (orient_cyc (pts (F.cl 1)) a b) on_left)))

      after : Pos (orient (pts (F.cl 1)) (pts (F.cr 1)) b)
      after = pos_or (orient (pts (F.cl 1)) (pts (F.cr 1)) b) (orient (pts (F.cr 1)) (pts (F.cl 1)) b) (turn (pts (F.cl 1)) (pts (F.cr 1)) b) (λ h. h) (λ h. absurd (inner h))

  follow_left : (n l r x f g y : ℕ) (σ1 σ3 : Net) → suc n < cap → Strip W F t n l r x σ σ1 → Strip W F t (suc n) (suc l) r y σ σ3 → σ1.has x ≡ true →
      Three (F.slot n) (σ1.mate x) f g → F.slot n < t → σ1.org g ≡ F.cl (suc l) → F.Left (F.cl (suc l)) →
      Route pts Edge F.cl F.cr a b n l r → Route pts Edge F.cl F.cr a b (suc n) (suc l) r
  follow_left n l r x f g y σ1 σ3 fits st st' has three small eg s ρ =
      let d = entered n l r x f g σ1 (omega arith) st has three small (F.cl (suc l)) eg in
      let p = (last_gate pts Edge F.cl F.cr a b ρ).pierce in
      let o = sees.left (F.cl (suc l)) s in
      more_left ρ d (record {
        edge = exit_edge (suc n) (suc l) r y σ3 fits st';
        pierce = go_left a b (pts (F.cl l)) (pts (F.cr r)) (pts (F.cl (suc l))) p d
            (beyond n l r x f g σ1 (omega arith) st has three small (F.cl (suc l)) eg p (not_second a b (pts (F.cl (suc l))) o)) o;
      })

  follow_right : (n l r x f g y : ℕ) (σ1 σ3 : Net) → suc n < cap → Strip W F t n l r x σ σ1 → Strip W F t (suc n) l (suc r) y σ σ3 →
      σ1.has x ≡ true → Three (F.slot n) (σ1.mate x) f g → F.slot n < t → σ1.org g ≡ F.cr (suc r) → F.Right (F.cr (suc r)) →
      Route pts Edge F.cl F.cr a b n l r → Route pts Edge F.cl F.cr a b (suc n) l (suc r)
  follow_right n l r x f g y σ1 σ3 fits st st' has three small eg s ρ =
      let d = entered n l r x f g σ1 (omega arith) st has three small (F.cr (suc r)) eg in
      let p = (last_gate pts Edge F.cl F.cr a b ρ).pierce in
      let o = sees.right (F.cr (suc r)) s in
      more_right ρ d (record {
        edge = exit_edge (suc n) l (suc r) y σ3 fits st';
        pierce = go_right a b (pts (F.cl l)) (pts (F.cr r)) (pts (F.cr (suc r))) p d
            (beyond n l r x f g σ1 (omega arith) st has three small (F.cr (suc r)) eg p (not_first b a (pts (F.cr (suc r))) o)) o;
      })

-- A WALK IS A ROUTE
pub follow : (W : World) (pts : ℕ → Pt ℤ) (Edge : ℕ → ℕ → Type 0) (a b : Pt ℤ) (F : Figure) (t cap : ℕ) {n l r x : ℕ} {σ σ' : Net} →
    Tiled W (CcwP pts) F.vt t cap σ → Sees pts Edge a b F t σ → n < cap → Walk F t n l r x σ σ' → Route pts Edge F.cl F.cr a b n l r
follow W pts Edge a b F t cap til sees fits (start {f = f} {x = x} {g = g} {σ = σ} {σ1 = σ1} {σ2 = σ2} three small ef ef' ex eg l r m o p q) =
    follow_start W pts Edge a b F t cap σ til sees f x g σ2 fits (walk_strip W (CcwP pts) F t cap til fits (start three small ef ef' ex eg l r m o p q)) three small ef ex eg l r
follow W pts Edge a b F t cap til sees fits (left {n = n} {l = l} {r = r} {x = x} {f = f} {g = g} {σ = σ} {σ1 = σ1} {σ2 = σ2} {σ3 = σ3} w has plain three small eg s e drop park) =
    follow_left W pts Edge a b F t cap σ til sees n l r x f g f σ1 σ3 fits (walk_strip W (CcwP pts) F t cap til (omega arith) w)
    (walk_strip W (CcwP pts) F t cap til fits (left w has plain three small eg s e drop park)) has three small eg s
    (follow W pts Edge a b F t cap til sees (omega arith) w)
follow W pts Edge a b F t cap til sees fits (right {n = n} {l = l} {r = r} {x = x} {f = f} {g = g} {σ = σ} {σ1 = σ1} {σ2 = σ2} {σ3 = σ3} w has plain three small eg s e drop park) =
    follow_right W pts Edge a b F t cap σ til sees n l r x f g g σ1 σ3 fits (walk_strip W (CcwP pts) F t cap til (omega arith) w)
    (walk_strip W (CcwP pts) F t cap til fits (right w has plain three small eg s e drop park)) has three small eg s
    (follow W pts Edge a b F t cap til sees (omega arith) w)
