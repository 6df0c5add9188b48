-- FROM THE MODEL: the net that reads a recovered net is a tiling, has the corners, the marked edges and the demanded edge, and is as it was
-- outside of the crossed slots. Assumes nothing.
use mathlib.Core.Bool.{true, false}
use mathlib.Core.Path.{◌≡◌, sym, ap, ◌∙◌, subst}
use Prim.Native.Nat.{ℕ, suc, ◌+◌, ◌*◌, ◌<◌}
use native.Mathlib.Decide.{dec_lt}
use native.Mathlib.Omega.{arith}
use lib.IntN.{ℤ}
use Rattle.algebra.proofs.Sum.{by_bool, sum_cong}
use Rattle.algebra.specs.Order.{Pos}
use Rattle.algebra.specs.Sum.{sum_to}
use Rattle.plane.proofs.Halfedges.{third, third1, third2}
use Rattle.plane.specs.Base.{Side, On}
use Rattle.plane.specs.Determinants.{orient}
use Rattle.plane.specs.Points.{Pt}
use Rattle.plane.specs.Tiles.{OnSide}
use Rattle.nets.specs.Nets.{Net, dst, Linked}
use Rattle.nets.specs.Tilings.{tri, Tiling, Has, Marked}
use Rattle.cavities.proofs.Recover.{recovery_inv}
use Rattle.cavities.proofs.Recovered.{recovery_keeps}
use Rattle.cavities.proofs.Traces.{recovery_traced}
use Rattle.cavities.specs.Fillings.{Slots}
use Rattle.cavities.specs.Nets.{Net as Model, Good, Mated}
use Rattle.cavities.specs.Recovered.{Recovered}
use Rattle.cavities.specs.Tilings.{AlongP}
use Rattle.cavities.specs.Traces.{Gone, crossed, beyond, Kin, still, both, Stays, Traced}
use Rattle.bridges.specs.Images.{image, Reads}
use Rattle.bridges.specs.Bridges.{Low, Beside, Taken, FromCavity, Through}
use Rattle.bridges.proofs.Corners.{recovery_corners}
use Rattle.bridges.proofs.To.{image_reads, image_only, to_begun}

-- ---- a half-edge with a partner, in the model, and one without

module _ (m : Net) (σ : Model) (r : Reads m σ) where
  record Paired (h g : ℕ) : Type 0 where
    has : σ.has h ≡ true
    is : σ.mate h ≡ g

  paired : (h g : ℕ) → h < 3 * m.tris → m.adj h ≡ suc g → Paired h g
  paired h g l e =
      by_bool (σ.has h)
      (λ y. record { has = y; is = (let z : suc (σ.mate h) ≡ suc g = sym (r.mated h l y) ∙ e in omega arith) })
      (λ n. absurd (let z : ◌≡◌ {A = ℕ} 0 (suc g) = sym (r.bare h l n) ∙ e in let f : ⊥ = omega arith in f))

  unpaired : (h : ℕ) → h < 3 * m.tris → m.adj h ≡ 0 → σ.has h ≡ false
  unpaired h l e =
      by_bool (σ.has h)
      (λ y. absurd (let z : ◌≡◌ {A = ℕ} 0 (suc (σ.mate h)) = sym e ∙ r.mated h l y in let f : ⊥ = omega arith in f))
      (λ n. n)

-- ---- the tiling

module _ (P : ℕ → Pt ℤ) (B : Side → Pt ℤ) (m' : Net) (σ' : Model) (good : Good (AlongP P B) σ') (r : Reads m' σ') where
  abbrev T : ℕ
  T = m'.tris

  mates : (h g : ℕ) → h < 3 * T → m'.adj h ≡ suc g → Mated σ' h g
  mates h g l e = let p = paired m' σ' r h g l e in subst (Mated σ' h) p.is ((good h (r.live h l)).mated p.has)

  partner_low : (h g : ℕ) → h < 3 * T → m'.adj h ≡ suc g → g < 3 * T
  partner_low h g l e = r.low g (mates h g l e).live

  sided : (h : ℕ) → h < 3 * T → m'.adj h ≡ 0 → OnSide P B (m'.org h) (dst m' h)
  sided h l e =
      let a = (good h (r.live h l)).along (unpaired m' σ' r h l e) in
      (σ'.side h, subst (λ (x : ℕ). On B (σ'.side h) (P x)) (r.org h l) a.0, subst (λ (x : ℕ). On B (σ'.side h) (P x)) (r.dst h l) a.1)

  linked : Linked (OnSide P B) m'
  linked = record {
    low = partner_low;
    back = λ h g l e. (let p = mates h g l e in r.mated g (partner_low h g l e) p.has ∙ ap suc p.back);
    from = λ h g l e. sym (r.org g (partner_low h g l e)) ∙ (mates h g l e).org ∙ r.dst h l;
    mark = λ h g l e. sym (r.mark g (partner_low h g l e)) ∙ (mates h g l e).mark ∙ r.mark h l;
    side = sided;
  }

  module _ (k a b : ℕ) (slot : ℕ → ℕ) (n : ℕ) (m : Net) (σ : Model) (v : Tiling P B k m) (was : Reads m σ)
      (rec : Recovered P B (Marked m) (Has m) m.tris a b σ') (tr : Traced (Marked m) slot m.tris n a b σ σ') (small : Low k m') where
    same : m'.tris ≡ m.tris
    same = go (dec_lt T m.tris) (dec_lt m.tris T)
      where
        go : Dec (T < m.tris) → Dec (m.tris < T) → T ≡ m.tris
        go (yes l) d = absurd (let z = r.low (3 * T) (rec.whole.live (3 * T) (omega arith)) in let f : ⊥ = omega arith in f)
        go (no n) (yes l) = absurd (let z = rec.whole.low (3 * m.tris) (r.live (3 * m.tris) (omega arith)) in let f : ⊥ = omega arith in f)
        go (no n) (no n') = omega arith

    area_same : (t : ℕ) → t < T → orient (P (σ'.org (3 * t))) (P (σ'.org (3 * t + 1))) (P (σ'.org (3 * t + 2))) ≡ tri P m' orient t
    area_same t l = rw (r.org (3 * t) (third t T l), r.org (3 * t + 1) (third1 t T l), r.org (3 * t + 2) (third2 t T l))

    tiling : Tiling P B k m'
    tiling = record {
      linked = linked;
      corners = small;
      ccw = λ t l. subst Pos (area_same t l) (rec.covers.ccw t (subst (λ (x : ℕ). t < x) same l));
      base_ccw = rec.covers.base_ccw;
      areas =
          sym (sum_cong T (λ t. orient (P (σ'.org (3 * t))) (P (σ'.org (3 * t + 1))) (P (σ'.org (3 * t + 2)))) (tri P m' orient) area_same) ∙
          ap (λ (x : ℕ). sum_to x (λ t. orient (P (σ'.org (3 * t))) (P (σ'.org (3 * t + 1))) (P (σ'.org (3 * t + 2))))) same ∙ rec.covers.areas;
    }

    kept : (u : ℕ) → Has m u → Has m' u
    kept u x =
        let c = rec.corner u x in
        let l = r.low c.at c.live in
        (c.at, l, sym (r.org c.at l) ∙ c.org)

    low : (h : ℕ) → h < 3 * m.tris → h < 3 * T
    low h l = let e = same in omega arith

    only : (u w : ℕ) → Marked m' u w → Marked m u w
    only u w x =
        let l = x.1 in
        let y = tr.only x.0 (r.live x.0 l) (λ z. x.4 (sym (r.mark x.0 l) ∙ z)) in
        subst (Marked m u) (r.dst x.0 l ∙ x.3) (subst (λ (p : ℕ). Marked m p (σ'.dst x.0)) (r.org x.0 l ∙ x.2) y)

    -- a half-edge of a triangle that is not crossed stays
    here : (h : ℕ) → h < 3 * m.tris → ¬ Slots slot 0 (suc n) h → ¬ Gone slot (suc n) m.tris h
    here h l out (crossed s) = out s
    here h l out (beyond d) = omega arith

    module _ (h : ℕ) (l : h < 3 * m.tris) (out : ¬ Slots slot 0 (suc n) h) where
      stays : Stays (Gone slot (suc n) m.tris) σ σ' h
      stays = tr.outside h (here h l out)

      pair : (g : ℕ) → ¬ Slots slot 0 (suc n) g → m.adj h ≡ suc g → m'.adj h ≡ suc g
      pair g off e = go (stays.mate p.has)
        where
          p : Paired m σ was h g
          p = paired m σ was h g l e

          go : Kin (Gone slot (suc n) m.tris) (σ.mate h) (σ'.mate h) → m'.adj h ≡ suc g
          go (still q) = r.mated h (low h l) (stays.has ∙ p.has) ∙ ap suc (q ∙ p.is)
          go (both u w) = absurd (here g (v.linked.low h g l e) off (subst (Gone slot (suc n) m.tris) p.is u))

      was_pair : (g : ℕ) → ¬ Slots slot 0 (suc n) g → m'.adj h ≡ suc g → m.adj h ≡ suc g
      was_pair g off e = go (stays.mate has)
        where
          p : Paired m' σ' r h g
          p = paired m' σ' r h g (low h l) e

          has : σ.has h ≡ true
          has = sym stays.has ∙ p.has

          g_low : g < 3 * m.tris
          g_low = let q = same in let z = partner_low h g (low h l) e in omega arith

          go : Kin (Gone slot (suc n) m.tris) (σ.mate h) (σ'.mate h) → m.adj h ≡ suc g
          go (still q) = was.mated h l has ∙ ap suc (sym q ∙ p.is)
          go (both u w) = absurd (here g g_low off (subst (Gone slot (suc n) m.tris) p.is w))

      beside : Beside slot (suc n) m m' h
      beside = record {
        org = sym (r.org h (low h l)) ∙ stays.org ∙ was.org h l;
        dst = sym (r.dst h (low h l)) ∙ stays.dst ∙ was.dst h l;
        con = sym (r.mark h (low h l)) ∙ stays.mark ∙ was.mark h l;
        bare = λ e. r.bare h (low h l) (stays.has ∙ unpaired m σ was h l e);
        was_bare = λ e. was.bare h l (sym stays.has ∙ unpaired m' σ' r h (low h l) e);
        pair = pair;
        was_pair = was_pair;
      }

    root_low : 3 * slot n < 3 * T
    root_low = low (3 * slot n) (let z = tr.root_low in omega arith)

    pub taken : Taken P B k a b slot n m m'
    taken = record {
      tile = tiling;
      tris = same;
      corner = kept;
      present = λ j f u i. kept u (f u i);
      marked = λ u w x.
          let c = rec.marked u w x in
          let l = r.low c.at c.live in
          (c.at, l, sym (r.org c.at l) ∙ c.org, sym (r.dst c.at l) ∙ c.dst, λ z. c.mark (r.mark c.at l ∙ z));
      edge = (let c = rec.edge in let l = r.low c.at c.live in (c.at, l, sym (r.org c.at l) ∙ c.org, sym (r.dst c.at l) ∙ c.dst));
      only = only;
      outside = beside;
      root = (sym (r.org (3 * slot n) root_low) ∙ tr.root_org, sym (r.dst (3 * slot n) root_low) ∙ tr.root_dst, root_low);
    }

pub from_cavity : FromCavity
from_cavity P B k a b slot n m m' σ σ' v was good rec tr r small = taken P B m' σ' good r k a b slot n m σ v was rec tr small

pub through : Through
through P B k N F cap n l r PL PR m m' σ v places rec reads =
    let b = to_begun P B k N F cap n l r PL PR m v places in
    let y = recovery_keeps P B N (Marked m) (Has m) F m.tris cap n l r PL PR (image P B m) σ b rec in
    from_cavity P B k (F.cl 0) (F.cl (suc l)) F.slot n m m' (image P B m) σ v (image_reads P B m)
    (recovery_inv P B N (Marked m) (Has m) F m.tris cap n l r PL PR (image P B m) σ b.tiled b.low b.fits b.from_a b.to_b b.room rec).good
    y (recovery_traced P B N (Marked m) (Has m) F m.tris cap n l r PL PR (image P B m) σ b rec (Marked m) (image_only P B m)) reads
    (λ h i. subst (λ (u : ℕ). u < k) (reads.org h i) (recovery_corners P B N (Marked m) (Has m) F m.tris cap n l r PL PR (image P B m) σ b rec
    (λ (u : ℕ). u < k) (λ g j. subst (λ (u : ℕ). u < k) (sym ((image_reads P B m).org g j)) (v.corners g j)) h (y.whole.low h (reads.live h i))))
