-- A net whose live half-edges are those of the triangles below T is a tiling, if its boundary's sum is the base's area. Assumes nothing.
use mathlib.Core.Bool.{Bool, true, false, cond, not, ◌&&◌}
use mathlib.Core.Path.{◌≡◌, refl, sym, ap, ap₂, ◌∙◌}
use Prim.Native.Nat.{ℕ, zero, suc, ◌+◌, ◌*◌, ◌≤◌}
use native.Mathlib.Decide.{ℕ_discrete}
use native.Mathlib.Omega.{arith}
use lib.IntN.{ℤ, pos, ◌+ℤ◌, +ℤ_idr}
use Rattle.algebra.proofs.Sum.{sum_cong, sum_three, unmated}
use Rattle.algebra.specs.Order.{Pos}
use Rattle.algebra.specs.Sum.{sum_to}
use Rattle.plane.proofs.Orient.{orient_swap, orient_sum}
use Rattle.plane.specs.Base.{Side, s0, area_of_base}
use Rattle.plane.specs.Mesh.{Covers, area}
use Rattle.plane.specs.Points.{Pt}
use Rattle.cavities.specs.Nets.{Net, Good, bare, rim, Inv}
use Rattle.cavities.specs.Tilings.{AlongP, φP, world, mesh_of, Whole}
use Rattle.cavities.proofs.Net.{clash}

-- terms that are zero
sum_more : (k n : ℕ) (f : ℕ → ℤ) → k ≤ n → ((i : ℕ) → k ≤ i → f i ≡ pos 0) → sum_to n f ≡ sum_to k f
unfolding sum_to
sum_more k zero f l h = let e : zero ≡ k = omega arith in ap (λ (m : ℕ). sum_to m f) e
sum_more k (suc n) f l h = go (ℕ_discrete k (suc n)) (sum_more k n f)
  where
    go : Dec (k ≡ suc n) → (k ≤ n → ((i : ℕ) → k ≤ i → f i ≡ pos 0) → sum_to n f ≡ sum_to k f) → sum_to n f +ℤ f n ≡ sum_to k f
    go (yes e) ih = ap (λ (m : ℕ). sum_to m f) (sym e)
    go (no e) ih = ap₂ (λ (x y : ℤ). x +ℤ y) (ih (omega arith) h) (h n (omega arith)) ∙ +ℤ_idr (sum_to k f)

dead_cond : (a b : Bool) (z : ℤ) → a ≡ false → cond (a && not b) z (pos 0) ≡ pos 0
dead_cond true b z e = clash refl e
dead_cond false b z e = refl

live_cond : (a b : Bool) (z : ℤ) → a ≡ true → cond b (pos 0) z ≡ cond (a && not b) z (pos 0)
live_cond true true z e = refl
live_cond true false z e = refl
live_cond false b z e = clash e refl

no_live : (b : Bool) → ¬ (b ≡ true) → b ≡ false
no_live true n = absurd (n refl)
no_live false n = refl

module _ (pts : ℕ → Pt ℤ) (base : Side → Pt ℤ) where
  -- the areas' sum is the boundary's
  pub area_rim : (t n : ℕ) (σ : Net) → 3 * t ≤ n → Whole pts base t σ → Good (AlongP pts base) σ → sum_to t (area (mesh_of pts base t σ)) ≡ rim n (φP pts base) σ
  unfolding rim
  area_rim t n σ fits w good =
      sum_cong t (area (mesh_of pts base t σ)) (λ k. f (3 * k) +ℤ f (3 * k + 1) +ℤ f (3 * k + 2))
      (λ k l. sym (ap₂ (λ (x y : ℤ). x +ℤ y) (ap₂ (λ (x y : ℤ). x +ℤ y) (at (3 * k) (w.tri k l).dst0) (at (3 * k + 1) (w.tri k l).dst1))
      (at (3 * k + 2) (w.tri k l).dst2) ∙ orient_sum (pts (σ.org (3 * k))) (pts (σ.org (3 * k + 1))) (pts (σ.org (3 * k + 2))) (base s0))) ∙
      sym (sum_three t f) ∙
      unmated (3 * t) σ.has σ.mate (λ h l e. w.low (σ.mate h) ((good h (w.live h l)).mated e).live)
      (λ h l e. ((good h (w.live h l)).mated e).has) (λ h l e. ((good h (w.live h l)).mated e).back) f
      (λ h l e. ap₂ (φP pts base) ((good h (w.live h l)).mated e).org ((good h (w.live h l)).mated e).dst ∙ orient_swap (pts (σ.dst h)) (pts (σ.org h)) (base s0)) ∙
      sum_cong (3 * t) (λ h. cond (σ.has h) (pos 0) (f h)) (λ h. cond (bare σ h) (f h) (pos 0)) (λ h l. live_cond (σ.live h) (σ.has h) (f h) (w.live h l)) ∙
      sym (sum_more (3 * t) n (λ h. cond (bare σ h) (f h) (pos 0)) fits (λ h l. dead_cond (σ.live h) (σ.has h) (f h) (no_live (σ.live h) (λ e. let k = w.low h e in omega arith))))
    where
      f : ℕ → ℤ
      f h = φP pts base (σ.org h) (σ.dst h)

      at : (h : ℕ) {q : ℕ} → σ.dst h ≡ q → f h ≡ φP pts base (σ.org h) q
      at h e = ap (φP pts base (σ.org h)) e

  -- A TILING: the net's invariant and all triangles in place
  pub net_covers : (t n : ℕ) (must : ℕ → ℕ → Type 0) (point : ℕ → Type 0) (σ : Net) → 3 * t ≤ n → Pos (area_of_base base) → Whole pts base t σ →
      Inv (world pts base n must point) σ → Covers (mesh_of pts base t σ)
  net_covers t n must point σ fits b w inv = record {
    dst0 = λ k l. ap pts (w.tri k l).dst0;
    dst1 = λ k l. ap pts (w.tri k l).dst1;
    dst2 = λ k l. ap pts (w.tri k l).dst2;
    ccw = λ k l. (w.tri k l).ccw;
    mate_low = λ h l e. w.low (σ.mate h) ((inv.good h (w.live h l)).mated e).live;
    mate_has = λ h l e. ((inv.good h (w.live h l)).mated e).has;
    mate_mate = λ h l e. ((inv.good h (w.live h l)).mated e).back;
    mate_org = λ h l e. ap pts ((inv.good h (w.live h l)).mated e).org;
    mate_dst = λ h l e. ap pts ((inv.good h (w.live h l)).mated e).dst;
    on_org = λ h l e. ((inv.good h (w.live h l)).along e).0;
    on_dst = λ h l e. ((inv.good h (w.live h l)).along e).1;
    base_ccw = b;
    areas = area_rim t n σ fits w inv.good ∙ inv.rim;
  }
