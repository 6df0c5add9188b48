-- This is the bridge from a list of triples to COVER. Where the list keeps rules 1, 2, 3 and 5, its partners are found by a search, and it
-- is a tiling. So each place strictly inside the base that is on no edge lies strictly inside one triple's triangle and no other. Assumes nothing.
use mathlib.Core.Path.{◌≡◌, refl, sym, ap, ◌∙◌, subst}
use mathlib.Core.Bool.{Bool, true, false, ◌&&◌}
use mathlib.Core.Logic.{◌⊎◌, inl, inr}
use Prim.Native.Nat.{ℕ, ◌+◌, ◌*◌, ◌<◌}
use native.Mathlib.Decide.{dec_lt}
use lib.Dec.{T, eqb}
use lib.IntN.{ℤ}
use Rattle.algebra.specs.Order.{Pos}
use Rattle.plane.specs.Points.{Pt}
use Rattle.plane.specs.Places.{Place}
use Rattle.plane.specs.Base.{Side, s0, On, InBase, Within, area_of_base}
use Rattle.plane.specs.Halfedges.{nxt}
use Rattle.plane.specs.Mesh.{Mesh, Covers}
use Rattle.plane.specs.Cover.{StrictlyIn, Clear, One, Covered}
use Rattle.plane.specs.Tiles.{OnSide, Reverse, Tiles}
use Rattle.plane.proofs.Halfedges.{nxt0, nxt1, nxt2}
use Rattle.plane.proofs.Cover.{inside_of, covered}
use Rattle.plane.proofs.Inner.{disjoint}
use Rattle.algebra.specs.Tests.{any_to}
use Rattle.plane.proofs.Test.{Reads, reads_as, reads_and, reads_eq, reads_any, decided}

-- ---- the partner of a half-edge

abbrev pub reverseb : (ℕ → ℕ) → ℕ → ℕ → Bool
reverseb org h g = eqb (org g) (org (nxt h)) && eqb (org (nxt g)) (org h)

pub reads_reverse : (k : ℕ) (org : ℕ → ℕ) (h : ℕ) → Reads (any_to (3 * k) (reverseb org h)) ((g : ℕ) × Reverse k org h g)
reads_reverse k org h =
    reads_as (reads_any (3 * k) (λ g. reads_and (reads_eq (org g) (org (nxt h))) (reads_eq (org (nxt g)) (org h))))
    (λ r. (r.0, record { low = r.1; from = r.2.0; to = r.2.1 })) (λ r. (r.0, r.1.low, (r.1.from, r.1.to)))

module _ (k : ℕ) (org : ℕ → ℕ) where
  abbrev pub Partner : ℕ → Type 0
  Partner h = (g : ℕ) × Reverse k org h g

  pub find : (h : ℕ) → Dec (Partner h)
  find h = decided (reads_reverse k org h)

  pub has_of : {h : ℕ} → Dec (Partner h) → Bool
  has_of (yes r) = true
  has_of (no f) = false

  pub mate_of_lem : {h : ℕ} → Dec (Partner h) → ℕ
  mate_of_lem (yes r) = r.0
  mate_of_lem (no f) = 0

module _ {P : ℕ → Pt ℤ} {B : Side → Pt ℤ} {k : ℕ} {org : ℕ → ℕ} (r : Tiles P B k org) where
  -- A half-edge with no partner lies along this side of the base.
  pub side_of : {h : ℕ} → Partner k org h ⊎ OnSide P B (org h) (org (nxt h)) → Side
  side_of (inl x) = s0
  side_of (inr o) = o.0

  pub side_at : (h : ℕ) → Dec (h < 3 * k) → Side
  side_at h (yes l) = side_of (r.met h l)
  side_at h (no f) = s0

  unfoldable pub mesh : Mesh
  mesh = record {
    tris = k;
    org = λ h. P (org h);
    dst = λ h. P (org (nxt h));
    has = λ h. has_of k org (find k org h);
    mate = λ h. mate_of_lem k org (find k org h);
    side = λ h. side_at h (dec_lt h (3 * k));
    base = B;
  }

  -- A partner is the reverse.
  mated : (h : ℕ) (d : Dec (Partner k org h)) → has_of k org d ≡ true → Reverse k org h (mate_of_lem k org d)
  unfolding has_of mate_of_lem
  mated h (yes x) e = x.1
  mated h (no f) e = absurd (subst T (sym e) tt)

  -- A half-edge that has a reverse has it for its partner, since no directed edge stands in two triples.
  has_it : (h g : ℕ) → h < 3 * k → Reverse k org h g → (d : Dec (Partner k org g)) → has_of k org d ≡ true
  unfolding has_of
  has_it h g l x (yes y) = refl
  has_it h g l x (no f) = absurd (f (h, record { low = l; from = sym x.to; to = sym x.from }))

  mate_it : (h g : ℕ) → h < 3 * k → Reverse k org h g → (d : Dec (Partner k org g)) → mate_of_lem k org d ≡ h
  unfolding mate_of_lem
  mate_it h g l x (yes y) = r.once h y.0 l y.1.low (y.1.from ∙ x.to) (y.1.to ∙ x.from)
  mate_it h g l x (no f) = absurd (f (h, record { low = l; from = sym x.to; to = sym x.from }))

  -- Without a partner it lies along a side.
  sided : (h : ℕ) → h < 3 * k → (d : Dec (Partner k org h)) → has_of k org d ≡ false → (c : Dec (h < 3 * k)) →
      On B (side_at h c) (P (org h)) × On B (side_at h c) (P (org (nxt h)))
  unfolding has_of side_at side_of
  sided h l (yes x) e c = absurd (subst T e tt)
  sided h l (no f) e (no n) = absurd (n l)
  sided h l (no f) e (yes l') = go (r.met h l')
    where
      go : (m : Partner k org h ⊎ OnSide P B (org h) (org (nxt h))) → On B (side_of m) (P (org h)) × On B (side_of m) (P (org (nxt h)))
      go (inl x) = absurd (f x)
      go (inr o) = (o.1, o.2)

  module _ (ccw : Pos (area_of_base B)) where
    pub covers : Covers mesh
    unfolding mesh
    covers = record {
      dst0 = λ t l. ap (λ (x : ℕ). P (org x)) (nxt0 t);
      dst1 = λ t l. ap (λ (x : ℕ). P (org x)) (nxt1 t);
      dst2 = λ t l. ap (λ (x : ℕ). P (org x)) (nxt2 t);
      ccw = r.ccw;
      mate_low = λ h l e. (mated h (find k org h) e).low;
      mate_has = λ h l e. has_it h (mate_of_lem k org (find k org h)) l (mated h (find k org h) e) (find k org (mate_of_lem k org (find k org h)));
      mate_mate = λ h l e. mate_it h (mate_of_lem k org (find k org h)) l (mated h (find k org h) e) (find k org (mate_of_lem k org (find k org h)));
      mate_org = λ h l e. ap P (mated h (find k org h) e).from;
      mate_dst = λ h l e. ap P (mated h (find k org h) e).to;
      on_org = λ h l e. (sided h l (find k org h) e (dec_lt h (3 * k))).0;
      on_dst = λ h l e. (sided h l (find k org h) e (dec_lt h (3 * k))).1;
      base_ccw = ccw;
      areas = r.areas;
    }

    -- COVER holds of a list that keeps the rules, over a counterclockwise base.
    pub tiles_cover : (q : Place ℤ) → Pos q.qw → Within B q → Covered k (λ h. P (org h)) q
    unfolding mesh
    tiles_cover q w within = covered mesh covers q w within

    -- A place strictly inside the base that is on no edge lies strictly inside one triangle and no other.
    pub tiles_one : (q : Place ℤ) → Pos q.qw → Within B q → Clear k (λ h. P (org h)) q → One k (StrictlyIn (λ h. P (org h)) q)
    tiles_one q w within = (tiles_cover q w within).one

    -- Where each corner is in the base or on its boundary, no place at all lies strictly inside two triangles.
    pub tiles_apart : ((h : ℕ) → h < 3 * k → InBase B (P (org h))) → (q : Place ℤ) → Pos q.qw →
        (i j : ℕ) → i < k → j < k → StrictlyIn (λ h. P (org h)) q i → StrictlyIn (λ h. P (org h)) q j → i ≡ j
    unfolding mesh
    tiles_apart inner q w i j a b s t =
        disjoint mesh covers inner q w i j a b
        (inside_of q (P (org (3 * i))) (P (org (3 * i + 1))) (P (org (3 * i + 2))) s)
        (inside_of q (P (org (3 * j))) (P (org (3 * j + 1))) (P (org (3 * j + 2))) t)
