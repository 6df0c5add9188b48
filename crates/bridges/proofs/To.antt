-- TO THE MODEL: the image of a tiling is ready for a recovery. Assumes nothing.
use mathlib.Core.Bool.{Bool, true, false, cond, ◌&&◌}
use mathlib.Core.Path.{◌≡◌, refl, sym, ap, ◌∙◌, subst}
use Prim.Native.Nat.{ℕ, zero, suc, ◌*◌, ◌≤◌}
use native.Mathlib.Omega.{arith}
use borrow.Author.Tests.{ltb-true, lt-ltb, le-ltb}
use lib.Dec.{T}
use lib.IntN.{ℤ, pos}
use Rattle.plane.proofs.Halfedges.{nxt0, nxt1, nxt2}
use Rattle.plane.proofs.Test.{Reads as Tests, reads_and, reads_eq_z}
use Rattle.plane.specs.Base.{Side, s0, s1, s2, next, On}
use Rattle.plane.specs.Determinants.{orient}
use Rattle.plane.specs.Points.{Pt}
use Rattle.nets.proofs.Net.{to}
use Rattle.nets.specs.Building.{on_side}
use Rattle.nets.specs.Nets.{Net, dst}
use Rattle.nets.specs.Tilings.{Tiling, Marked}
use Rattle.cavities.proofs.Tiles.{area_rim}
use Rattle.cavities.specs.Nets.{Good}
use Rattle.cavities.specs.Tilings.{AlongP, Whole}
use Rattle.cavities.specs.Traces.{Only}
use Rattle.bridges.specs.Images.{has_mate, mate_of, side_of, image, Reads}
use Rattle.bridges.specs.Bridges.{Ready, ToCavity, ToBegun}

-- ---- partners

has_yes : (x : ℕ) → has_mate x ≡ true → x ≡ suc (mate_of x)
has_yes zero e = absurd (subst T (sym e) tt)
has_yes (suc g) e = refl

has_no : (x : ℕ) → has_mate x ≡ false → x ≡ 0
has_no zero e = refl
has_no (suc g) e = absurd (subst T e tt)

-- ---- the side of the base

module _ (B : Side → Pt ℤ) (p q : Pt ℤ) where
  abbrev Both : Side → Type 0
  Both i = On B i p × On B i q

  both : (i : Side) → Tests (on_side B i p && on_side B i q) (Both i)
  both i = reads_and (reads_eq_z (orient (B i) (B (next i)) p) (pos 0)) (reads_eq_z (orient (B i) (B (next i)) q) (pos 0))

  chosen : (x y : Bool) → Tests x (Both s0) → Tests y (Both s1) → (i : Side) → Both i → Both (cond x s0 (cond y s1 s2))
  chosen true y f g i b = f.says tt
  chosen false true f g i b = g.says tt
  chosen false false f g s0 b = absurd (f.shows b)
  chosen false false f g s1 b = absurd (g.shows b)
  chosen false false f g s2 b = b

  side_on : (i : Side) → Both i → Both (side_of B p q)
  unfolding side_of
  side_on i b = chosen (on_side B s0 p && on_side B s0 q) (on_side B s1 p && on_side B s1 q) (both s0) (both s1) i b

-- ---- the net

module _ (P : ℕ → Pt ℤ) (B : Side → Pt ℤ) (m : Net) where
  pub image_reads : Reads m (image P B m)
  unfolding image
  image_reads = record {
    live = λ h l. lt-ltb h (3 * m.tris) l;
    low = λ h e. ltb-true h (3 * m.tris) e;
    org = λ h l. refl;
    dst = λ h l. refl;
    mark = λ h l. refl;
    mated = λ h l e. has_yes (m.adj h) e;
    bare = λ h l e. has_no (m.adj h) e;
  }

  -- the marked edges of the image are those of m
  pub image_only : Only (Marked m) (image P B m)
  unfolding image
  image_only h e z = (h, ltb-true h (3 * m.tris) e, refl, refl, z)

  module _ (k : ℕ) (v : Tiling P B k m) where
    image_good : Good (AlongP P B) (image P B m)
    unfolding image
    image_good h e =
        let l = ltb-true h (3 * m.tris) e in
        record {
          mated = λ y.
              let a = has_yes (m.adj h) y in
              let b = v.linked.back h (mate_of (m.adj h)) l a in
              record {
                live = lt-ltb (mate_of (m.adj h)) (3 * m.tris) (v.linked.low h (mate_of (m.adj h)) l a);
                has = ap has_mate b;
                back = ap mate_of b;
                org = v.linked.from h (mate_of (m.adj h)) l a;
                dst = to v.linked h (mate_of (m.adj h)) l a;
                mark = v.linked.mark h (mate_of (m.adj h)) l a;
              };
          along = λ y.
              let s = v.linked.side h l (has_no (m.adj h) y) in
              side_on B (P (m.org h)) (P (dst m h)) s.0 (s.1, s.2);
        }

    image_whole : Whole P B m.tris (image P B m)
    unfolding image
    image_whole = record {
      live = λ h l. lt-ltb h (3 * m.tris) l;
      low = λ h e. ltb-true h (3 * m.tris) e;
      tri = λ t l. record { dst0 = ap m.org (nxt0 t); dst1 = ap m.org (nxt1 t); dst2 = ap m.org (nxt2 t); ccw = v.ccw t l };
    }

    module _ (N : ℕ) (fits : 3 * m.tris ≤ N) where
      pub image_ready : Ready P B N m (image P B m)
      unfolding image
      image_ready = record {
        base_ccw = v.base_ccw;
        reads = image_reads;
        whole = image_whole;
        inv = record {
          good = image_good;
          below = λ h e. (let l = ltb-true h (3 * m.tris) e in omega arith);
          rim = sym (area_rim P B m.tris N (image P B m) fits image_whole image_good) ∙ v.areas;
          marked = λ p q x. record { at = x.0; live = lt-ltb x.0 (3 * m.tris) x.1; org = x.2; dst = x.3; mark = x.4 };
          corner = λ p x. record { at = x.0; live = lt-ltb x.0 (3 * m.tris) x.1; org = x.2 };
        };
        dead = λ h l. le-ltb h (3 * m.tris) l;
      }

pub to_cavity : ToCavity
to_cavity P B k N m v fits = image_ready P B m k v N fits

pub to_begun : ToBegun
to_begun P B k N F cap n l r PL PR m v a =
    let y = to_cavity P B k N m v a.numbers in
    record {
      base_ccw = y.base_ccw;
      tiled = record {
        inv = y.inv;
        live = y.whole.live;
        tri = y.whole.tri;
        dead = λ x b. y.dead (F.vt x) (a.free x b);
        low = a.low;
        apart = a.apart;
      };
      low = y.whole.low;
      numbers = a.numbers;
      fits = a.fits;
      room = record {
        PL_dead = y.dead PL a.left_free;
        PR_dead = y.dead PR a.right_free;
        PL_vt = a.left_apart;
        PR_vt = a.right_apart;
        PL_low = a.left_low;
        PR_low = a.right_low;
        two = a.two;
      };
      from_a = a.from_a;
      to_b = a.to_b;
    }
