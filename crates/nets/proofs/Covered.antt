-- A tiling covers its base: the theorem of the crate cover, for a net. Assumes nothing.
use mathlib.Core.Bool.{Bool, true, false}
use mathlib.Core.Path.{◌≡◌, refl, sym, ap, subst}
use Prim.Native.Nat.{ℕ, zero, suc}
use lib.Dec.{T}
use lib.IntN.{ℤ, pos, ℤ_discrete}
use Rattle.plane.proofs.Halfedges.{nxt0, nxt1, nxt2}
use Rattle.plane.specs.Base.{Side, s0, s1, s2, next, On}
use Rattle.plane.specs.Determinants.{orient}
use Rattle.plane.specs.Mesh.{Mesh, Covers}
use Rattle.plane.specs.Points.{Pt}
use Rattle.nets.specs.Nets.{Net, dst}
use Rattle.nets.specs.Tilings.{Tiling}
use Rattle.nets.proofs.Net.{to}

pub some : ℕ → Bool
some zero = false
some (suc g) = true

pub less : ℕ → ℕ
less zero = zero
less (suc g) = g

some_yes : (x : ℕ) → some x ≡ true → x ≡ suc (less x)
unfolding some less
some_yes zero e = absurd (subst T (sym e) tt)
some_yes (suc g) e = refl

some_no : (x : ℕ) → some x ≡ false → x ≡ 0
unfolding some
some_no zero e = refl
some_no (suc g) e = absurd (subst T e tt)

-- the side that two points lie on
both : (B : Side → Pt ℤ) (i : Side) (a b : Pt ℤ) → Dec (On B i a × On B i b)
both B i a b = go (ℤ_discrete (orient (B i) (B (next i)) a) (pos 0)) (ℤ_discrete (orient (B i) (B (next i)) b) (pos 0))
  where
    go : Dec (On B i a) → Dec (On B i b) → Dec (On B i a × On B i b)
    go (yes e) (yes k) = yes (e, k)
    go (yes e) (no k) = no (λ p. k p.1)
    go (no e) d = no (λ p. e p.0)

pick : {X Y : Type 0} → Dec X → Dec Y → Side
pick (yes x) d = s0
pick (no x) (yes y) = s1
pick (no x) (no y) = s2

pub side_of : (Side → Pt ℤ) → Pt ℤ → Pt ℤ → Side
side_of B a b = pick (both B s0 a b) (both B s1 a b)

pick_on : (B : Side → Pt ℤ) (a b : Pt ℤ) (d : Dec (On B s0 a × On B s0 b)) (d' : Dec (On B s1 a × On B s1 b)) (i : Side) → On B i a → On B i b → On B (pick d d') a × On B (pick d d') b
unfolding pick
pick_on B a b (yes x) d' i p q = x
pick_on B a b (no x) (yes y) i p q = y
pick_on B a b (no x) (no y) s0 p q = absurd (x (p, q))
pick_on B a b (no x) (no y) s1 p q = absurd (y (p, q))
pick_on B a b (no x) (no y) s2 p q = (p, q)

unfoldable pub mesh : (ℕ → Pt ℤ) → (Side → Pt ℤ) → Net → Mesh
mesh P B m = record {
  tris = m.tris;
  org = λ h. P (m.org h);
  dst = λ h. P (dst m h);
  has = λ h. some (m.adj h);
  mate = λ h. less (m.adj h);
  side = λ h. side_of B (P (m.org h)) (P (dst m h));
  base = B;
}

module _ {P : ℕ → Pt ℤ} {B : Side → Pt ℤ} {k : ℕ} {m : Net} (v : Tiling P B k m) where
  pub covers : Covers (mesh P B m)
  unfolding mesh some less side_of
  covers = record {
    dst0 = λ t l. ap (λ (x : ℕ). P (m.org x)) (nxt0 t);
    dst1 = λ t l. ap (λ (x : ℕ). P (m.org x)) (nxt1 t);
    dst2 = λ t l. ap (λ (x : ℕ). P (m.org x)) (nxt2 t);
    ccw = v.ccw;
    mate_low = λ h l e. v.linked.low h (less (m.adj h)) l (some_yes (m.adj h) e);
    mate_has = λ h l e. ap some (v.linked.back h (less (m.adj h)) l (some_yes (m.adj h) e));
    mate_mate = λ h l e. ap less (v.linked.back h (less (m.adj h)) l (some_yes (m.adj h) e));
    mate_org = λ h l e. ap P (v.linked.from h (less (m.adj h)) l (some_yes (m.adj h) e));
    mate_dst = λ h l e. ap P (to v.linked h (less (m.adj h)) l (some_yes (m.adj h) e));
    on_org = λ h l e. (let s = v.linked.side h l (some_no (m.adj h) e) in
        (pick_on B (P (m.org h)) (P (dst m h)) (both B s0 (P (m.org h)) (P (dst m h))) (both B s1 (P (m.org h)) (P (dst m h))) s.0 s.1 s.2).0);
    on_dst = λ h l e. (let s = v.linked.side h l (some_no (m.adj h) e) in
        (pick_on B (P (m.org h)) (P (dst m h)) (both B s0 (P (m.org h)) (P (dst m h))) (both B s1 (P (m.org h)) (P (dst m h))) s.0 s.1 s.2).1);
    base_ccw = v.base_ccw;
    areas = v.areas;
  }
