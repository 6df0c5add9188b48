-- What a net has beyond its triangles does not matter: two nets that agree on the half-edges of their triangles have the same pairs in. Assumes
-- nothing.
use mathlib.Core.List.{List}
use mathlib.Core.Logic.{◌⊎◌, inl, inr}
use mathlib.Core.Path.{◌≡◌, refl, sym, ap, ap₂, ◌∙◌, subst}
use Prim.Native.Nat.{ℕ, suc, ◌+◌, ◌*◌, ◌≤◌, ◌<◌}
use native.Mathlib.Omega.{arith}
use lib.IntN.{ℤ}
use Rattle.algebra.proofs.Order.{pos_by}
use Rattle.algebra.proofs.Sum.{sum_cong}
use Rattle.plane.proofs.Halfedges.{third, third1, third2}
use Rattle.plane.specs.Base.{Side}
use Rattle.plane.specs.Determinants.{orient}
use Rattle.plane.specs.Halfedges.{nxt}
use Rattle.plane.specs.Points.{Pt}
use Rattle.plane.specs.Tiles.{OnSide}
use Rattle.tables.specs.Data.{point_count, point, end_a, end_b, base}
use Rattle.tables.specs.Rules.{rank}
use Rattle.nets.specs.Flipping.{Gains, Wants}
use Rattle.nets.specs.Nets.{Net, Linked, dst, prv}
use Rattle.nets.specs.Tilings.{tri, Tiling, Present}
use Rattle.nets.proofs.Slot.{nxt_in}
use Rattle.sheets.specs.Keeps.{EdgeOf}
use Rattle.stages.specs.Stages.{Fixed, AmongPairs, Paired}

-- the triangles are as many, and of their half-edges the two nets have the same starts, partners and marks
pub record Agrees (m m' : Net) : Type 0 where
  pub tris : m'.tris ≡ m.tris
  pub org : (h : ℕ) → h < 3 * m.tris → m'.org h ≡ m.org h
  pub adj : (h : ℕ) → h < 3 * m.tris → m'.adj h ≡ m.adj h
  pub con : (h : ℕ) → h < 3 * m.tris → m'.con h ≡ m.con h

module _ {m m' : Net} (a : Agrees m m') where
  low : {h : ℕ} → h < 3 * m'.tris → h < 3 * m.tris
  low b = let e = a.tris in omega arith

  back : {h : ℕ} → h < 3 * m.tris → h < 3 * m'.tris
  back b = let e = a.tris in omega arith

  dst_is : (h : ℕ) → h < 3 * m.tris → dst m' h ≡ dst m h
  dst_is h b = a.org (nxt h) (nxt_in h m.tris b)

  prv_is : (h : ℕ) → h < 3 * m.tris → m'.org (prv h) ≡ m.org (prv h)
  prv_is h b = a.org (prv h) (nxt_in (nxt h) m.tris (nxt_in h m.tris b))

  linked_too : {S : ℕ → ℕ → Type 0} → Linked S m → Linked S m'
  linked_too {S} l = record {
    low = λ h g b e. back (l.low h g (low b) (was h (low b) e));
    back = λ h g b e. (let k = was h (low b) e in a.adj g (l.low h g (low b) k) ∙ l.back h g (low b) k);
    from = λ h g b e. (let k = was h (low b) e in a.org g (l.low h g (low b) k) ∙ l.from h g (low b) k ∙ sym (dst_is h (low b)));
    mark = λ h g b e. (let k = was h (low b) e in a.con g (l.low h g (low b) k) ∙ l.mark h g (low b) k ∙ sym (a.con h (low b)));
    side = λ h b e. subst (λ (u : ℕ). S u (dst m' h)) (sym (a.org h (low b))) (subst (S (m.org h)) (sym (dst_is h (low b))) (l.side h (low b) (sym (a.adj h (low b)) ∙ e)));
  }
    where
      was : (h : ℕ) → h < 3 * m.tris → {x : ℕ} → m'.adj h ≡ x → m.adj h ≡ x
      was h b e = sym (a.adj h b) ∙ e

  module _ (P : ℕ → Pt ℤ) where
    tri_is : (t : ℕ) → t < m.tris → tri P m' orient t ≡ tri P m orient t
    tri_is t b = ap3 (a.org (3 * t) (third t m.tris b)) (a.org (3 * t + 1) (third1 t m.tris b)) (a.org (3 * t + 2) (third2 t m.tris b))
      where
        ap3 : {u u' v v' w w' : ℕ} → u ≡ u' → v ≡ v' → w ≡ w' → orient (P u) (P v) (P w) ≡ orient (P u') (P v') (P w')
        ap3 i j k = cc

    pub tiling_too : {B : Side → Pt ℤ} {n : ℕ} → Tiling P B n m → Tiling P B n m'
    tiling_too {B} {n} t = record {
      linked = linked_too t.linked;
      corners = λ h b. rw (a.org h (low b)) (t.corners h (low b));
      ccw = λ s b. pos_by (tri_is s (let e = a.tris in omega arith)) (t.ccw s (let e = a.tris in omega arith));
      base_ccw = t.base_ccw;
      areas = rw a.tris (sum_cong m.tris (tri P m' orient) (tri P m orient) tri_is ∙ t.areas);
    }

    wants_too : {rk : ℕ → ℕ} (h g : ℕ) → h < 3 * m.tris → g < 3 * m.tris → Wants P rk m' h g → Wants P rk m h g
    wants_too {rk} h g b k w = record {
      pair = sym (a.adj h b) ∙ w.pair;
      free = sym (a.con h b) ∙ w.free;
      gain = rw (← a.org h b, ← dst_is h b, ← prv_is h b, ← prv_is g k) w.gain;
      ccw_t = rw (← a.org h b, ← prv_is h b, ← prv_is g k) w.ccw_t;
      ccw_n = rw (← dst_is h b, ← prv_is h b, ← prv_is g k) w.ccw_n;
    }

  edge_too : {u v : ℕ} (h : ℕ) → h < 3 * m.tris → EdgeOf m h u v → EdgeOf m' h u v
  edge_too h b (inl e) = inl (a.org h b ∙ e.0, dst_is h b ∙ e.1)
  edge_too h b (inr e) = inr (a.org h b ∙ e.0, dst_is h b ∙ e.1)

  pub paired_too : {ps : List ℤ} {qs : List ℕ} {k : ℕ} → Paired ps qs k m → Paired ps qs k m'
  paired_too {ps} {qs} {k} p = record {
    tile = tiling_too (point ps) p.tile;
    rest = λ h g b w. p.rest h g (low b) (wants_too (point ps) h g (low b) (p.tile.linked.low h g (low b) (sym (a.adj h (low b)) ∙ w.pair)) w);
    present = λ u l. (let x = p.present u l in (x.0, back x.1, a.org x.0 x.1 ∙ x.2));
    count = rw a.tris p.count;
    few = rw a.tris p.few;
    pairs = λ i l. (let x = p.pairs i l in (x.0, back x.1, edge_too x.0 x.1 x.2, λ e. x.3 (sym (a.con x.0 x.1) ∙ e)));
    marks = λ h b c. subst (λ (u : ℕ). AmongPairs qs k u (dst m' h)) (sym (a.org h (low b)))
        (subst (λ (v : ℕ). AmongPairs qs k (m.org h) v) (sym (dst_is h (low b))) (p.marks h (low b) (λ e. c (a.con h (low b) ∙ e))));
  }
