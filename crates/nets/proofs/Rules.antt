-- The sheet rules 1 to 5 and 7 of document 01, of a net that is built, and of any tiling at rest. Assumes nothing.
use mathlib.Core.Logic.{◌⊎◌, inl, inr}
use mathlib.Core.Path.{◌≡◌, refl, sym, ap, ap₂, ◌∙◌}
use Prim.Native.Nat.{ℕ, zero, suc, ◌+◌, ◌*◌, ◌/◌, ◌<◌, ◌≤◌}
use native.Mathlib.Decide.{dec_lt}
use native.Mathlib.Omega.{arith}
use lib.IntN.{ℤ, pos}
use Rattle.algebra.proofs.Order.{not_zero, pos_by}
use Rattle.algebra.specs.Order.{Pos, NonNeg}
use Rattle.algebra.specs.Sum.{sum_to}
use Rattle.plane.proofs.Orient.{orient_cyc}
use Rattle.plane.specs.Base.{Side, s0, s1, s2, next}
use Rattle.plane.specs.Determinants.{orient}
use Rattle.plane.specs.Halfedges.{nxt}
use Rattle.plane.specs.Points.{Pt}
use Rattle.plane.specs.Tiles.{OnSide}
use Rattle.nets.specs.Building.{Rules, on_rim, Built}
use Rattle.nets.specs.Flipping.{Wants}
use Rattle.nets.specs.Nets.{Net, dst, prv}
use Rattle.nets.specs.Tilings.{tri, Tiling, Present}
use Rattle.nets.proofs.FlipTile.{tile_apart}
use Rattle.nets.proofs.Interior.{two_sides}
use Rattle.nets.proofs.Locate.{one_edge}
use Rattle.nets.proofs.Net.{to}
use Rattle.nets.proofs.Plain.{wanted}
use Rattle.nets.proofs.Slot.{nxt_in}
use Rattle.nets.proofs.Tile.{from, tri_from}

-- A tiling that step 3 leaves as it is keeps them, with marked edges or without.
module _ {P : ℕ → Pt ℤ} {B : Side → Pt ℤ} {rk : ℕ → ℕ} {n : ℕ} {m : Net} (v : Tiling P B n m)
    (rest : (h g : ℕ) → h < 3 * m.tris → ¬ Wants P rk m h g) (present : Present m n) (count : m.tris + 2 + on_rim P B n ≡ 2 * n)
    (few : m.tris + 5 ≤ 2 * n) (inn : (u : ℕ) → u < n → (i : Side) → NonNeg (orient (B i) (B (next i)) (P u))) where
  empty : (k : ℕ) → k ≡ 0 → sum_to k (tri P m orient) ≡ pos 0
  unfolding sum_to
  empty k e = rw e

  some' : Dec (0 < m.tris) → 1 ≤ m.tris
  some' (yes l) = l
  some' (no k) = absurd (not_zero v.base_ccw (sym v.areas ∙ empty m.tris (let e : m.tris ≡ 0 = omega arith in e)))

  turned : (i : Side) → Pos (orient (B i) (B (next i)) (B (next (next i))))
  turned s0 = v.base_ccw
  turned s1 = pos_by (sym (orient_cyc (B s0) (B s1) (B s2))) v.base_ccw
  turned s2 = pos_by (orient_cyc (B s2) (B s0) (B s1)) v.base_ccw

  at : (x : ℕ) → x < 3 * m.tris → (i : Side) → NonNeg (orient (B i) (B (next i)) (P (m.org x)))
  at x l i = inn (m.org x) (v.corners x l) i

  tri_pos : (h : ℕ) → h < 3 * m.tris → Pos (from P m orient h)
  tri_pos h b = pos_by (sym (tri_from P m orient orient_cyc h)) (v.ccw (h / 3) (let z : h / 3 < m.tris = omega arith in z))

  -- the reverse of an edge is its partner
  is_mate : (h g : ℕ) → h < 3 * m.tris → g < 3 * m.tris → m.org g ≡ dst m h → dst m g ≡ m.org h → (a : ℕ) → m.adj h ≡ a → m.adj h ≡ suc g
  is_mate h g b c e f zero q =
      let o = v.linked.side h b q in
      absurd (two_sides (B o.0) (B (next o.0)) (B (next (next o.0))) (P (m.org h)) (P (m.org (nxt h))) (P (m.org (prv h))) (P (m.org h))
      (turned o.0) (tri_pos h b) (at h b o.0) (at (nxt h) (nxt_in h m.tris b) o.0)
      (at (prv h) (nxt_in (nxt h) m.tris (nxt_in h m.tris b)) o.0) (P (m.org (prv g)))
      (pos_by (ap₂ (λ (x y : ℕ). orient (P x) (P y) (P (m.org (prv g)))) (sym e) (sym f)) (tri_pos g c)) (at (prv g) (nxt_in (nxt g) m.tris (nxt_in g m.tris c)) o.0) o.1 o.2)
  is_mate h g b c e f (suc x) q =
      q ∙ ap suc (sym (one_edge v inn x g (v.linked.low h x b q) c (e ∙ sym (v.linked.from h x b q)) (f ∙ sym (to v.linked h x b q))))

  met' : (h : ℕ) → h < 3 * m.tris → (a : ℕ) → m.adj h ≡ a → ((g : ℕ) × (g < 3 * m.tris) × (m.org g ≡ dst m h) × (dst m g ≡ m.org h)) ⊎ OnSide P B (m.org h) (dst m h)
  met' h b zero q = inr (v.linked.side h b q)
  met' h b (suc g) q = inl (g, v.linked.low h g b q, v.linked.from h g b q, to v.linked h g b q)

  pub rules_at_rest : Rules P B rk n m
  rules_at_rest = record {
    some = some' (dec_lt 0 m.tris);
    few = few;
    low = v.corners;
    distinct = tile_apart v;
    ccw = v.ccw;
    once = one_edge v inn;
    met = λ h b. met' h b (m.adj h) refl;
    present = present;
    areas = v.areas;
    settled = λ h g b c e f z w. rest h g b (wanted v rk h g b (is_mate h g b c e f (m.adj h) refl) z w);
    count = count;
  }

pub rules : {P : ℕ → Pt ℤ} {B : Side → Pt ℤ} {rk : ℕ → ℕ} {n : ℕ} {m : Net} {z : ℕ} → Built P B rk n m z → ((u : ℕ) → u < n → (i : Side) → NonNeg (orient (B i) (B (next i)) (P u))) → Rules P B rk n m
rules s inn = rules_at_rest s.tile s.rest s.present s.count s.few inn
