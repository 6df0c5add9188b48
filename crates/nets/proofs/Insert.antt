-- Step 1: a new point of the closed base has a place in a tiling, and the split that it asks for keeps the tiling, makes the point a
-- corner, and leaves nothing that step 3 would flip unwatched. Assumes nothing.
use mathlib.Core.Bool.{Bool, cond}
use mathlib.Core.List.{List, [], ◌∷◌}
use mathlib.Core.Logic.{◌⊎◌, inl, inr}
use mathlib.Core.Path.{◌≡◌, refl, sym, ap, ap₂, ◌∙◌, subst}
use Prim.Native.Nat.{ℕ, zero, suc, ◌+◌, ◌*◌, ◌/◌, ◌<◌, ◌≤◌}
use native.Mathlib.Decide.{ℕ_discrete}
use native.Mathlib.Omega.{arith}
use lib.IntN.{ℤ, pos, neg_ℤ}
use Rattle.algebra.proofs.Order.{pos_by, not_zero}
use Rattle.algebra.proofs.Tests.{by_test}
use Rattle.algebra.specs.Order.{Pos, NonNeg}
use Rattle.plane.proofs.Base.{corner}
use Rattle.plane.proofs.Halfedges.{nxt0, nxt1, nxt2}
use Rattle.plane.proofs.Orient.{orient_cyc, orient_swap}
use Rattle.plane.proofs.Test.{reads_eq_z}
use Rattle.plane.specs.Base.{Side, s0, s1, s2, next}
use Rattle.plane.specs.Determinants.{orient}
use Rattle.plane.specs.Halfedges.{nxt}
use Rattle.plane.specs.Points.{Pt}
use Rattle.plane.specs.Tiles.{OnSide}
use Rattle.algebra.specs.Tests.{eq_z}
use Rattle.tables.proofs.Table.{T_true, not_t_false}
use Rattle.nets.specs.Building.{Holds, OnBase}
use Rattle.nets.specs.Flipping.{Wants}
use Rattle.nets.specs.Location.{Split, inside_split, one_side, both_sides, earlier, edge_case, place_case, along, edge_at, split_in, or_else, less, inserted}
use Rattle.nets.specs.Moves.{after}
use Rattle.nets.specs.Nets.{Net, prv}
use Rattle.nets.specs.Steps.{inside, inside_raw, side_split, side_raw, edge_split, edge_raw}
use Rattle.nets.specs.Tilings.{Tiling, Present, Unmarked}
use Rattle.nets.proofs.EdgeSplit.{edge_surgery, edge_tris}
use Rattle.nets.proofs.FlipTile.{tile_apart, far, mate_from}
use Rattle.nets.proofs.Net.{to}
use Rattle.nets.proofs.Inside.{inside_surgery, inside_tris}
use Rattle.nets.proofs.Interior.{nn_sign, inside_pos, edge_pos}
use Rattle.nets.proofs.Unmarked.{inside_unmarked, side_unmarked, edge_unmarked}
use Rattle.nets.proofs.Walk.{located_by}
use Rattle.nets.proofs.Present.{present_inside, present_side, present_edge}
use Rattle.nets.proofs.SideSplit.{side_surgery, side_tris}
use Rattle.nets.proofs.Slot.{nxt_in, nxt_three}
use Rattle.nets.proofs.SplitTile.{inside_tile, side_tile, side_ap, side_pb, edge_tile, bpd, pad}
use Rattle.nets.proofs.Suspects.{Mem, top, below, Watched, watched_after}
use Rattle.nets.proofs.Tile.{tri_from}

-- strictly inside the base; on a side of it
abbrev pub StrictlyInBase : (Side → Pt ℤ) → Pt ℤ → Type 0
StrictlyInBase B p = (i : Side) → Pos (orient (B i) (B (next i)) p)

-- how many triangles more
pub data More (B : Side → Pt ℤ) (p : Pt ℤ) (m m' : Net) : Type 0 where
  two_more : m'.tris ≡ m.tris + 2 → StrictlyInBase B p → More B p m m'
  one_more : m'.tris ≡ m.tris + 1 → OnBase B p → More B p m m'

-- what point k leaves of a net: the split that it asks for
pub record Inserted (P : ℕ → Pt ℤ) (B : Side → Pt ℤ) (rk : ℕ → ℕ) (k : ℕ) (m : Net) (s : Split) : Type 0 where
  pub tile : Tiling P B (k + 1) s.net
  pub watched : ((h g : ℕ) → h < 3 * m.tris → ¬ Wants P rk m h g) → Watched P rk s.net s.suspects
  pub present : Present m k → Present s.net (k + 1)
  pub count : More B (P k) m s.net
  pub newest : s.newest < s.net.tris
  pub unmarked : Unmarked m → Unmarked s.net

-- the slots of a net, of the surgery's raw net
inside_low : (m : Net) (t p i : ℕ) → i < (inside_raw m t p).tris → i < (inside m t p).tris
unfolding inside after
inside_low m t p i l = l

side_low : (m : Net) (h p i : ℕ) → i < (side_raw m h p).tris → i < (side_split m h p).tris
unfolding side_split after
side_low m h p i l = l

edge_low : (m : Net) (h g p i : ℕ) → i < (edge_raw m h g p).tris → i < (edge_split m h g p).tris
unfolding edge_split after
edge_low m h g p i l = l

module _ {P : ℕ → Pt ℤ} {B : Side → Pt ℤ} {k : ℕ} {m : Net} (rk : ℕ → ℕ) (v : Tiling P B k m) (inn : (u : ℕ) → u < k → (i : Side) → NonNeg (orient (B i) (B (next i)) (P u))) where
  -- the base, from each side
  turned : (i : Side) → Pos (orient (B i) (B (next i)) (B (next (next i))))
  turned s0 = v.base_ccw
  turned s1 = pos_by (sym (orient_cyc (B s0) (B s1) (B s2))) v.base_ccw
  turned s2 = pos_by (orient_cyc (B s2) (B s0) (B s1)) v.base_ccw

  inn_at : (x : ℕ) → x < 3 * m.tris → (i : Side) → NonNeg (orient (B i) (B (next i)) (P (m.org x)))
  inn_at x l i = inn (m.org x) (v.corners x l) i

  nothing : ((h g : ℕ) → h < 3 * m.tris → ¬ Wants P rk m h g) → Watched P rk m []
  nothing f h g b w = absurd (f h g b w)

  kk : k ≤ k + 1
  kk = omega arith

  k1 : k < k + 1
  k1 = omega arith

  never : (i : ℕ) (q : List ℕ) → Mem i [] → Mem i q
  never i q = elim [ ]

  at_inside : (t : ℕ) → t < m.tris → Pos (orient (P (m.org (3 * t))) (P (m.org (3 * t + 1))) (P k)) →
      Pos (orient (P (m.org (3 * t + 1))) (P (m.org (3 * t + 2))) (P k)) → Pos (orient (P (m.org (3 * t + 2))) (P (m.org (3 * t))) (P k)) →
      Inserted P B rk k m (inside_split m t k)
  unfolding inside
  at_inside t tb x y z = record {
    tile = inside_tile v kk t k tb k1 x y z;
    watched = λ f. watched_after v.linked (inside_surgery v.linked (tile_apart v) t k tb) [] q (nothing f)
        (λ i l d. mem i (subst (λ (n : ℕ). i < n) (inside_tris v.linked (tile_apart v) t k tb) (inside_low m t k i l)) d) (λ i n. never i q);
    present = present_inside v.linked (tile_apart v) t tb k;
    unmarked = λ u. inside_unmarked m u t k tb;
    newest = subst (λ (n : ℕ). m.tris + 1 < n) (sym (inside_tris v.linked (tile_apart v) t k tb)) (omega arith);
    count = two_more (inside_tris v.linked (tile_apart v) t k tb)
        (λ i. inside_pos (B i) (B (next i)) (B (next (next i))) (P (m.org (3 * t))) (P (m.org (3 * t + 1))) (P (m.org (3 * t + 2))) (P k)
        (turned i) (v.ccw t tb) (inn_at (3 * t) (omega arith) i) (inn_at (3 * t + 1) (omega arith) i) (inn_at (3 * t + 2) (omega arith) i) x y z);
  }
    where
      q : List ℕ
      q = (m.tris + 1) ∷ m.tris ∷ t ∷ []

      mem : (i : ℕ) → i < m.tris + 2 → (i ≡ t) ⊎ (m.tris ≤ i) → Mem i q
      mem i l (inl e) = subst (λ (x : ℕ). Mem x q) (sym e) (below (below top))
      mem i l (inr b) = go (ℕ_discrete i m.tris)
        where
          go : Dec (i ≡ m.tris) → Mem i q
          go (yes e) = subst (λ (x : ℕ). Mem x q) (sym e) (below top)
          go (no n) = subst (λ (x : ℕ). Mem x q) (let e : m.tris + 1 ≡ i = omega arith in e) top

  -- on the open edge of half-edge h
  module _ (h : ℕ) (hb : h < 3 * m.tris) (x : orient (P (m.org h)) (P (m.org (nxt h))) (P k) ≡ pos 0)
      (y : Pos (orient (P (m.org (nxt h))) (P (m.org (prv h))) (P k))) (z : Pos (orient (P (m.org (prv h))) (P (m.org h)) (P k))) where
    alone : m.adj h ≡ 0 → Inserted P B rk k m (one_side m h k)
    unfolding side_split
    alone e = record {
      tile = side_tile v kk h k hb k1 x y z e;
      watched = λ f. watched_after v.linked (side_surgery v.linked (tile_apart v) h k hb e sa sb) [] q (nothing f)
          (λ i l d. mem i (subst (λ (n : ℕ). i < n) (side_tris v.linked (tile_apart v) h k hb e sa sb) (side_low m h k i l)) d) (λ i n. never i q);
      present = present_side v.linked (tile_apart v) h k hb e sa sb;
      unmarked = λ u. side_unmarked m u h k hb;
      newest = subst (λ (n : ℕ). m.tris < n) (sym (side_tris v.linked (tile_apart v) h k hb e sa sb)) (omega arith);
      count = one_more (side_tris v.linked (tile_apart v) h k hb e sa sb) (sa.0, sa.2);
    }
      where
        sa : OnSide P B (m.org h) k
        sa = side_ap v kk h k hb k1 x y z e

        sb : OnSide P B k (m.org (nxt h))
        sb = side_pb v kk h k hb k1 x y z e

        q : List ℕ
        q = m.tris ∷ (h / 3) ∷ []

        mem : (i : ℕ) → i < m.tris + 1 → (i ≡ h / 3) ⊎ (m.tris ≤ i) → Mem i q
        mem i l (inl s) = subst (λ (x : ℕ). Mem x q) (sym s) (below top)
        mem i l (inr b) = subst (λ (x : ℕ). Mem x q) (let s : m.tris ≡ i = omega arith in s) top

    between : (g : ℕ) → m.adj h ≡ suc g → Inserted P B rk k m (both_sides m h g k)
    unfolding edge_split
    between g e = record {
      tile = edge_tile v kk h k hb k1 x y z g e;
      watched = λ f. watched_after v.linked (edge_surgery v.linked (tile_apart v) h g hb e cd k) [] q (nothing f)
          (λ i l d. mem i (subst (λ (n : ℕ). i < n) (edge_tris v.linked (tile_apart v) h g hb e cd k) (edge_low m h g k i l)) d) (λ i n. never i q);
      present = present_edge v.linked (tile_apart v) h g hb e cd k;
      unmarked = λ u. edge_unmarked m u h g k hb gb;
      newest = subst (λ (n : ℕ). m.tris + 1 < n) (sym (edge_tris v.linked (tile_apart v) h g hb e cd k)) (omega arith);
      count = two_more (edge_tris v.linked (tile_apart v) h g hb e cd k)
          (λ i. edge_pos (B i) (B (next i)) (B (next (next i))) (P (m.org h)) (P (m.org (nxt h))) (P (m.org (prv h))) (P k) (turned i) abc
          (inn_at h hb i) (inn_at (nxt h) nb i) (inn_at (prv h) (nxt_in (nxt h) m.tris nb) i) (P (m.org (prv g))) bad
          (inn_at (prv g) (nxt_in (nxt g) m.tris (nxt_in g m.tris gb)) i) x y z);
    }
      where
        cd : ¬ (m.org (prv h) ≡ m.org (prv g))
        cd = far v h g hb e

        nb : nxt h < 3 * m.tris
        nb = nxt_in h m.tris hb

        gb : g < 3 * m.tris
        gb = v.linked.low h g hb e

        abc : Pos (orient (P (m.org h)) (P (m.org (nxt h))) (P (m.org (prv h))))
        abc = pos_by (sym (tri_from P m orient orient_cyc h)) (v.ccw (h / 3) (let w : h / 3 < m.tris = omega arith in w))

        bad : Pos (orient (P (m.org (nxt h))) (P (m.org h)) (P (m.org (prv g))))
        bad = pos_by (sym (tri_from P m orient orient_cyc g ∙ mate_from v h g hb e P orient)) (v.ccw (g / 3) (let l = gb in let w : g / 3 < m.tris = omega arith in w))

        q : List ℕ
        q = (m.tris + 1) ∷ (g / 3) ∷ m.tris ∷ (h / 3) ∷ []

        mem : (i : ℕ) → i < m.tris + 2 → (i ≡ h / 3) ⊎ ((i ≡ g / 3) ⊎ (m.tris ≤ i)) → Mem i q
        mem i l (inl s) = subst (λ (x : ℕ). Mem x q) (sym s) (below (below (below top)))
        mem i l (inr (inl s)) = subst (λ (x : ℕ). Mem x q) (sym s) (below top)
        mem i l (inr (inr b)) = pick (ℕ_discrete i m.tris)
          where
            pick : Dec (i ≡ m.tris) → Mem i q
            pick (yes s) = subst (λ (x : ℕ). Mem x q) (sym s) (below (below top))
            pick (no n) = subst (λ (x : ℕ). Mem x q) (let s : m.tris + 1 ≡ i = omega arith in s) top

    -- the same from the other side
    module _ (g : ℕ) (e : m.adj h ≡ suc g) where
      gb' : g < 3 * m.tris
      gb' = v.linked.low h g hb e

      on' : orient (P (m.org g)) (P (m.org (nxt g))) (P k) ≡ pos 0
      on' = ap₂ (λ (a b : ℕ). orient (P a) (P b) (P k)) (v.linked.from h g hb e) (to v.linked h g hb e) ∙ orient_swap (P (m.org (nxt h))) (P (m.org h)) (P k) ∙ ap neg_ℤ x

      left' : Pos (orient (P (m.org (nxt g))) (P (m.org (prv g))) (P k))
      left' = pos_by (ap (λ (a : ℕ). orient (P a) (P (m.org (prv g))) (P k)) (to v.linked h g hb e) ∙ sym (orient_cyc (P k) (P (m.org h)) (P (m.org (prv g))))) (pad v kk h k hb k1 x y z g e)

      right' : Pos (orient (P (m.org (prv g))) (P (m.org g)) (P k))
      right' = pos_by (ap (λ (b : ℕ). orient (P (m.org (prv g))) (P b) (P k)) (v.linked.from h g hb e) ∙ orient_cyc (P (m.org (prv g))) (P (m.org (nxt h))) (P k)) (bpd v kk h k hb k1 x y z g e)

  -- of two triangles the one first in house order is split first
  at_edge : (h : ℕ) → h < 3 * m.tris → orient (P (m.org h)) (P (m.org (nxt h))) (P k) ≡ pos 0 →
      Pos (orient (P (m.org (nxt h))) (P (m.org (prv h))) (P k)) → Pos (orient (P (m.org (prv h))) (P (m.org h)) (P k)) → Inserted P B rk k m (edge_case m h (m.adj h) k)
  at_edge h hb x y z = go (m.adj h) refl
    where
      go : (a : ℕ) → m.adj h ≡ a → Inserted P B rk k m (edge_case m h a k)
      go zero e = alone h hb x y z e
      go (suc g) e =
          by_test (earlier m (g / 3) (h / 3))
          (λ t. subst (λ (b : Bool). Inserted P B rk k m (cond b (both_sides m g h k) (both_sides m h g k))) (sym t)
          (between g (gb' h hb x y z g e) (on' h hb x y z g e) (left' h hb x y z g e) (right' h hb x y z g e) h (v.linked.back h g hb e)))
          (λ t. subst (λ (b : Bool). Inserted P B rk k m (cond b (both_sides m g h k) (both_sides m h g k))) (sym t) (between h hb x y z g e))

  -- ---- where the point lies in its triangle

  along_yes : (h : ℕ) → orient (P (m.org h)) (P (m.org (nxt h))) (P k) ≡ pos 0 → along P m (P k) h ≡ suc h
  along_yes h e = ap (λ (b : Bool). cond b (suc h) 0) (T_true (eq_z (orient (P (m.org h)) (P (m.org (nxt h))) (P k)) (pos 0))
      ((reads_eq_z (orient (P (m.org h)) (P (m.org (nxt h))) (P k)) (pos 0)).shows e))

  along_no : (h : ℕ) → Pos (orient (P (m.org h)) (P (m.org (nxt h))) (P k)) → along P m (P k) h ≡ 0
  along_no h o = ap (λ (b : Bool). cond b (suc h) 0) (not_t_false (eq_z (orient (P (m.org h)) (P (m.org (nxt h))) (P k)) (pos 0))
      (λ t. not_zero o ((reads_eq_z (orient (P (m.org h)) (P (m.org (nxt h))) (P k)) (pos 0)).says t)))

  module _ (fresh : (u : ℕ) → u < k → ¬ (P k ≡ P u)) where
    -- the new point is no corner: two of the three are not both zero
    apart : (a b c : ℕ) → b < k → Pos (orient (P a) (P b) (P c)) → orient (P a) (P b) (P k) ≡ pos 0 → orient (P b) (P c) (P k) ≡ pos 0 → ⊥
    apart a b c l o e f = fresh b l (corner (P a) (P b) (P c) o (P k) e f)

    module _ (t : ℕ) (tb : t < m.tris) where
      abbrev O : ℕ → ℤ
      O h = orient (P (m.org h)) (P (m.org (nxt h))) (P k)

      l0 : 3 * t < 3 * m.tris
      l0 = omega arith

      l1 : 3 * t + 1 < 3 * m.tris
      l1 = omega arith

      l2 : 3 * t + 2 < 3 * m.tris
      l2 = omega arith

      turned_edge : (h a b : ℕ) → h < 3 * m.tris → nxt h ≡ a → nxt a ≡ b → O h ≡ pos 0 → Pos (O a) → Pos (O b) → Inserted P B rk k m (edge_case m h (m.adj h) k)
      turned_edge h a b hb ea eb x y z =
          at_edge h hb x (subst (λ (u : ℕ). Pos (O u)) (sym ea) y)
          (pos_by (ap (λ (u : ℕ). orient (P (m.org (prv h))) (P (m.org u)) (P k)) (sym (nxt_three h))) (subst (λ (u : ℕ). Pos (O u)) (sym (ap nxt ea ∙ eb)) z))

      on_edge : (h : ℕ) → edge_at P m (P k) t ≡ suc h → Inserted P B rk k m (edge_case m h (m.adj h) k) → Inserted P B rk k m (split_in P m t k)
      unfolding split_in
      on_edge h e i = subst (λ (x : ℕ). Inserted P B rk k m (place_case m t x k)) (sym e) i

      abc : Pos (orient (P (m.org (3 * t))) (P (m.org (3 * t + 1))) (P (m.org (3 * t + 2))))
      abc = v.ccw t tb

      -- two of the three are not both zero
      not_both01 : O (3 * t) ≡ pos 0 → O (3 * t + 1) ≡ pos 0 → ⊥
      not_both01 x y = apart (m.org (3 * t)) (m.org (3 * t + 1)) (m.org (3 * t + 2)) (v.corners (3 * t + 1) l1) abc (rw (nxt0 t) at x) (rw (nxt1 t) at y)

      not_both12 : O (3 * t + 1) ≡ pos 0 → O (3 * t + 2) ≡ pos 0 → ⊥
      not_both12 x y = apart (m.org (3 * t + 1)) (m.org (3 * t + 2)) (m.org (3 * t)) (v.corners (3 * t + 2) l2)
          (pos_by (sym (orient_cyc (P (m.org (3 * t))) (P (m.org (3 * t + 1))) (P (m.org (3 * t + 2))))) abc) (rw (nxt1 t) at x) (rw (nxt2 t) at y)

      not_both20 : O (3 * t + 2) ≡ pos 0 → O (3 * t) ≡ pos 0 → ⊥
      not_both20 x y = apart (m.org (3 * t + 2)) (m.org (3 * t)) (m.org (3 * t + 1)) (v.corners (3 * t) l0)
          (pos_by (orient_cyc (P (m.org (3 * t + 2))) (P (m.org (3 * t))) (P (m.org (3 * t + 1)))) abc) (rw (nxt2 t) at x) (rw (nxt0 t) at y)

      by_signs : Pos (O (3 * t)) ⊎ (O (3 * t) ≡ pos 0) → Pos (O (3 * t + 1)) ⊎ (O (3 * t + 1) ≡ pos 0) → Pos (O (3 * t + 2)) ⊎ (O (3 * t + 2) ≡ pos 0) → Inserted P B rk k m (split_in P m t k)
      unfolding split_in edge_at
      by_signs (inl x) (inl y) (inl z) =
          subst (λ (u : ℕ). Inserted P B rk k m (place_case m t u k))
          (sym (ap (λ (u : ℕ). or_else u (or_else (along P m (P k) (3 * t + 1)) (along P m (P k) (3 * t + 2)))) (along_no (3 * t) x)
          ∙ ap (λ (u : ℕ). or_else u (along P m (P k) (3 * t + 2))) (along_no (3 * t + 1) y) ∙ along_no (3 * t + 2) z))
          (at_inside t tb (rw (nxt0 t) at x) (rw (nxt1 t) at y) (rw (nxt2 t) at z))
      by_signs (inr x) (inl y) (inl z) =
          on_edge (3 * t) (ap (λ (u : ℕ). or_else u (or_else (along P m (P k) (3 * t + 1)) (along P m (P k) (3 * t + 2)))) (along_yes (3 * t) x))
          (turned_edge (3 * t) (3 * t + 1) (3 * t + 2) l0 (nxt0 t) (nxt1 t) x y z)
      by_signs (inl x) (inr y) (inl z) =
          on_edge (3 * t + 1)
          (ap (λ (u : ℕ). or_else u (or_else (along P m (P k) (3 * t + 1)) (along P m (P k) (3 * t + 2)))) (along_no (3 * t) x)
          ∙ ap (λ (u : ℕ). or_else u (along P m (P k) (3 * t + 2))) (along_yes (3 * t + 1) y))
          (turned_edge (3 * t + 1) (3 * t + 2) (3 * t) l1 (nxt1 t) (nxt2 t) y z x)
      by_signs (inl x) (inl y) (inr z) =
          on_edge (3 * t + 2)
          (ap (λ (u : ℕ). or_else u (or_else (along P m (P k) (3 * t + 1)) (along P m (P k) (3 * t + 2)))) (along_no (3 * t) x)
          ∙ ap (λ (u : ℕ). or_else u (along P m (P k) (3 * t + 2))) (along_no (3 * t + 1) y) ∙ along_yes (3 * t + 2) z)
          (turned_edge (3 * t + 2) (3 * t) (3 * t + 1) l2 (nxt2 t) (nxt0 t) z x y)
      by_signs (inr x) (inr y) z = absurd (not_both01 x y)
      by_signs (inr x) (inl y) (inr z) = absurd (not_both20 z x)
      by_signs (inl x) (inr y) (inr z) = absurd (not_both12 y z)

      place : Holds P m (P k) t → Inserted P B rk k m (split_in P m t k)
      place hd =
          by_signs (nn_sign (O (3 * t)) (rw (nxt0 t) hd.ab)) (nn_sign (O (3 * t + 1)) (rw (nxt1 t) hd.bc)) (nn_sign (O (3 * t + 2)) (rw (nxt2 t) hd.ca))

    -- the next point goes in
    pub insert : (within : (i : Side) → NonNeg (orient (B i) (B (next i)) (P k))) (z : ℕ) → z < m.tris → Inserted P B rk k m (inserted P m z k)
    unfolding inserted
    insert within z zb =
        let r = located_by v (P k) within z zb in
        subst (λ (x : ℕ). Inserted P B rk k m (split_in P m (less x) k)) (sym r.2) (place r.0 r.1 r.3)
