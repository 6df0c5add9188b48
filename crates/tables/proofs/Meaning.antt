-- Demand 3: what an accepted list means. Every place strictly inside the base and on no edge is in one triangle and no other, each demanded
-- line is an edge, and no other inner edge has a far corner inside its neighbour's circle. Assumes nothing.
use mathlib.Core.Path.{sym, subst}
use mathlib.Core.List.{List}
use Prim.Native.Nat.{ℕ, ◌*◌, ◌+◌, ◌<◌}
use lib.Dec.{T}
use lib.IntN.{ℤ}
use Rattle.algebra.specs.Order.{Pos}
use Rattle.algebra.proofs.Order.{pos_by}
use Rattle.algebra.proofs.Sum.{thirds}
use Rattle.plane.specs.Points.{Pt}
use Rattle.plane.specs.Determinants.{orient, incircle}
use Rattle.plane.specs.Halfedges.{nxt}
use Rattle.plane.proofs.Halfedges.{nxt0, nxt1, nxt2}
use Rattle.plane.proofs.Orient.{orient_cyc}
use Rattle.plane.proofs.Convex.{convex_a, convex_b}
use Rattle.plane.proofs.Tiles.{tiles_one}
use Rattle.plane.proofs.Sign.{posb_yes}
use Rattle.tables.specs.Data.{point}
use Rattle.tables.specs.Rules.{wins, flips, triples, corner, corner_point, reverse, is_pair}
use Rattle.tables.specs.Meaning.{Demand3}
use Rattle.tables.proofs.Table.{true_t, accepted, base_turns}
use Rattle.tables.proofs.Rules.{Rule1, Rule7, reads_edge, reads_1, reads_2, reads_3, reads_5, reads_6, reads_7, tiles}

-- Each edge's triangle is counterclockwise, read from that edge on.
pub edge_turns : (ps : List ℤ) (xs : List ℕ) → Rule1 ps xs → (h : ℕ) → h < 3 * triples xs →
    Pos (orient (corner_point ps xs h) (corner_point ps xs (nxt h)) (corner_point ps xs (nxt (nxt h))))
edge_turns ps xs r =
    thirds (triples xs) (λ (h : ℕ). Pos (orient (o h) (o (nxt h)) (o (nxt (nxt h)))))
    (λ t l. rw (nxt0 t, nxt1 t) (r.proper t l).turns)
    (λ t l. rw (nxt1 t, nxt2 t) (pos_by (sym (orient_cyc (o (3 * t)) (o (3 * t + 1)) (o (3 * t + 2)))) (r.proper t l).turns))
    (λ t l. rw (nxt2 t, nxt0 t) (pos_by (orient_cyc (o (3 * t + 2)) (o (3 * t)) (o (3 * t + 1))) (r.proper t l).turns))
  where
    o : ℕ → Pt ℤ
    o h = corner_point ps xs h

-- Step 3 flips an edge of two counterclockwise triangles where the far corner is strictly inside the circle.
pub flips_inside : (ps : List ℤ) (a b c d : ℕ) →
    Pos (orient (point ps a) (point ps b) (point ps c)) → Pos (orient (point ps b) (point ps a) (point ps d)) →
    Pos (incircle (point ps a) (point ps b) (point ps c) (point ps d)) → T (flips ps a b c d)
unfolding flips wins
flips_inside ps a b c d h k i =
    rw (
      posb_yes (incircle (point ps a) (point ps b) (point ps c) (point ps d)) i,
      posb_yes (orient (point ps a) (point ps d) (point ps c)) (convex_a (point ps a) (point ps b) (point ps c) (point ps d) h k i),
      posb_yes (orient (point ps d) (point ps b) (point ps c)) (convex_b (point ps a) (point ps b) (point ps c) (point ps d) h k i),
    )
    tt

-- An inner edge that is no pair and that step 3 would not flip has no far corner strictly inside the circle.
not_inside : (ps : List ℤ) (qs xs : List ℕ) → Rule1 ps xs → Rule7 ps qs xs →
    (h g : ℕ) → h < 3 * triples xs → g < 3 * triples xs → T (reverse xs h g) → ¬ T (is_pair qs (corner xs h) (corner xs (nxt h))) →
    ¬ Pos (incircle (corner_point ps xs h) (corner_point ps xs (nxt h)) (corner_point ps xs (nxt (nxt h))) (corner_point ps xs (nxt (nxt g))))
not_inside ps qs xs r1 r7 h g l m e f i =
    let p = (reads_edge xs g (corner xs (nxt h)) (corner xs h)).says e in
    r7 h g l m e f
    (flips_inside ps (corner xs h) (corner xs (nxt h)) (corner xs (nxt (nxt h))) (corner xs (nxt (nxt g))) (edge_turns ps xs r1 h l)
    (subst (λ (v : ℕ). Pos (orient (corner_point ps xs (nxt h)) (point ps v) (corner_point ps xs (nxt (nxt g))))) p.1
    (subst (λ (u : ℕ). Pos (orient (point ps u) (corner_point ps xs (nxt g)) (corner_point ps xs (nxt (nxt g))))) p.0 (edge_turns ps xs r1 g m))) i)

pub demand3 : Demand3
demand3 ps qs xs work e =
    let a = accepted ps qs xs work e in
    let r1 = (reads_1 ps xs).says (true_t a.keeps1) in
    let r2 = (reads_2 xs).says (true_t a.keeps2) in
    let r3 = (reads_3 ps xs).says (true_t a.keeps3) in
    let r5 = (reads_5 ps xs).says (true_t a.keeps5) in
    record {
      covered = tiles_one (tiles ps xs r1 r2 r3 r5) (base_turns a.rows_pass);
      lines = (reads_6 qs xs).says (true_t a.keeps6);
      empty = not_inside ps qs xs r1 ((reads_7 ps qs xs).says (true_t a.keeps7));
    }
