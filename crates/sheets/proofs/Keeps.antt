-- The list of a finished net's triangles keeps the eight sheet rules, and where no row of the table refuses, the verdict on it is yes.
-- Assumes nothing.
use mathlib.Core.Bool.{Bool, false, not, ◌||◌}
use mathlib.Core.List.{List}
use mathlib.Core.Logic.{◌⊎◌, inl, inr}
use mathlib.Core.Path.{◌≡◌, sym, ap, ◌∙◌, subst}
use Prim.Native.Nat.{ℕ, ◌+◌, ◌*◌, ◌%◌, ◌≤◌, ◌<◌, min, max}
use native.Mathlib.Decide.{dec_lt, ℕ_discrete}
use native.Mathlib.Omega.{arith}
use borrow.Author.Tests.{eq-eqb}
use lib.Dec.{T, eqb}
use lib.IntN.{ℤ, pos}
use lib.ListN.{length, get_or}
use Rattle.algebra.specs.Order.{Pos}
use Rattle.algebra.specs.Sum.{sum_to}
use Rattle.algebra.proofs.Order.{pos_by}
use Rattle.algebra.proofs.Sum.{sum_cong}
use Rattle.plane.specs.Base.{Side, On}
use Rattle.plane.specs.Determinants.{orient, incircle}
use Rattle.plane.specs.Halfedges.{nxt}
use Rattle.plane.specs.Tiles.{OnSide, Reverse}
use Rattle.plane.proofs.Halfedges.{nxt0, nxt1, nxt2}
use Rattle.plane.proofs.Orient.{orient_cyc}
use Rattle.plane.proofs.Test.{Reads, reads_as, reads_and, reads_or, reads_eq, reads_eq_z, reads_pos}
use Rattle.sorts.specs.Items.{item}
use Rattle.sorts.proofs.Rows.{rising_strict}
use Rattle.tables.specs.Data.{point_count, point, end_a, end_b, base}
use Rattle.tables.specs.Refusals.{short_work}
use Rattle.tables.specs.Rules.{rank, pair_below, wins, flips, triples, corner, triple_area, edge_is, rises}
use Rattle.tables.proofs.Rules.{reads_lt, reads_edge, Rule1, Rule2, Rule3, Rule4, Rule5, Rule6, Rule7, Rule8}
use Rattle.tables.proofs.Rules.{reads_1, reads_2, reads_3, reads_4, reads_5, reads_6, reads_7, reads_8}
use Rattle.tables.proofs.Table.{T_true, true_t, reads_test, Silent, silent, points_most, accepted_yes}
use Rattle.nets.specs.Building.{Rules}
use Rattle.nets.specs.Flipping.{Lower, by_first, by_second}
use Rattle.nets.specs.Nets.{Net, dst}
use Rattle.nets.specs.Tilings.{tri}
use Rattle.nets.proofs.Slot.{nxt_in}
use Rattle.nets.proofs.Tile.{tri_from}
use Rattle.sheets.specs.Keeps.{EdgeOf, Finished, KeepsRules, SheetKeepsRules, SheetAccepted}
use Rattle.sheets.specs.Sheets.{Listed}
use Rattle.sheets.proofs.Moved.{sum_moved}
use Rattle.sheets.proofs.Places.{apart_list, slot, slot_low, place, place_low, slot_place, place_slot}
use Rattle.sheets.proofs.Places.{to, to_start, to_low, to_nxt, to_org, to_one, comes}

-- ---- step 3, as the net has it

reads_lower : (rk : ℕ → ℕ) (c d a b : ℕ) → Reads (pair_below (rk c) (rk d) (rk a) (rk b)) (Lower rk c d a b)
reads_lower rk c d a b =
    reads_as
    (reads_or (reads_lt (min (rk c) (rk d)) (min (rk a) (rk b)))
    (reads_and (reads_eq (min (rk c) (rk d)) (min (rk a) (rk b))) (reads_lt (max (rk c) (rk d)) (max (rk a) (rk b)))))
    (elim [ inl h ↦ by_first h | inr p ↦ by_second p.0 p.1 ]) (elim [ by_first h ↦ inl h | by_second e h ↦ inr (e, h) ])

-- An edge that step 3 flips has a gain.
gain : (ps : List ℤ) (a b c d : ℕ) → T (flips ps a b c d) →
    Pos (incircle (point ps a) (point ps b) (point ps c) (point ps d))
    ⊎ ((incircle (point ps a) (point ps b) (point ps c) (point ps d) ≡ pos 0) × Lower (rank ps) c d a b)
unfolding flips wins
gain ps a b c d t =
    let i = incircle (point ps a) (point ps b) (point ps c) (point ps d) in
    let adc = reads_pos (orient (point ps a) (point ps d) (point ps c)) in
    let dbc = reads_pos (orient (point ps d) (point ps b) (point ps c)) in
    (reads_or (reads_pos i) (reads_and (reads_eq_z i (pos 0)) (reads_lower (rank ps) c d a b))).says
    ((reads_and (reads_and (reads_test (wins ps a b c d)) adc) dbc).says t).0.0

-- ---- triples that rise

rise : (a b c d e f : ℕ) → b < 4294967296 → c < 4294967296 → e < 4294967296 → f < 4294967296 →
    a * 18446744073709551616 + b * 4294967296 + c < d * 18446744073709551616 + e * 4294967296 + f → T (rises a b c d e f)
rise a b c d e f hb hc he hf h =
    (reads_or (reads_lt a d) (reads_and (reads_eq a d) (reads_or (reads_lt b e) (reads_and (reads_eq b e) (reads_lt c f))))).shows
    (elim (dec_lt a d) [
      | yes p ↦ inl p
      | no p ↦ inr (omega arith, elim (dec_lt b e) [ yes q ↦ inl q | no q ↦ inr (omega arith, omega arith) ])
    ])

item_opened : (w : List ℕ) (p q : ℕ) → item w p < item w q →
    get_or w p 0 * 18446744073709551616 + get_or w (p + 1) 0 * 4294967296 + get_or w (p + 2) 0
    < get_or w q 0 * 18446744073709551616 + get_or w (q + 1) 0 * 4294967296 + get_or w (q + 2) 0
unfolding item
item_opened w p q h = h

module _ (ps : List ℤ) (qs xs : List ℕ) (m : Net) (few : point_count ps ≤ 4096) (u : Finished ps qs m) (l : Listed m xs) where
  abbrev r : Rules (point ps) (base ps) (rank ps) (point_count ps) m
  r = u.rules

  abbrev n : ℕ
  n = m.tris

  small : (h : ℕ) → h < 3 * m.tris → m.org h < 4294967296
  small h g = let a = r.low h g in omega arith

  -- ---- the edge h of the list is the half-edge e h of the net

  abbrev e : ℕ → ℕ
  e = to m xs l small r.once

  -- Triple t of the list is the triangle of slot s t of the net, and slot t is triple p t.
  abbrev s : ℕ → ℕ
  s = slot m xs l small r.once

  abbrev p : ℕ → ℕ
  p = place m xs l small r.once

  low : (h : ℕ) → h < 3 * n → e h < 3 * n
  low = to_low m xs l small r.once

  at : (h : ℕ) → h < 3 * n → corner xs h ≡ m.org (e h)
  at = to_org m xs l small r.once

  at_nxt : (h : ℕ) → h < 3 * n → corner xs (nxt h) ≡ m.org (nxt (e h))
  at_nxt h g = at (nxt h) (nxt_in h n g) ∙ ap m.org (to_nxt m xs l small r.once h)

  at_prv : (h : ℕ) → h < 3 * n → corner xs (nxt (nxt h)) ≡ m.org (nxt (nxt (e h)))
  at_prv h g = at_nxt (nxt h) (nxt_in h n g) ∙ ap (λ (x : ℕ). m.org (nxt x)) (to_nxt m xs l small r.once h)

  -- Half-edge x of the net stands in the list.
  record In (x : ℕ) : Type 0 where
    h : ℕ
    low : h < 3 * triples xs
    org : corner xs h ≡ m.org x
    dst : corner xs (nxt h) ≡ m.org (nxt x)

  in_list : (x : ℕ) → x < 3 * n → In x
  in_list x g =
      let c = comes m xs l small r.once x g in
      let k = c.low in
      let z = l.size in
      record {
        h = c.h;
        low = omega arith;
        org = at c.h k ∙ ap m.org c.is;
        dst = at_nxt c.h k ∙ ap (λ (y : ℕ). m.org (nxt y)) c.is;
      }

  in_net : (h : ℕ) → h < 3 * triples xs → h < 3 * n
  in_net h g = let z = l.size in omega arith

  count : triples xs ≡ n
  count = let z = l.size in omega arith

  differ : (h : ℕ) → h < 3 * n → ¬ (corner xs h ≡ corner xs (nxt h))
  differ h g q = r.distinct (e h) (low h g) (sym (at h g) ∙ q ∙ at_nxt h g)

  -- ---- the area of triple t is that of its slot

  area : (t : ℕ) → t < n → triple_area ps xs t ≡ tri (point ps) m orient (s t)
  unfolding triple_area
  area t g =
      let a = at (3 * t) (omega arith) in
      let b = at_nxt (3 * t) (omega arith) in
      let c = at_prv (3 * t) (omega arith) in
      let b1 : corner xs (3 * t + 1) ≡ m.org (nxt (e (3 * t))) = rw nxt0 at b in
      let c1 : corner xs (3 * t + 2) ≡ m.org (nxt (nxt (e (3 * t)))) = rw (nxt0, nxt1) at c in
      let f = (to_start m xs l small r.once t).slot in
      rw (a, b1, c1) (sym (tri_from (point ps) m orient orient_cyc (e (3 * t))) ∙ ap (tri (point ps) m orient) f)

  -- ---- the eight rules

  rule_1 : Rule1 ps xs
  unfolding triple_area
  rule_1 = record {
    least = let a = r.some in let z = count in omega arith;
    most = let a = r.few in let z = count in omega arith;
    proper = λ t g.
        let h : t < n = let z = count in omega arith in
        let h0 : 3 * t < 3 * n = omega arith in
        let h1 : 3 * t + 1 < 3 * n = omega arith in
        let h2 : 3 * t + 2 < 3 * n = omega arith in
        let d0 = differ (3 * t) h0 in
        let d1 = differ (3 * t + 1) h1 in
        let d2 = differ (3 * t + 2) h2 in
        record {
          a_below = rw (at (3 * t) h0) (r.low (e (3 * t)) (low (3 * t) h0));
          b_below = rw (at (3 * t + 1) h1) (r.low (e (3 * t + 1)) (low (3 * t + 1) h1));
          c_below = rw (at (3 * t + 2) h2) (r.low (e (3 * t + 2)) (low (3 * t + 2) h2));
          ab_differ = rw nxt0 at d0;
          bc_differ = rw nxt1 at d1;
          ca_differ = rw nxt2 at d2;
          turns = pos_by (area t h) (r.ccw (s t) (slot_low m xs l small r.once t h));
        };
  }

  rule_2 : Rule2 xs
  rule_2 h g a b p q =
      let i = in_net h a in
      let j = in_net g b in
      to_one m xs l small r.once g h j i
      (r.once (e h) (e g) (low h i) (low g j) (sym (at g j) ∙ p ∙ at h i) (sym (at_nxt g j) ∙ q ∙ at_nxt h i))

  rule_3 : Rule3 ps xs
  rule_3 h a = go (r.met (e h) (low h i))
    where
      i : h < 3 * n
      i = in_net h a

      on : (s : Side) (v v' : ℕ) → v ≡ v' → On (base ps) s (point ps v') → On (base ps) s (point ps v)
      on s v v' q o = rw q o

      go : ((g : ℕ) × (g < 3 * n) × (m.org g ≡ dst m (e h)) × (dst m g ≡ m.org (e h))) ⊎ OnSide (point ps) (base ps) (m.org (e h)) (dst m (e h))
          → ((g : ℕ) × Reverse (triples xs) (corner xs) h g) ⊎ OnSide (point ps) (base ps) (corner xs h) (corner xs (nxt h))
      go (inl p) =
          let c = in_list p.0 p.1 in
          inl (c.h, record { low = c.low; from = c.org ∙ p.2 ∙ sym (at_nxt h i); to = c.dst ∙ p.3 ∙ sym (at h i) })
      go (inr p) = inr (p.0, on p.0 (corner xs h) (m.org (e h)) (at h i) p.1, on p.0 (corner xs (nxt h)) (dst m (e h)) (at_nxt h i) p.2)

  rule_4 : Rule4 ps xs
  rule_4 i g = let p = r.present i g in let c = in_list p.0 p.1 in (c.h, c.low, c.org ∙ p.2)

  rule_5 : Rule5 ps xs
  rule_5 =
      ap (λ (k : ℕ). sum_to k (triple_area ps xs)) count ∙
      sum_cong n (triple_area ps xs) (λ t. tri (point ps) m orient (s t)) area ∙
      sum_moved n s p (slot_low m xs l small r.once) (place_low m xs l small r.once) (slot_place m xs l small r.once)
      (place_slot m xs l small r.once) (tri (point ps) m orient) ∙
      r.areas

  rule_6 : Rule6 qs xs
  rule_6 k g = let p = u.pairs k g in let c = in_list p.0 p.1 in (c.h, c.low, shown p.0 c p.2)
    where
      a : ℕ
      a = end_a qs k

      b : ℕ
      b = end_b qs k

      shown : (x : ℕ) (c : In x) → EdgeOf m x a b → T (edge_is xs c.h a b || edge_is xs c.h b a)
      shown x c (inl p) = (reads_or (reads_edge xs c.h a b) (reads_edge xs c.h b a)).shows (inl (c.org ∙ p.0, c.dst ∙ p.1))
      shown x c (inr p) = (reads_or (reads_edge xs c.h a b) (reads_edge xs c.h b a)).shows (inr (c.org ∙ p.0, c.dst ∙ p.1))

  rule_7 : Rule7 ps qs xs
  rule_7 h g a b back no-pair flip =
      let i = in_net h a in
      let j = in_net g b in
      let p = (reads_edge xs g (corner xs (nxt h)) (corner xs h)).says back in
      let f = rw (at h i, at_nxt h i, at_prv h i, at_prv g j) at flip in
      r.settled (e h) (e g) (low h i) (low g j) (sym (at g j) ∙ p.0 ∙ at_nxt h i) (sym (at_nxt g j) ∙ p.1 ∙ at h i)
      (free i (ℕ_discrete (m.con (e h)) 0)) (gain ps (m.org (e h)) (m.org (nxt (e h))) (m.org (nxt (nxt (e h)))) (m.org (nxt (nxt (e g)))) f)
    where
      free : h < 3 * n → Dec (m.con (e h) ≡ 0) → m.con (e h) ≡ 0
      free i (yes z) = z
      free i (no z) = absurd (no-pair (rw (at h i, at_nxt h i) (true_t (u.marks (e h) (low h i) z))))

  rule_8 : Rule8 xs
  rule_8 = record {
    first = λ t g.
        let h : t < n = let z = count in omega arith in
        let h0 : 3 * t < 3 * n = omega arith in
        let h2 : 3 * t + 2 < 3 * n = omega arith in
        let s = to_start m xs l small r.once t in
        let a = at (3 * t) h0 in
        let b : corner xs (3 * t + 1) ≡ m.org (nxt (e (3 * t))) = rw nxt0 at (at_nxt (3 * t) h0) in
        let c : corner xs (3 * t + 2) ≡ m.org (nxt (nxt (e (3 * t)))) = rw (nxt0, nxt1) at (at_prv (3 * t) h0) in
        let d : ¬ (corner xs (3 * t) ≡ corner xs (3 * t + 1)) = rw nxt0 at (differ (3 * t) h0) in
        let f : ¬ (corner xs (3 * t + 2) ≡ corner xs (3 * t)) = rw nxt2 at (differ (3 * t + 2) h2) in
        let p = s.low1 in
        let q = s.low2 in
        (omega arith, omega arith);
    rise = λ t g.
        let h : t + 1 < n = let z = count in omega arith in
        rise (corner xs (3 * t)) (corner xs (3 * t + 1)) (corner xs (3 * t + 2)) (corner xs (3 * t + 3)) (corner xs (3 * t + 4))
        (corner xs (3 * t + 5)) (l.words (3 * t + 1)) (l.words (3 * t + 2)) (l.words (3 * t + 4)) (l.words (3 * t + 5)) (strict t h);
  }
    where
      strict : (t : ℕ) → t + 1 < n →
          corner xs (3 * t) * 18446744073709551616 + corner xs (3 * t + 1) * 4294967296 + corner xs (3 * t + 2)
          < corner xs (3 * t + 3) * 18446744073709551616 + corner xs (3 * t + 4) * 4294967296 + corner xs (3 * t + 5)
      strict t h =
          let a : 0 + 3 * t ≡ 3 * t = omega arith in
          let b : 0 + 3 * (t + 1) ≡ 3 * t + 3 = omega arith in
          let b1 : 3 * t + 3 + 1 ≡ 3 * t + 4 = omega arith in
          let b2 : 3 * t + 3 + 2 ≡ 3 * t + 5 = omega arith in
          let s = rising_strict xs 0 n l.rising (apart_list m xs l small r.once) t (t + 1) (omega arith) h in
          rw (a, b, b1, b2) at (item_opened xs (0 + 3 * t) (0 + 3 * (t + 1)) s)

  keeps : KeepsRules ps qs xs
  keeps = record {
    keeps1 = T_true _ ((reads_1 ps xs).shows rule_1);
    keeps2 = T_true _ ((reads_2 xs).shows rule_2);
    keeps3 = T_true _ ((reads_3 ps xs).shows rule_3);
    keeps4 = T_true _ ((reads_4 ps xs).shows rule_4);
    keeps5 = T_true _ ((reads_5 ps xs).shows rule_5);
    keeps6 = T_true _ ((reads_6 qs xs).shows rule_6);
    keeps7 = T_true _ ((reads_7 ps qs xs).shows rule_7);
    keeps8 = T_true _ ((reads_8 xs).shows rule_8);
  }

pub sheet_keeps_rules : SheetKeepsRules
sheet_keeps_rules = keeps

pub sheet_accepted : SheetAccepted
sheet_accepted ps qs xs m work passed u l = accepted_yes ps qs xs work (record {
  rows_pass = subst (λ (b : Bool). Silent b (short_work (point_count ps) work) ps qs) (sym in_threes) s;
  keeps1 = k.keeps1;
  keeps2 = k.keeps2;
  keeps3 = k.keeps3;
  keeps4 = k.keeps4;
  keeps5 = k.keeps5;
  keeps6 = k.keeps6;
  keeps7 = k.keeps7;
  keeps8 = k.keeps8;
})
  where
    s : Silent false (short_work (point_count ps) work) ps qs
    s = silent false (short_work (point_count ps) work) ps qs passed

    k : KeepsRules ps qs xs
    k = keeps ps qs xs m (points_most s) u l

    -- The list's length is a multiple of 3.
    in_threes : not (eqb (length xs % 3) 0) ≡ false
    in_threes = let z = l.size in rw (eq-eqb (length xs % 3) 0 (omega arith))
