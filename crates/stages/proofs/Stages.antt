-- The pairs come in one after another: the built net has none, a pair that is an edge is marked, a recovered one is marked and flipping follows,
-- and with all pairs in the net is finished. Assumes nothing.
use mathlib.Core.Bool.{Bool, true}
use mathlib.Core.List.{List, []}
use mathlib.Core.Logic.{◌⊎◌, inl, inr}
use mathlib.Core.Path.{◌≡◌, refl, sym, ◌∙◌, subst}
use Prim.Native.Nat.{ℕ, suc, ◌*◌, ◌<◌, ◌≤◌}
use native.Mathlib.Decide.{dec_lt}
use native.Mathlib.Omega.{arith}
use lib.IntN.{ℤ}
use Rattle.plane.proofs.Test.{reads_or, reads_and, reads_eq, reads_any}
use Rattle.tables.specs.Answers.{yes as good}
use Rattle.tables.specs.Data.{point_count, pair_count, point, end_a, end_b, base}
use Rattle.tables.specs.Figures.{Figure}
use Rattle.tables.specs.Refusals.{rows}
use Rattle.tables.specs.Rules.{rank, is_pair}
use Rattle.tables.proofs.Table.{T_true, not_outside, silent, end_a_low, end_b_low, ends_differ}
use Rattle.nets.specs.Building.{BuiltFrom}
use Rattle.nets.specs.Flipping.{Legal, done, Watched}
use Rattle.nets.specs.Nets.{Net, dst}
use Rattle.nets.specs.Tilings.{Tiling, Marked}
use Rattle.nets.proofs.Built.{legal_has, legal_tris}
use Rattle.nets.proofs.Marks.{legal_marked, legal_older}
use Rattle.nets.proofs.Rules.{rules_at_rest}
use Rattle.nets.proofs.Suspects.{legal_tile, legal_rule7}
use Rattle.bridges.specs.Bridges.{Taken}
use Rattle.sheets.specs.Keeps.{EdgeOf, Finished}
use Rattle.stages.specs.Marking.{mark_net}
use Rattle.stages.specs.Stages.{Fixed, EndsOf, AmongPairs, Paired, Remade, Ends}
use Rattle.stages.proofs.Marking.{mark_tris, mark_present, mark_stays, mark_edge, mark_watched, mark_older, mark_tile}

-- ---- edges that are fixed, and pairs

fixed_marked : (m : Net) (u v : ℕ) → Fixed m u v → Marked m u v ⊎ Marked m v u
fixed_marked m u v (h, b, inl r, n) = inl (h, b, r.0, r.1, n)
fixed_marked m u v (h, b, inr r, n) = inr (h, b, r.0, r.1, n)

marked_fixed : (m : Net) (u v : ℕ) → Marked m u v ⊎ Marked m v u → Fixed m u v
marked_fixed m u v (inl s) = (s.0, s.1, inl (s.2, s.3), s.4)
marked_fixed m u v (inr s) = (s.0, s.1, inr (s.2, s.3), s.4)

-- what keeps the marked edges keeps the fixed ones
pub fixed_kept : (m m' : Net) → ((u w : ℕ) → Marked m u w → Marked m' u w) → (u v : ℕ) → Fixed m u v → Fixed m' u v
fixed_kept m m' f u v s = go (fixed_marked m u v s)
  where
    go : Marked m u v ⊎ Marked m v u → Fixed m' u v
    go (inl k) = marked_fixed m' u v (inl (f u v k))
    go (inr k) = marked_fixed m' u v (inr (f v u k))

-- Marked, told of other names of the ends.
renamed : (m : Net) (u w u' w' : ℕ) → u ≡ u' → w ≡ w' → Marked m u w → Marked m u' w'
renamed m u w u' w' e f s = (s.0, s.1, s.2 ∙ e, s.3 ∙ f, s.4)

-- two names of one edge
both : (m : Net) (h : ℕ) (qs : List ℕ) (k u w : ℕ) → EdgeOf m h u w → EdgeOf m h (end_a qs k) (end_b qs k) → EndsOf qs k u w
both m h qs k u w (inl e) (inl f) = inl (sym e.0 ∙ f.0, sym e.1 ∙ f.1)
both m h qs k u w (inl e) (inr f) = inr (sym e.0 ∙ f.0, sym e.1 ∙ f.1)
both m h qs k u w (inr e) (inl f) = inr (sym e.1 ∙ f.1, sym e.0 ∙ f.0)
both m h qs k u w (inr e) (inr f) = inl (sym e.1 ∙ f.1, sym e.0 ∙ f.0)

pub among_more : (qs : List ℕ) (k j u v : ℕ) → k ≤ j → AmongPairs qs k u v → AmongPairs qs j u v
among_more qs k j u v l s = (s.0, (let b = s.1 in let z : s.0 < j = omega arith in z), s.2)

pub among_is_pair : (qs : List ℕ) (k u v : ℕ) → k ≤ pair_count qs → AmongPairs qs k u v → is_pair qs u v ≡ true
unfolding is_pair
among_is_pair qs k u v l s =
    T_true (is_pair qs u v)
    ((reads_any (pair_count qs)
    (λ i. reads_or (reads_and (reads_eq u (end_a qs i)) (reads_eq v (end_b qs i))) (reads_and (reads_eq u (end_b qs i)) (reads_eq v (end_a qs i))))
    ).shows (among_more qs k (pair_count qs) u v l s))

module _ (ps : List ℤ) (qs : List ℕ) where
  -- ---- the start and the end

  -- The built net has no pair in.
  pub started : {m : Net} {z : ℕ} → BuiltFrom ps (point_count ps) m z → Paired ps qs 0 m
  started s = record {
    tile = s.tile;
    rest = s.rest;
    present = s.present;
    count = s.count;
    few = s.few;
    pairs = λ i l. absurd (let f : ⊥ = omega arith in f);
    marks = λ h b c. absurd (c (s.unmarked h b));
  }

  -- With all pairs in it is finished.
  pub finished : Figure ps → {m : Net} → Paired ps qs (pair_count qs) m → Finished ps qs m
  finished fig {m} s = record {
    rules = rules_at_rest s.tile s.rest s.present s.count s.few (λ u l. not_outside ps u (fig.within u l));
    pairs = λ k l. (let y = s.pairs k l in (y.0, y.1, y.2));
    marks = λ h b c. among_is_pair qs (pair_count qs) (m.org h) (dst m h) (let z : pair_count qs ≤ pair_count qs = omega arith in z) (s.marks h b c);
  }

  -- ---- a pair more

  module _ {k : ℕ} {m : Net} (s : Paired ps qs k m) where
    -- Pair k is recovered: its edge is marked, and flipping goes to its end.
    pub recovered : {m' m3 : Net} {q : List ℕ} {h z z' : ℕ} → Remade ps qs k m m' q h →
        Legal (point ps) (rank ps) (mark_net m' h (m'.adj h)) q z m3 z' → Paired ps qs (suc k) m3
    recovered {m'} {m3} {q} {h} {z} {z'} r g = record {
      tile = legal_tile tile2 g;
      rest = legal_rule7 tile2 (mark_watched m' h (m'.adj h) q r.watched) g;
      present = λ u l. legal_has tile2 g u (mark_present m' h (m'.adj h) (point_count ps) r.present u l);
      count = (let c = s.count in let t = tris3 in omega arith);
      few = (let c = s.few in let t = tris3 in omega arith);
      pairs = λ i l. pairs3 i (dec_lt i k) l;
      marks = λ x b c. among (m3.org x) (dst m3 x) (x, b, refl, refl, c);
    }
      where
        m2 : Net
        m2 = mark_net m' h (m'.adj h)

        tile2 : Tiling (point ps) (base ps) (point_count ps) (mark_net m' h (m'.adj h))
        tile2 = mark_tile r.tile h r.low

        tris3 : m3.tris ≡ m.tris
        tris3 = legal_tris tile2 g ∙ mark_tris m' h (m'.adj h) ∙ r.tris

        -- each marked edge is still marked
        onward : (u w : ℕ) → Marked m u w → Marked m3 u w
        onward u w i = legal_marked tile2 g u w (mark_stays m' h (m'.adj h) u w (r.kept u w i))

        -- and so is that of the pair
        edge2 : Marked m2 (m'.org h) (dst m' h)
        edge2 = mark_edge m' h (m'.adj h) r.low

        new : EdgeOf m' h (end_a qs k) (end_b qs k) → Fixed m3 (end_a qs k) (end_b qs k)
        new (inl e) = marked_fixed m3 (end_a qs k) (end_b qs k) (inl (legal_marked tile2 g (end_a qs k) (end_b qs k) (renamed m2 (m'.org h) (dst m' h) (end_a qs k) (end_b qs k) e.0 e.1 edge2)))
        new (inr e) = marked_fixed m3 (end_a qs k) (end_b qs k) (inr (legal_marked tile2 g (end_b qs k) (end_a qs k) (renamed m2 (m'.org h) (dst m' h) (end_b qs k) (end_a qs k) e.0 e.1 edge2)))

        pairs3 : (i : ℕ) → Dec (i < k) → i < suc k → Fixed m3 (end_a qs i) (end_b qs i)
        pairs3 i (yes l) b = fixed_kept m m3 onward (end_a qs i) (end_b qs i) (s.pairs i l)
        pairs3 i (no n) b = subst (λ (x : ℕ). Fixed m3 (end_a qs x) (end_b qs x)) (let e : k ≡ i = omega arith in e) (new r.edge)

        -- each that is marked was, or is that of the pair
        was : (u w : ℕ) → Marked m u w → AmongPairs qs (suc k) u w
        was u w i =
            among_more qs k (suc k) u w (let y : k ≤ suc k = omega arith in y)
            (subst (λ (x : ℕ). AmongPairs qs k x w) i.2 (subst (λ (x : ℕ). AmongPairs qs k (m.org i.0) x) i.3 (s.marks i.0 i.1 i.4)))

        among : (u w : ℕ) → Marked m3 u w → AmongPairs qs (suc k) u w
        among u w i = go (mark_older r.tile.linked h r.low u w (legal_older tile2 g u w i))
          where
            go : Marked m' u w ⊎ EdgeOf m' h u w → AmongPairs qs (suc k) u w
            go (inl j) = was u w (r.older u w j)
            go (inr e) = (k, (let y : k < suc k = omega arith in y), both m' h qs k u w e r.edge)

    -- What a recovery takes from the net is so remade, where the crossed slots are suspects.
    pub remade : {m' : Net} {q : List ℕ} {slot : ℕ → ℕ} {j : ℕ} → (t : Taken (point ps) (base ps) (point_count ps) (end_a qs k) (end_b qs k) slot j m m') →
        Watched (point ps) (rank ps) m' q → Remade ps qs k m m' q (3 * slot j)
    remade t w = record {
      tile = t.tile;
      tris = t.tris;
      present = t.present (point_count ps) s.present;
      kept = t.marked;
      older = t.only;
      watched = w;
      low = t.root.2;
      edge = inr (t.root.0, t.root.1);
    }

    -- Pair k is an edge already, which is marked.
    pub already : (h : ℕ) → h < 3 * m.tris → EdgeOf m h (end_a qs k) (end_b qs k) → Paired ps qs (suc k) (mark_net m h (m.adj h))
    already h b e =
        recovered {q = []} {z = 0} {z' = 0}
        (record {
          tile = s.tile;
          tris = refl;
          present = s.present;
          kept = λ u w i. i;
          older = λ u w i. i;
          watched = λ x y l w. absurd (s.rest x y l w);
          low = b;
          edge = e;
        }) done

-- ---- the ends of a pair

pub ends : (odd short : Bool) (ps : List ℤ) (qs : List ℕ) → rows odd short ps qs ≡ good → (k : ℕ) → k < pair_count qs → Ends ps qs k
ends odd short ps qs e k l = let s = silent odd short ps qs e in record { a_low = end_a_low s k l; b_low = end_b_low s k l; differ = ends_differ s k l }
