-- A point strictly inside a segment is strictly between the segment's ends in the order of x, then y, and so is its rank between their
-- ranks. So a search of the ranks between finds a point inside, if there is one. Assumes nothing.
use mathlib.Core.Path.{◌≡◌, sym, ap, ◌∙◌}
use mathlib.Core.Bool.{Bool, true, false, not, false≢true}
use mathlib.Core.List.{List, [], ◌∷◌}
use mathlib.Core.Logic.{◌⊎◌, inl, inr}
use Prim.Native.Nat.{ℕ, ◌+◌, ◌≤◌, ◌<◌}
use native.Mathlib.Omega.{arith}
use lib.Dec.{T}
use Rattle.std.specs.Bool.{MatchBool}
use lib.IntN.{ℤ, pos, neg_ℤ, ◌-ℤ◌, ◌*ℤ◌}
use lib.Signed.{le_z, ◌<ℤ◌, clash_ℤ}
use borrow.Author.Tests.{eq-eqb, eqb-true}
use Rattle.algebra.specs.Order.{Pos}
use Rattle.algebra.specs.Tests.{eq_z, any_to}
use Rattle.algebra.proofs.Order.{pos_by, not_zero}
use Rattle.algebra.proofs.Ring.{var, con, ◌⊖◌, ◌⊗◌, ⊝◌, solve}
use Rattle.algebra.proofs.Tests.{any_at, any_no, by_test}
use Rattle.plane.specs.Points.{Pt}
use Rattle.plane.specs.Determinants.{orient}
use Rattle.plane.proofs.Polynomials.{orient_e, by3}
use Rattle.plane.proofs.Sign.{sg, sg_mul, posb_pos, eq_z_eq}
use Rattle.tables.specs.Data.{point_count, point, same}
use Rattle.tables.specs.Figures.{Figure}
use Rattle.tables.specs.Refusals.{between, in_segment}
use Rattle.tables.specs.Rules.{before, rank}
use Rattle.tables.proofs.Ranks.{rank_lt, rank_only, reads_before, Before, Order, less, equal, more, order}
use Rattle.tables.proofs.Table.{T_true, true_t, and_true, point_same, all_differ}
use Rattle.nets.proofs.Figures.{rank_below}
use Rattle.ranks.specs.Ranked.{at_rank, Ordered}
use Rattle.segments.proofs.Compare.{lt_sub}
use Rattle.crossings.proofs.Ranges.{between_product}

-- ---- two differences on one side

same_sign : (s : Bool) (x y : ℤ) → Pos (sg s x) → Pos (sg s y) → Pos (x *ℤ y)
same_sign true x y h k = sg_mul true true x y h k
same_sign false x y h k = sg_mul false false x y h k

-- The difference x, y leads to the side s in the order of x, then y.
data Leads (s : Bool) (x y : ℤ) : Type 0 where
  across : Pos (sg s x) → Leads s x y
  along : x ≡ pos 0 → Pos (sg s y) → Leads s x y

-- The differences of a point from the two ends are x, y and u, v. If both lead to one side, then the point is not in the box, or not on
-- the line.
one_side : (s : Bool) (x y u v : ℤ) → le_z (x *ℤ u) (pos 0) ≡ true → le_z (y *ℤ v) (pos 0) ≡ true → x *ℤ v -ℤ y *ℤ u ≡ pos 0 →
    Leads s x y → Leads s u v → ⊥
one_side s x y u v e f g (across h) (across k) = clash_ℤ (same_sign s x u h k) (record { le = true_t e })
one_side s x y u v e f g (along i h) (along j k) = clash_ℤ (same_sign s y v h k) (record { le = true_t f })
one_side s x y u v e f g (across h) (along j k) =
    not_zero (same_sign s x v h k)
    (solve (var 0 ⊗ var 1) (var 0 ⊗ var 1 ⊖ var 2 ⊗ con (pos 0)) (x ∷ v ∷ y ∷ []) tt ∙ ap (λ (z : ℤ). x *ℤ v -ℤ y *ℤ z) (sym j) ∙ g)
one_side s x y u v e f g (along i h) (across k) =
    not_zero (same_sign s y u h k)
    (solve (var 0 ⊗ var 1) (⊝ (con (pos 0) ⊗ var 2 ⊖ var 0 ⊗ var 1)) (y ∷ u ∷ v ∷ []) tt ∙ ap (λ (z : ℤ). neg_ℤ (z *ℤ v -ℤ y *ℤ u)) (sym i) ∙ ap neg_ℤ g)

-- ---- a point inside a segment

rises : (a b : ℤ) → a <ℤ b → Pos (b -ℤ a)
rises a b h = posb_pos (b -ℤ a) (sym (lt_sub a b) ∙ T_true _ h.lt)

falls : (a b : ℤ) → a <ℤ b → Pos (neg_ℤ (a -ℤ b))
falls a b h = pos_by (solve (⊝ (var 0 ⊖ var 1)) (var 1 ⊖ var 0) (a ∷ b ∷ []) tt) (rises a b h)

none : (a b : ℤ) → a ≡ b → b -ℤ a ≡ pos 0
none a b e = ap (λ (z : ℤ). b -ℤ z) e ∙ solve (var 0 ⊖ var 0) (con (pos 0)) (b ∷ []) tt

leads_up : (a p : Pt ℤ) → Before a p → Leads true (p.x -ℤ a.x) (p.y -ℤ a.y)
leads_up a p (inl h) = across (rises a.x p.x h)
leads_up a p (inr h) = along (none a.x p.x h.0) (rises a.y p.y h.1)

leads_down : (a p : Pt ℤ) → Before p a → Leads false (p.x -ℤ a.x) (p.y -ℤ a.y)
leads_down a p (inl h) = across (falls p.x a.x h)
leads_down a p (inr h) = along (none a.x p.x (sym h.0)) (falls p.y a.y h.1)

-- The point p comes after one end and before the other.
abbrev Amid : Pt ℤ → Pt ℤ → Pt ℤ → Type 0
Amid a b p = (T (before a p) × T (before p b)) ⊎ (T (before b p) × T (before p a))

orient_from : (a b p : Pt ℤ) → (p.x -ℤ a.x) *ℤ (p.y -ℤ b.y) -ℤ (p.y -ℤ a.y) *ℤ (p.x -ℤ b.x) ≡ orient a b p
unfolding orient
orient_from = by3 (λ a b p. (p.x ⊖ a.x) ⊗ (p.y ⊖ b.y) ⊖ (p.y ⊖ a.y) ⊗ (p.x ⊖ b.x)) orient_e tt

-- The parts of the test.
record Inside (a b p : Pt ℤ) : Type 0 where
  in_x : between a.x b.x p.x ≡ true
  in_y : between a.y b.y p.y ≡ true
  on_line : eq_z (orient a b p) (pos 0) ≡ true
  not_a : not (same p a) ≡ true
  not_b : not (same p b) ≡ true

parts : (a b p : Pt ℤ) → in_segment a b p ≡ true → Inside a b p
unfolding in_segment
parts a b p e =
    let d1 = and_true _ _ e in
    let d2 = and_true _ _ d1.0 in
    let d3 = and_true _ _ d2.0 in
    let d4 = and_true _ _ d3.0 in
    record { in_x = d4.0; in_y = d4.1; on_line = d3.1; not_a = d2.1; not_b = d1.1 }

amid : (a b p : Pt ℤ) → in_segment a b p ≡ true → Amid a b p
amid a b p e = go (order a p) (order p b)
  where
    d : Inside a b p
    d = parts a b p e

    apart : (q : Pt ℤ) → not (same p q) ≡ true → p ≡ q → ⊥
    apart q n i = false≢true (sym (ap not (point_same p q i)) ∙ n)

    never : (s : Bool) → Leads s (p.x -ℤ a.x) (p.y -ℤ a.y) → Leads s (p.x -ℤ b.x) (p.y -ℤ b.y) → ⊥
    never s =
        one_side s (p.x -ℤ a.x) (p.y -ℤ a.y) (p.x -ℤ b.x) (p.y -ℤ b.y)
        (between_product a.x b.x p.x ∙ d.in_x) (between_product a.y b.y p.y ∙ d.in_y)
        (orient_from a b p ∙ eq_z_eq (orient a b p) (pos 0) (true_t d.on_line))

    go : Order a p → Order p b → Amid a b p
    go (less h) (less k) = inl (h, k)
    go (more h) (more k) = inr (k, h)
    go (less h) (more k) = absurd (never true (leads_up a p ((reads_before a p).says h)) (leads_up b p ((reads_before b p).says k)))
    go (more h) (less k) = absurd (never false (leads_down a p ((reads_before p a).says h)) (leads_down b p ((reads_before p b).says k)))
    go (less h) (equal i) = absurd (apart b d.not_b i)
    go (more h) (equal i) = absurd (apart b d.not_b i)
    go (equal i) k = absurd (apart a d.not_a (sym i))

-- ---- the ranks between the ends' ranks

-- The test of point i.
abbrev pub inside : List ℤ → ℕ → ℕ → ℕ → Bool
inside ps a b i = in_segment (point ps a) (point ps b) (point ps i)

module _ (ps : List ℤ) (w : List ℕ) (a b lo hi : ℕ) (o : Ordered ps w) (fig : Figure ps) (ends : (a < point_count ps) × (b < point_count ps) × (hi < point_count ps))
    (spread : (lo ≤ rank ps a) × (lo ≤ rank ps b) × (rank ps a ≤ hi) × (rank ps b ≤ hi)) where
  -- The point of a point's rank is the point.
  back : (i : ℕ) → i < point_count ps → at_rank (point_count ps) w (rank ps i) ≡ i
  back i l =
      let n = point_count ps in
      let k = rank_below ps i l in
      let j = at_rank n w (rank ps i) in
      let e = eq-eqb (rank ps j) (rank ps i) (o.places (rank ps i) k) in
      eqb-true j i (sym (rank_only ps (all_differ ps n fig.distinct) j i (o.small (rank ps i) k) l) ∙ e)

  -- The ends' ranks are from lo to hi, and no point whose rank is between these is inside: so no point is.
  outside : ((r : ℕ) → lo + 1 ≤ r → r < hi → inside ps a b (at_rank (point_count ps) w r) ≡ false) → (i : ℕ) → i < point_count ps → inside ps a b i ≡ false
  outside s i l = by_test (inside ps a b i) (λ e. tried (go (amid (point ps a) (point ps b) (point ps i) e))) (λ e. e)
    where
      tried : (lo < rank ps i) × (rank ps i < hi) → inside ps a b i ≡ false
      tried (u, v) = ap (inside ps a b) (sym (back i l)) ∙ s (rank ps i) (omega arith) v

      up : (j k : ℕ) → j < point_count ps → T (before (point ps j) (point ps k)) → rank ps j < rank ps k
      up j k m t = rank_lt ps j k m (T_true _ t)

      go : Amid (point ps a) (point ps b) (point ps i) → (lo < rank ps i) × (rank ps i < hi)
      go (inl (x, y)) = let p = up a i ends.0 x in let q = up i b l y in (omega (arith, spread.0, spread.3, p, q), omega (arith, spread.0, spread.3, p, q))
      go (inr (x, y)) = let p = up b i ends.1 x in let q = up i a l y in (omega (arith, spread.1, spread.2, p, q), omega (arith, spread.1, spread.2, p, q))

  -- Some point whose rank is between lo and hi is inside, or none is: the answer is that of all points.
  pub by_rank : (t : Bool) → MatchBool t ((r : ℕ) × (lo + 1 ≤ r) × (r < hi) × (inside ps a b (at_rank (point_count ps) w r) ≡ true)) ((r : ℕ) → lo + 1 ≤ r → r < hi → inside ps a b (at_rank (point_count ps) w r) ≡ false)
      → t ≡ any_to (point_count ps) (inside ps a b)
  by_rank true h = sym (any_at (inside ps a b) (point_count ps) (at_rank (point_count ps) w h.0) (o.small h.0 (omega (arith, h.2, ends.2))) h.3)
  by_rank false h = sym (any_no (inside ps a b) (point_count ps) (outside h))
