-- Segments in the order of x, then y. Two that cross properly have no common end, and neither is wholly before the other: a number that
-- rises in that order, 16,385 x + y for coordinates within 8,192, would be lower at both ends of the one than at both ends of the other. So
-- the one that begins no later than the other begins strictly before it, and ends strictly after the other's beginning. Assumes nothing.
use mathlib.Core.Path.{◌≡◌, refl, sym, ap, ◌∙◌}
use mathlib.Core.Bool.{Bool, true, false, not, ◌&&◌, false≢true}
use mathlib.Core.List.{List, [], ◌∷◌}
use mathlib.Core.Logic.{inl, inr}
use Prim.Native.Nat.{ℕ, zero, suc, ◌+◌, ◌-◌, ◌≤◌, ◌<◌, min, max}
use native.Mathlib.Decide.{dec_lt}
use native.Mathlib.Omega.{arith}
use borrow.Author.Tests.{le-ltb, lt-ltb, eq-eqb}
use lib.IntN.{ℤ, pos, negsuc, nat_abs, neg_ℤ, ◌+ℤ◌, ◌-ℤ◌, ◌*ℤ◌}
use lib.Signed.{lt_z, ◌<ℤ◌}
use Rattle.algebra.specs.Order.{Pos, NonNeg}
use Rattle.algebra.proofs.Order.{pos_by, nn_by, nn_pos, nn+pos, nn+nn, nn*nn}
use Rattle.algebra.proofs.Ring.{Expr, var, con, ◌⊕◌, ◌⊖◌, ◌⊗◌, ⊝◌, solve}
use Rattle.algebra.proofs.Size.{abs_neg}
use Rattle.plane.specs.Points.{Pt}
use Rattle.plane.specs.Determinants.{orient}
use Rattle.plane.proofs.Orient.{thin_aba, thin_abb}
use Rattle.plane.proofs.Polynomials.{PtE, by4}
use Rattle.plane.proofs.Sign.{sg_zero, posb_pos}
use Rattle.segments.proofs.Compare.{lt_sub}
use Rattle.signs.specs.Answers.{limit}
use Rattle.tables.specs.Data.{point_count, point}
use Rattle.tables.specs.Figures.{Figure}
use Rattle.tables.specs.Refusals.{opposed, crosses}
use Rattle.tables.specs.Rules.{rank}
use Rattle.tables.proofs.Ranks.{Before, reads_before, rank_below, rank_same}
use Rattle.tables.proofs.Table.{T_true, true_t, near_point, same_point}
use Rattle.crossings.proofs.Apart.{Across, across, gap, swap, clash, weighted, refuse}

-- ---- a common end

first_zero : {y z : ℤ} → y ≡ pos 0 → Across y z → ⊥
first_zero e (across s h i) = sg_zero s _ e h

second_zero : {y z : ℤ} → z ≡ pos 0 → Across y z → ⊥
second_zero e (across s h i) = sg_zero (not s) _ e i

module _ (a b c d : Pt ℤ) where
  common_ac : a ≡ c → crosses a b c d ≡ false
  common_ac e = refuse a b c d (λ h i. first_zero (ap (orient a b) (sym e) ∙ thin_aba a b) h)

  common_ad : a ≡ d → crosses a b c d ≡ false
  common_ad e = refuse a b c d (λ h i. second_zero (ap (orient a b) (sym e) ∙ thin_aba a b) h)

  common_bc : b ≡ c → crosses a b c d ≡ false
  common_bc e = refuse a b c d (λ h i. first_zero (ap (orient a b) (sym e) ∙ thin_abb a b) h)

  common_bd : b ≡ d → crosses a b c d ≡ false
  common_bd e = refuse a b c d (λ h i. second_zero (ap (orient a b) (sym e) ∙ thin_abb a b) h)

-- ---- the number that rises in the order of x, then y

abbrev height : Pt ℤ → ℤ
height p = pos 16385 *ℤ p.x +ℤ p.y

abbrev height_e : PtE → Expr
height_e p = con (pos 16385) ⊗ p.x ⊕ p.y

-- A coordinate within the limit is at least -8,192.
not_low : (z : ℤ) → nat_abs z ≤ 8192 → NonNeg (z +ℤ pos 8192)
not_low (pos n) h = nn_pos (n + 8192)
not_low (negsuc n) h = let e : negsuc n +ℤ pos 8192 ≡ pos (8192 - suc n) = rw (le-ltb 8192 (suc n) h) in nn_by e (nn_pos (8192 - suc n))

one_less : (z : ℤ) → Pos z → NonNeg (z -ℤ pos 1)
one_less (pos zero) h = absurd h.lt
one_less (pos (suc n)) h =
    let e : pos (suc n) -ℤ pos 1 ≡ pos (suc n - 1) = rw (le-ltb (suc n) 1 (omega arith)) in nn_by e (nn_pos (suc n - 1))
one_less (negsuc n) h = absurd h.lt

abbrev Near : Pt ℤ → Type 0
Near p = (nat_abs p.x ≤ limit) × (nat_abs p.y ≤ limit)

over : (a b : ℤ) → a <ℤ b → Pos (b -ℤ a)
over a b h = posb_pos (b -ℤ a) (sym (lt_sub a b) ∙ T_true (lt_z a b) h.lt)

-- Where x rises by one at least, 16,385 outweighs any fall of y.
rises : (p q : Pt ℤ) → Near p → Near q → Before p q → Pos (height q -ℤ height p)
rises p q h i (inl k) =
    pos_by
    (solve
    (height_e (record { x = var 2; y = var 3 }) ⊖ height_e (record { x = var 0; y = var 1 }))
    (con (pos 16385) ⊗ (var 2 ⊖ var 0 ⊖ con (pos 1)) ⊕ (var 3 ⊕ con (pos 8192)) ⊕ (⊝ var 1 ⊕ con (pos 8192)) ⊕ con (pos 1))
    (p.x ∷ p.y ∷ q.x ∷ q.y ∷ []) tt)
    (nn+pos
    (nn+nn
    (nn+nn (nn*nn (nn_pos 16385) (one_less (q.x -ℤ p.x) (over p.x q.x k))) (not_low q.y i.1))
    (not_low (neg_ℤ p.y) (rw (abs_neg p.y) h.1)))
    (record { lt = tt }))
rises p q h i (inr k) =
    pos_by
    (ap (λ (z : ℤ). height q -ℤ (pos 16385 *ℤ z +ℤ p.y)) k.0 ∙
    solve ((con (pos 16385) ⊗ var 1 ⊕ var 2) ⊖ (con (pos 16385) ⊗ var 1 ⊕ var 0)) (var 2 ⊖ var 0) (p.y ∷ q.x ∷ q.y ∷ []) tt)
    (over p.y q.y k.1)

-- Both ends of the one are before both ends of the other.
module _ (a b c d : Pt ℤ) (na : Near a) (nb : Near b) (nc : Near c) (nd : Near d) where
  all_before : Before a c → Before a d → Before b c → Before b d → crosses a b c d ≡ false
  unfolding orient
  all_before ac ad bc bd =
      refuse a b c d
      (λ h i.
      clash (orient a b c) (orient a b d) (orient c d a) (orient c d b) (height a) (height b) (height c) (height d)
      (by4 (weighted height_e) (λ a b c d. con (pos 0)) tt a b c d) h i
      (gap false (pos_by (swap (height b) (height d)) (rises b d nb nd bd)) (rises a d na nd ad) (rises b c nb nc bc)
      (pos_by (swap (height a) (height c)) (rises a c na nc ac))))

-- ---- a crossing is one of the two segments with each other

and_comm : (x y : Bool) → x && y ≡ y && x
and_comm true true = refl
and_comm true false = refl
and_comm false true = refl
and_comm false false = refl

pub crosses_turned : (a b c d : Pt ℤ) → crosses a b c d ≡ crosses c d a b
unfolding crosses
crosses_turned a b c d = and_comm (opposed (orient a b c) (orient a b d)) (opposed (orient c d a) (orient c d b))

-- ---- in ranks

module _ (ps : List ℤ) (fig : Figure ps) where
  near : (i : ℕ) → i < point_count ps → Near (point ps i)
  unfolding point
  near i h = near_point ps i (fig.near i h)

  -- The lower rank is that of the point before the other, and equal ranks are one point's.
  by_rank : (i j : ℕ) → i < point_count ps → j < point_count ps → rank ps i < rank ps j → Before (point ps i) (point ps j)
  by_rank i j l m h = (reads_before (point ps i) (point ps j)).says (true_t (sym (rank_below ps i j l m) ∙ lt-ltb (rank ps i) (rank ps j) h))

  one_rank : (i j : ℕ) → i < point_count ps → j < point_count ps → rank ps i ≡ rank ps j → point ps i ≡ point ps j
  one_rank i j l m h = same_point (point ps i) (point ps j) (sym (rank_same ps i j l m) ∙ eq-eqb (rank ps i) (rank ps j) h)

  module _ (a b c d : ℕ) (la : a < point_count ps) (lb : b < point_count ps) (lc : c < point_count ps) (ld : d < point_count ps)
      (e : crosses (point ps a) (point ps b) (point ps c) (point ps d) ≡ true) where
    never : crosses (point ps a) (point ps b) (point ps c) (point ps d) ≡ false → ⊥
    never h = false≢true (sym h ∙ e)

    apart_ac : ¬ (rank ps a ≡ rank ps c)
    apart_ac h = never (common_ac _ _ _ _ (one_rank a c la lc h))

    apart_ad : ¬ (rank ps a ≡ rank ps d)
    apart_ad h = never (common_ad _ _ _ _ (one_rank a d la ld h))

    apart_bc : ¬ (rank ps b ≡ rank ps c)
    apart_bc h = never (common_bc _ _ _ _ (one_rank b c lb lc h))

    apart_bd : ¬ (rank ps b ≡ rank ps d)
    apart_bd h = never (common_bd _ _ _ _ (one_rank b d lb ld h))

    not_before : rank ps a < rank ps c → rank ps a < rank ps d → rank ps b < rank ps c → rank ps b < rank ps d → ⊥
    not_before ac ad bc bd =
        never
        (all_before _ _ _ _ (near a la) (near b lb) (near c lc) (near d ld) (by_rank a c la lc ac) (by_rank a d la ld ad) (by_rank b c lb lc bc) (by_rank b d lb ld bd))

    pub begins_after : min (rank ps a) (rank ps b) ≤ min (rank ps c) (rank ps d) → min (rank ps a) (rank ps b) < min (rank ps c) (rank ps d)
    begins_after h = let p = apart_ac in let q = apart_ad in let r = apart_bc in let s = apart_bd in omega arith

    pub begins_within : min (rank ps c) (rank ps d) < max (rank ps a) (rank ps b)
    begins_within = go (dec_lt (min (rank ps c) (rank ps d)) (max (rank ps a) (rank ps b)))
      where
        go : Dec (min (rank ps c) (rank ps d) < max (rank ps a) (rank ps b)) → min (rank ps c) (rank ps d) < max (rank ps a) (rank ps b)
        go (yes h) = h
        go (no h) =
            let p = apart_ac in let q = apart_ad in let r = apart_bc in let s = apart_bd in
            absurd (not_before (omega arith) (omega arith) (omega arith) (omega arith))
