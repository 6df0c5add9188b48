-- Segments that cross properly have ranges with a common number, in x and in y. The crossing place is a positive combination of the ends
-- of either segment; so with the orientations for weights, the differences between the ends of one and the ends of the other add to zero,
-- and they cannot all have one sign. Assumes nothing.
use mathlib.Core.Path.{◌≡◌, refl, sym, ap, ◌∙◌, subst}
use mathlib.Core.Bool.{Bool, true, false, not, ◌&&◌, ◌||◌, false≢true}
use mathlib.Core.List.{[], ◌∷◌}
use lib.IntN.{ℤ, pos, neg_ℤ, ◌+ℤ◌, ◌-ℤ◌, ◌*ℤ◌, zero-*ℤ, *ℤ-zero, +ℤ_invr, +ℤ_idl}
use lib.Signed.{lt_z}
use Rattle.algebra.specs.Order.{Pos, NonNeg}
use Rattle.algebra.specs.Tests.{posb}
use Rattle.algebra.proofs.Ring.{Expr, var, con, ◌⊕◌, ◌⊖◌, ◌⊗◌, ⊝◌, solve}
use Rattle.algebra.proofs.Order.{pos_by, nn_by, pos_nn, nn+pos, pos+nn}
use Rattle.algebra.proofs.Sum.{by_bool}
use Rattle.plane.specs.Points.{Pt}
use Rattle.plane.specs.Determinants.{orient}
use Rattle.plane.proofs.Polynomials.{PtE, orient_e, by4}
use Rattle.plane.proofs.Sign.{sg, eq_b, sg_mul, sg_add, sg_zero, posb_pos, not_posb, nn_zero}
use Rattle.tables.specs.Refusals.{opposed, crosses}
use Rattle.crossings.specs.Boxes.{lower, upper, apart}
use Rattle.segments.proofs.Compare.{lt_sub}
use Rattle.crossings.proofs.Ranges.{Side, nil, on, side, on_pos, on_neg}

-- ---- orientations on both sides

pub data Across (y z : ℤ) : Type 0 where
  across : (s : Bool) → Pos (sg s y) → Pos (sg (not s) z) → Across y z

to_across : (y z : ℤ) → opposed y z ≡ true → Across y z
to_across y z e = go (side y) (side z)
  where
    no : (s t : Bool) → (s && not t) || (not s && t) ≡ true → t ≡ not s
    no true true h = sym h
    no true false h = refl
    no false true h = refl
    no false false h = h

    never : (s : Bool) → (s && false) || (not s && false) ≡ true → ⊥
    never true h = false≢true h
    never false h = false≢true h

    go : Side y → Side z → Across y z
    go (on s h) (on t k) =
        across s h
        (subst (λ (b : Bool). Pos (sg b z)) (no s t (rw (on_pos s y h, on_neg s y h, on_pos t z k, on_neg t z k) at e)) k)
    go (on s h) (nil i) = absurd (never s (rw (i, on_pos s y h, on_neg s y h) at e))
    go (nil i) w = absurd (false≢true (rw i at e))

-- ---- ranges with a gap

-- The ends of one range all lie on one side of the ends of the other.
pub data Gap (a b c d : ℤ) : Type 0 where
  gap : (k : Bool) → Pos (sg k (b -ℤ d)) → Pos (sg (not k) (d -ℤ a)) → Pos (sg (not k) (c -ℤ b)) → Pos (sg k (a -ℤ c)) → Gap a b c d

pub swap : (a b : ℤ) → neg_ℤ (a -ℤ b) ≡ b -ℤ a
swap a b = solve (⊝ (var 0 ⊖ var 1)) (var 1 ⊖ var 0) (a ∷ b ∷ []) tt

above : (a b : ℤ) → lt_z a b ≡ true → NonNeg (b -ℤ a)
above a b e = pos_nn (posb_pos (b -ℤ a) (sym (lt_sub a b) ∙ e))

below : (a b : ℤ) → lt_z a b ≡ false → NonNeg (a -ℤ b)
below a b e = nn_by (sym (swap b a)) (not_posb (b -ℤ a) (sym (lt_sub a b) ∙ e))

itself : (a : ℤ) → NonNeg (a -ℤ a)
itself a = nn_zero (a -ℤ a) (+ℤ_invr a)

-- Here y is at most u, u is below l, and l is at most x.
over : (x l u y : ℤ) → NonNeg (x -ℤ l) → Pos (l -ℤ u) → NonNeg (u -ℤ y) → Pos (x -ℤ y)
over x l u y h i j =
    pos_by (solve (var 0 ⊖ var 3) ((var 0 ⊖ var 1) ⊕ (var 1 ⊖ var 2) ⊕ (var 2 ⊖ var 3)) (x ∷ l ∷ u ∷ y ∷ []) tt) (pos+nn (nn+pos h i) j)

-- Here the range of a and b lies below that of c and d.
module _ (a b c d : ℤ) (h : Pos (lower c d -ℤ upper a b)) where
  a_under : NonNeg (upper a b -ℤ a)
  a_under = by_bool (lt_z a b) (λ e. rw e (above a b e)) (λ e. rw e (itself a))

  b_under : NonNeg (upper a b -ℤ b)
  b_under = by_bool (lt_z a b) (λ e. rw e (itself b)) (λ e. rw e (below a b e))

  c_over : NonNeg (c -ℤ lower c d)
  c_over = by_bool (lt_z c d) (λ e. rw e (itself c)) (λ e. rw e (below c d e))

  d_over : NonNeg (d -ℤ lower c d)
  d_over = by_bool (lt_z c d) (λ e. rw e (above c d e)) (λ e. rw e (itself d))

  a_c : Pos (c -ℤ a)
  a_c = over c (lower c d) (upper a b) a c_over h a_under

  a_d : Pos (d -ℤ a)
  a_d = over d (lower c d) (upper a b) a d_over h a_under

  b_c : Pos (c -ℤ b)
  b_c = over c (lower c d) (upper a b) b c_over h b_under

  b_d : Pos (d -ℤ b)
  b_d = over d (lower c d) (upper a b) b d_over h b_under

rising : (a b c d : ℤ) → Pos (lower c d -ℤ upper a b) → Gap a b c d
rising a b c d h = gap false (pos_by (swap b d) (b_d a b c d h)) (a_d a b c d h) (b_c a b c d h) (pos_by (swap a c) (a_c a b c d h))

falling : (a b c d : ℤ) → Pos (lower a b -ℤ upper c d) → Gap a b c d
falling a b c d h = gap true (b_d c d a b h) (pos_by (swap d a) (b_c c d a b h)) (pos_by (swap c b) (a_d c d a b h)) (a_c c d a b h)

to_gap : (a b c d : ℤ) → apart a b c d ≡ true → Gap a b c d
to_gap a b c d e = go (lower c d -ℤ upper a b) (lower a b -ℤ upper c d) e (rising a b c d) (falling a b c d)
  where
    go : (g h : ℤ) → lt_z (g *ℤ h) (pos 0) ≡ true → (Pos g → Gap a b c d) → (Pos h → Gap a b c d) → Gap a b c d
    go g h e up down = cases (side g) (side h)
      where
        negative : posb (neg_ℤ (g *ℤ h)) ≡ true
        negative = ap posb (sym (+ℤ_idl (neg_ℤ (g *ℤ h)))) ∙ sym (lt_sub (g *ℤ h) (pos 0)) ∙ e

        cases : Side g → Side h → Gap a b c d
        cases (on true i) w = up i
        cases (on false i) (on true j) = down j
        cases (on false i) (on false j) = absurd (false≢true (sym (on_neg true (g *ℤ h) (sg_mul false false g h i j)) ∙ negative))
        cases (on false i) (nil j) = absurd (false≢true (rw (j, *ℤ-zero g) at e))
        cases (nil i) w = absurd (false≢true (rw (i, zero-*ℤ h) at e))

-- ---- the weighted differences

not_r : (s t : Bool) → eq_b s (not t) ≡ not (eq_b s t)
not_r true t = refl
not_r false true = refl
not_r false false = refl

not_l : (s t : Bool) → eq_b (not s) t ≡ not (eq_b s t)
not_l true t = refl
not_l false true = refl
not_l false false = refl

not_both : (s t : Bool) → eq_b (not s) (not t) ≡ eq_b s t
not_both true true = refl
not_both true false = refl
not_both false t = refl

term : (m s t k : Bool) (o q x : ℤ) → eq_b (eq_b s t) k ≡ m → Pos (sg s o) → Pos (sg t q) → Pos (sg k x) → Pos (sg m (o *ℤ q *ℤ x))
term m s t k o q x e h i j = subst (λ (b : Bool). Pos (sg b (o *ℤ q *ℤ x))) e (sg_mul (eq_b s t) k (o *ℤ q) x (sg_mul s t o q h i) j)

pub clash : (o p q r a b c d : ℤ) → o *ℤ q *ℤ (b -ℤ d) +ℤ o *ℤ r *ℤ (d -ℤ a) +ℤ p *ℤ q *ℤ (c -ℤ b) +ℤ p *ℤ r *ℤ (a -ℤ c) ≡ pos 0 → Across o p → Across q r → Gap a b c d → ⊥
clash o p q r a b c d e (across s h1 h2) (across t h3 h4) (gap k g1 g2 g3 g4) =
    let m = eq_b (eq_b s t) k in
    sg_zero m _ e
    (sg_add m _ _
    (sg_add m _ _
    (sg_add m _ _ (term m s t k o q (b -ℤ d) refl h1 h3 g1) (term m s (not t) (not k) o r (d -ℤ a) (ap (λ (z : Bool). eq_b z (not k)) (not_r s t) ∙ not_both (eq_b s t) k) h1 h4 g2))
    (term m (not s) t (not k) p q (c -ℤ b) (ap (λ (z : Bool). eq_b z (not k)) (not_l s t) ∙ not_both (eq_b s t) k) h2 h3 g3))
    (term m (not s) (not t) k p r (a -ℤ c) (ap (λ (z : Bool). eq_b z k) (not_both s t)) h2 h4 g4))

-- ---- the crossing

abbrev pub weighted : (PtE → Expr) → PtE → PtE → PtE → PtE → Expr
weighted f a b c d =
    orient_e a b c ⊗ orient_e c d a ⊗ (f b ⊖ f d) ⊕ orient_e a b c ⊗ orient_e c d b ⊗ (f d ⊖ f a) ⊕ orient_e a b d ⊗ orient_e c d a ⊗ (f c ⊖ f b) ⊕ orient_e a b d ⊗ orient_e c d b ⊗ (f a ⊖ f c)

both : (x y : Bool) → (x ≡ true → y ≡ true → ⊥) → x && y ≡ false
both true true f = absurd (f refl refl)
both true false f = refl
both false y f = refl

module _ (a b c d : Pt ℤ) where
  pub refuse : (Across (orient a b c) (orient a b d) → Across (orient c d a) (orient c d b) → ⊥) → crosses a b c d ≡ false
  unfolding crosses
  refuse f = both _ _ (λ e i. f (to_across (orient a b c) (orient a b d) e) (to_across (orient c d a) (orient c d b) i))

  pub apart_x : apart a.x b.x c.x d.x ≡ true → crosses a b c d ≡ false
  unfolding orient
  apart_x e =
      refuse (λ h i. clash (orient a b c) (orient a b d) (orient c d a) (orient c d b) a.x b.x c.x d.x
      (by4 (weighted (λ p. p.x)) (λ a b c d. con (pos 0)) tt a b c d) h i (to_gap a.x b.x c.x d.x e))

  pub apart_y : apart a.y b.y c.y d.y ≡ true → crosses a b c d ≡ false
  unfolding orient
  apart_y e =
      refuse (λ h i. clash (orient a b c) (orient a b d) (orient c d a) (orient c d b) a.y b.y c.y d.y
      (by4 (weighted (λ p. p.y)) (λ a b c d. con (pos 0)) tt a b c d) h i (to_gap a.y b.y c.y d.y e))
