-- The crossing number of an edge at a place says how often the ray from the place to the right crosses the edge, counted by direction.
-- It is antisymmetric, its sum around a triangle says whether the place is strictly inside, and along a side of the base it is a difference.
-- What the signs alone tell of it is in Crossing.antt. Assumes nothing.
use mathlib.Core.Path.{◌≡◌, refl, sym, ap, ap₂, ◌∙◌, subst}
use mathlib.Core.Bool.{Bool, true, false, not, cond, ◌||◌}
use lib.Dec.{T}
use lib.IntN.{ℤ, pos, ◌+ℤ◌, ◌-ℤ◌, ◌*ℤ◌, neg_ℤ, zero-*ℤ, +ℤ_idr, neg_ℤ-neg_ℤ}
use Rattle.algebra.specs.Order.{Pos}
use Rattle.algebra.specs.Tests.{posb, eq_z}
use Rattle.algebra.proofs.Laws.{neg-*ℤ, *ℤ-neg}
use Rattle.algebra.proofs.Ring.{Expr, con, ◌⊕◌, ◌⊖◌, ◌⊗◌, and}
use Rattle.algebra.proofs.Order.{pos_by, pos_nn, pos*pos, pos+nn, pos_cancel, not_both, not_zero, Sign, is_pos, is_below_zero, is_zero, sign}
use Rattle.plane.specs.Points.{Pt}
use Rattle.plane.specs.Determinants.{orient}
use Rattle.plane.specs.Places.{Place, line}
use Rattle.plane.proofs.Crossing.{chi, chi_anti, same3, none3, three, cases}
use Rattle.plane.proofs.Polynomials.{PtE, orient_e, line_e, by_q2, by_q3, by_q4}
use Rattle.plane.proofs.Line.{line_swap, line_sum}
use Rattle.plane.proofs.Sign.{posb_yes, posb_pos, posb_no, posb_neg, sg, sg_pos, sg_mul, sg_add, sg_zero, ind, not_posb, eq_b, eq_b_eq, eq_z_eq, and_1, and_2}

or_elim : {X : Type 0} (a b : Bool) → T (a || b) → (a ≡ true → X) → (T b → X) → X
or_elim true b t f g = f refl
or_elim false b t f g = g t

not_1 : (a : Bool) → not a ≡ true → a ≡ false
not_1 true e = sym e
not_1 false e = refl

-- A, B, C say how far the ends lie above the place, and α, β, γ are the values of the edges' lines at it.
pub cross3 : (α β γ A B C : ℤ) →
    ¬ (α ≡ pos 0) → ¬ (β ≡ pos 0) → ¬ (γ ≡ pos 0) → ¬ (A ≡ pos 0) → ¬ (B ≡ pos 0) → ¬ (C ≡ pos 0) →
    Pos (α +ℤ β +ℤ γ) → α *ℤ C +ℤ β *ℤ A +ℤ γ *ℤ B ≡ pos 0 →
    chi (posb A) (posb B) (posb α) (posb (neg_ℤ α)) +ℤ chi (posb B) (posb C) (posb β) (posb (neg_ℤ β)) +ℤ chi (posb C) (posb A) (posb γ) (posb (neg_ℤ γ)) ≡
    ind (and (posb α) (and (posb β) (posb γ)))
cross3 α β γ A B C nα nβ nγ nA nB nC sum bary =
    rw (posb_neg α nα, posb_neg β nβ, posb_neg γ nγ)
    (or_elim (same3 (eq_b s c) (eq_b t a) (eq_b u b)) (none3 s t u || eq_z (three a b c s t u) (ind (and s (and t u)))) (cases a b c s t u)
    (λ e. absurd (all_same e))
    (λ r. or_elim (none3 s t u) (eq_z (three a b c s t u) (ind (and s (and t u)))) r
    (λ e. absurd (all_neg e)) (eq_z_eq (three a b c s t u) (ind (and s (and t u))))))
  where
    a : Bool
    a = posb A

    b : Bool
    b = posb B

    c : Bool
    c = posb C

    s : Bool
    s = posb α

    t : Bool
    t = posb β

    u : Bool
    u = posb γ

    all_same : same3 (eq_b s c) (eq_b t a) (eq_b u b) ≡ true → ⊥
    all_same e =
        let e1 = eq_b_eq (eq_b s c) (eq_b t a) (and_1 (eq_b (eq_b s c) (eq_b t a)) (eq_b (eq_b t a) (eq_b u b)) e) in
        let e2 = eq_b_eq (eq_b t a) (eq_b u b) (and_2 (eq_b (eq_b s c) (eq_b t a)) (eq_b (eq_b t a) (eq_b u b)) e) in
        let p1 = sg_mul s c α C (sg_pos α nα) (sg_pos C nC) in
        let p2 = sg_mul t a β A (sg_pos β nβ) (sg_pos A nA) in
        let p3 = sg_mul u b γ B (sg_pos γ nγ) (sg_pos B nB) in
        let k = eq_b s c in
        sg_zero k (α *ℤ C +ℤ β *ℤ A +ℤ γ *ℤ B) bary
        (sg_add k (α *ℤ C +ℤ β *ℤ A) (γ *ℤ B)
        (sg_add k (α *ℤ C) (β *ℤ A) p1 (subst (λ (z : Bool). Pos (sg z (β *ℤ A))) (sym e1) p2))
        (subst (λ (z : Bool). Pos (sg z (γ *ℤ B))) (sym (e1 ∙ e2)) p3))

    all_neg : none3 s t u ≡ true → ⊥
    all_neg e =
        let e1 = not_1 s (and_1 (not s) (and (not t) (not u)) e) in
        let e2 = not_1 t (and_1 (not t) (not u) (and_2 (not s) (and (not t) (not u)) e)) in
        let e3 = not_1 u (and_2 (not t) (not u) (and_2 (not s) (and (not t) (not u)) e)) in
        not_both sum
        (sg_add false (α +ℤ β) γ
        (sg_add false α β (subst (λ (z : Bool). Pos (sg z α)) e1 (sg_pos α nα)) (subst (λ (z : Bool). Pos (sg z β)) e2 (sg_pos β nβ)))
        (subst (λ (z : Bool). Pos (sg z γ)) e3 (sg_pos γ nγ)))

-- ---- above the place

-- This is positive where p lies above the place, and zero where it is level with it.
unfoldable pub above : Place ℤ → Pt ℤ → ℤ
above q p = q.qw *ℤ p.y -ℤ q.qy

abbrev pub above_e : Place Expr → PtE → Expr
above_e q p = q.qw ⊗ p.y ⊖ q.qy

-- The values of a triangle's three lines, each weighed by the height of the corner that faces it, add to zero.
pub level_bary : (q : Place ℤ) (a b c : Pt ℤ) → line a b q *ℤ above q c +ℤ line b c q *ℤ above q a +ℤ line c a q *ℤ above q b ≡ pos 0
unfolding line above
level_bary = by_q3 (λ q a b c. line_e a b q ⊗ above_e q c ⊕ line_e b c q ⊗ above_e q a ⊕ line_e c a q ⊗ above_e q b) (λ q a b c. con (pos 0)) tt

-- Where u and v are on the line of a and b, the values of the two lines at a place are as the heights of the two edges.
side_poly : (q : Place ℤ) (a b u v : Pt ℤ) →
    (b.y -ℤ a.y) *ℤ line u v q ≡ (v.y -ℤ u.y) *ℤ line a b q +ℤ (orient a b v *ℤ above q u +ℤ orient a b u *ℤ (q.qy -ℤ q.qw *ℤ v.y))
unfolding line above orient
side_poly =
    by_q4 (λ q a b u v. (b.y ⊖ a.y) ⊗ line_e u v q)
    (λ q a b u v. (v.y ⊖ u.y) ⊗ line_e a b q ⊕ (orient_e a b v ⊗ above_e q u ⊕ orient_e a b u ⊗ (q.qy ⊖ q.qw ⊗ v.y))) tt

drop2 : (z o p r s : ℤ) → o ≡ pos 0 → r ≡ pos 0 → z +ℤ (o *ℤ p +ℤ r *ℤ s) ≡ z
drop2 z o p r s e k =
    ap₂ (λ (i j : ℤ). z +ℤ (i *ℤ p +ℤ j *ℤ s)) e k ∙ ap₂ (λ (i j : ℤ). z +ℤ (i +ℤ j)) (zero-*ℤ p) (zero-*ℤ s) ∙ +ℤ_idr z

pub line_side : (q : Place ℤ) (a b u v : Pt ℤ) → orient a b u ≡ pos 0 → orient a b v ≡ pos 0 → (b.y -ℤ a.y) *ℤ line u v q ≡ (v.y -ℤ u.y) *ℤ line a b q
line_side q a b u v e k =
    side_poly q a b u v ∙ drop2 ((v.y -ℤ u.y) *ℤ line a b q) (orient a b v) (above q u) (orient a b u) (q.qy -ℤ q.qw *ℤ v.y) k e

rise_poly : (q : Place ℤ) (u v : Pt ℤ) → q.qw *ℤ (v.y -ℤ u.y) ≡ above q v -ℤ above q u
unfolding above
rise_poly = by_q2 (λ q u v. q.qw ⊗ (v.y ⊖ u.y)) (λ q u v. above_e q v ⊖ above_e q u) tt

-- ---- the crossing number

abbrev pub up : Place ℤ → Pt ℤ → Bool
up q p = posb (above q p)

pub cross : Place ℤ → Pt ℤ → Pt ℤ → ℤ
cross q u v = chi (up q u) (up q v) (posb (line u v q)) (posb (line v u q))

pub cross_anti : (q : Place ℤ) (u v : Pt ℤ) → cross q u v ≡ neg_ℤ (cross q v u)
unfolding cross
cross_anti q u v = chi_anti (up q u) (up q v) (posb (line u v q)) (posb (line v u q))

-- The place lies strictly inside the triangle, as a test.
abbrev pub inside : Place ℤ → Pt ℤ → Pt ℤ → Pt ℤ → Bool
inside q a b c = and (posb (line a b q)) (and (posb (line b c q)) (posb (line c a q)))

pub cross_tri : (q : Place ℤ) (a b c : Pt ℤ) → Pos q.qw → Pos (orient a b c) →
    ¬ (line a b q ≡ pos 0) → ¬ (line b c q ≡ pos 0) → ¬ (line c a q ≡ pos 0) →
    ¬ (above q a ≡ pos 0) → ¬ (above q b ≡ pos 0) → ¬ (above q c ≡ pos 0) →
    cross q a b +ℤ cross q b c +ℤ cross q c a ≡ ind (inside q a b c)
unfolding cross
cross_tri q a b c w o l m n i j k =
    rw (line_swap q a b, line_swap q b c, line_swap q c a)
    (cross3 (line a b q) (line b c q) (line c a q) (above q a) (above q b) (above q c) l m n i j k
    (pos_by (line_sum q a b c) (pos*pos w o)) (level_bary q a b c))

-- ---- along a side of the base

-- This is what crosses the side from a to b as far as p.
pub prim : Place ℤ → Pt ℤ → Pt ℤ → Pt ℤ → ℤ
prim q a b p = cond (posb (b.y -ℤ a.y)) (ind (up q p)) (pos 0)

module _ (q : Place ℤ) (a b : Pt ℤ) (w : Pos q.qw) (left : Pos (line a b q)) where
  -- An edge on the side's line goes from a point that is not above the place to one that is.
  rises : (u v : Pt ℤ) → orient a b u ≡ pos 0 → orient a b v ≡ pos 0 → up q u ≡ false → up q v ≡ true → Pos ((b.y -ℤ a.y) *ℤ line u v q)
  rises u v e k i j =
      pos_by (line_side q a b u v e k)
      (pos*pos (pos_cancel (pos_nn w) (pos_by (rise_poly q u v) (pos+nn (posb_pos (above q v) j) (not_posb (above q u) i)))) left)

  rise_cross : (u v : Pt ℤ) → orient a b u ≡ pos 0 → orient a b v ≡ pos 0 → up q u ≡ false → up q v ≡ true → posb (line u v q) ≡ posb (b.y -ℤ a.y)
  rise_cross u v e k i j = go (sign (b.y -ℤ a.y))
    where
      r : Pos ((b.y -ℤ a.y) *ℤ line u v q)
      r = rises u v e k i j

      go : Sign (b.y -ℤ a.y) → posb (line u v q) ≡ posb (b.y -ℤ a.y)
      go (is_pos p) = posb_yes (line u v q) (pos_cancel (pos_nn p) r) ∙ sym (posb_yes (b.y -ℤ a.y) p)
      go (is_below_zero n) =
          posb_no (line u v q)
          (pos_cancel (pos_nn n)
          (pos_by (neg-*ℤ (b.y -ℤ a.y) (neg_ℤ (line u v q)) ∙ ap neg_ℤ (*ℤ-neg (b.y -ℤ a.y) (line u v q)) ∙ neg_ℤ-neg_ℤ ((b.y -ℤ a.y) *ℤ line u v q)) r)) ∙
          sym (posb_no (b.y -ℤ a.y) n)
      go (is_zero z) = absurd (not_zero r (ap (λ (t : ℤ). t *ℤ line u v q) z ∙ zero-*ℤ (line u v q)))

  pub cross_side : (u v : Pt ℤ) → orient a b u ≡ pos 0 → orient a b v ≡ pos 0 → cross q u v ≡ prim q a b v -ℤ prim q a b u
  unfolding cross prim
  cross_side u v e k = go (up q u) (up q v) refl refl
    where
      d : Bool
      d = posb (b.y -ℤ a.y)

      same_ends : (d s : Bool) → pos 0 ≡ cond d (ind s) (pos 0) -ℤ cond d (ind s) (pos 0)
      same_ends true true = refl
      same_ends true false = refl
      same_ends false true = refl
      same_ends false false = refl

      chi_same : (s p n : Bool) → chi s s p n ≡ pos 0
      chi_same true p n = refl
      chi_same false p n = refl

      chi_up : (d n : Bool) → chi false true d n ≡ cond d (pos 1) (pos 0) -ℤ cond d (pos 0) (pos 0)
      chi_up true n = refl
      chi_up false n = refl

      chi_down : (d p : Bool) → chi true false p d ≡ cond d (pos 0) (pos 0) -ℤ cond d (pos 1) (pos 0)
      chi_down true p = refl
      chi_down false p = refl

      go : (s t : Bool) → up q u ≡ s → up q v ≡ t →
          chi (up q u) (up q v) (posb (line u v q)) (posb (line v u q)) ≡ cond d (ind (up q v)) (pos 0) -ℤ cond d (ind (up q u)) (pos 0)
      go true true i j = rw (i, j) (chi_same true (posb (line u v q)) (posb (line v u q)) ∙ same_ends d true)
      go false false i j = rw (i, j) (chi_same false (posb (line u v q)) (posb (line v u q)) ∙ same_ends d false)
      go false true i j = rw (i, j, rise_cross u v e k i j) (chi_up d (posb (line v u q)))
      go true false i j = rw (i, j, rise_cross v u k e j i) (chi_down d (posb (line u v q)))
