-- The step of the filling on six bare points: two needles pierce a base, and the one whose left end is the apex stands behind. Then the
-- other one pierces the sub-base before the apex. Mirror.antt has the same for the sub-base behind it. Assumes nothing.
use mathlib.Core.List.{[], ◌∷◌}
use mathlib.Core.Path.{◌≡◌, ap, ap₂, ◌∙◌}
use lib.IntN.{ℤ, pos, ◌+ℤ◌, ◌-ℤ◌, ◌*ℤ◌, neg_ℤ, zero-*ℤ, *ℤ_comm, +ℤ_invl}
use Rattle.algebra.proofs.Laws.{*ℤ-neg, eq_of_sub_zero}
use Rattle.algebra.proofs.Order.{pos_by, nn_by, pos_nn, nn_pos, pos+nn, nn+pos, pos+pos, nn+nn, pos*pos, nn*nn, sq_nn, Sign, is_below_zero, is_zero, is_pos, sign, not_zero, pos_cancel}
use Rattle.algebra.proofs.Ring.{Expr, con, ◌⊕◌, ◌⊖◌, ◌⊗◌, ⊝◌, solve}
use Rattle.algebra.specs.Order.{Pos, NonNeg}
use Rattle.plane.proofs.Convex.{lift_nn}
use Rattle.plane.proofs.Polynomials.{PtE, minus_e, lift_e, orient_e, incircle_e, pt, flat, by3, by4, by5}
use Rattle.plane.specs.Determinants.{orient, incircle}
use Rattle.plane.specs.Points.{Pt, minus, lift}
use Rattle.cavities.specs.Choices.{Clear, dot}
use Rattle.routes.specs.Needles.{Pierce, Apart, Over}

-- ---- signs

-- positive, or its opposite is not negative
pub pos_or : {X : Type 0} (z w : ℤ) → w ≡ neg_ℤ z → (Pos z → X) → (NonNeg w → X) → X
pos_or {X} z w e f g = go (sign z)
  where
    go : Sign z → X
    go (is_pos p) = f p
    go (is_zero q) = g (nn_by (e ∙ ap neg_ℤ q) (nn_pos 0))
    go (is_below_zero n) = g (nn_by e (pos_nn n))

zero_cancel : (a b : ℤ) → Pos a → a *ℤ b ≡ pos 0 → b ≡ pos 0
zero_cancel a b h e = go (sign b)
  where
    go : Sign b → b ≡ pos 0
    go (is_pos p) = absurd (not_zero (pos*pos h p) e)
    go (is_zero q) = q
    go (is_below_zero n) = absurd (not_zero (pos*pos h n) (*ℤ-neg a b ∙ ap neg_ℤ e))

pos*nn : {a b : ℤ} → Pos a → NonNeg b → NonNeg (a *ℤ b)
pos*nn h k = nn*nn (pos_nn h) k

nn*pos : {a b : ℤ} → NonNeg a → Pos b → NonNeg (a *ℤ b)
nn*pos h k = nn*nn h (pos_nn k)

pub turn : (a b c : Pt ℤ) → orient b a c ≡ neg_ℤ (orient a b c)
unfolding orient
turn = by3 (λ a b c. orient_e b a c) (λ a b c. ⊝ orient_e a b c) tt

-- ---- what the needles are to each other

no_sign : (z : ℤ) → NonNeg z → Pos (neg_ℤ z) → ⊥
no_sign z h k = not_zero (pos+nn k h) (+ℤ_invl z)

zero_or : (z : ℤ) → NonNeg z → (Pos z → ⊥) → z ≡ pos 0
zero_or z h f = go (sign z)
  where
    go : Sign z → z ≡ pos 0
    go (is_pos p) = absurd (f p)
    go (is_zero e) = e
    go (is_below_zero n) = absurd (no_sign z h n)

-- ---- v is not in the closed triangle x y c

abbrev pub dot_e : PtE → PtE → PtE → Expr
dot_e a b z = (a.x ⊖ z.x) ⊗ (b.x ⊖ z.x) ⊕ (a.y ⊖ z.y) ⊗ (b.y ⊖ z.y)

lagrange : (x y c : Pt ℤ) → lift (minus x c) *ℤ lift (minus y c) ≡ orient x y c *ℤ orient x y c +ℤ dot x y c *ℤ dot x y c
unfolding orient dot
lagrange = by3 (λ x y c. lift_e (minus_e x c) ⊗ lift_e (minus_e y c)) (λ x y c. orient_e x y c ⊗ orient_e x y c ⊕ dot_e x y c ⊗ dot_e x y c) tt

pub both : (x y c : Pt ℤ) → Pos (orient x y c) → Pos (lift (minus x c) *ℤ lift (minus y c))
both x y c d = pos_by (lagrange x y c) (pos+nn (pos*pos d d) (sq_nn (dot x y c)))

tricirc : (x y c v : Pt ℤ) → orient c x v *ℤ (orient x y v *ℤ lift (minus y c)) +ℤ
    (orient y c v *ℤ (orient x y v *ℤ lift (minus x c)) +ℤ (orient y c v *ℤ (orient c x v *ℤ lift (minus x y)) +ℤ orient x y c *ℤ neg_ℤ (incircle x y c v))) ≡ pos 0
unfolding orient incircle
tricirc =
    by4 (λ x y c v. orient_e c x v ⊗ (orient_e x y v ⊗ lift_e (minus_e y c)) ⊕ (orient_e y c v ⊗ (orient_e x y v ⊗ lift_e
    (minus_e x c)) ⊕ (orient_e y c v ⊗ (orient_e c x v ⊗ lift_e (minus_e x y)) ⊕ orient_e x y c ⊗ (⊝ incircle_e x y c v))))
    (λ x y c v. con (pos 0)) tt

bary_x : (x y c v : Pt ℤ) → orient x y c *ℤ (v.x -ℤ c.x) ≡ orient y c v *ℤ (x.x -ℤ c.x) +ℤ orient c x v *ℤ (y.x -ℤ c.x)
unfolding orient
bary_x = by4 (λ x y c v. orient_e x y c ⊗ (v.x ⊖ c.x)) (λ x y c v. orient_e y c v ⊗ (x.x ⊖ c.x) ⊕ orient_e c x v ⊗ (y.x ⊖ c.x)) tt

bary_y : (x y c v : Pt ℤ) → orient x y c *ℤ (v.y -ℤ c.y) ≡ orient y c v *ℤ (x.y -ℤ c.y) +ℤ orient c x v *ℤ (y.y -ℤ c.y)
unfolding orient
bary_y = by4 (λ x y c v. orient_e x y c ⊗ (v.y ⊖ c.y)) (λ x y c v. orient_e y c v ⊗ (x.y ⊖ c.y) ⊕ orient_e c x v ⊗ (y.y ⊖ c.y)) tt

zeros : (a b p q : ℤ) → a ≡ pos 0 → b ≡ pos 0 → a *ℤ p +ℤ b *ℤ q ≡ pos 0
zeros a b p q e f = ap₂ (λ (s t : ℤ). s *ℤ p +ℤ t *ℤ q) e f ∙ ap₂ (λ (s t : ℤ). s +ℤ t) (zero-*ℤ p) (zero-*ℤ q)

pub same_pt : (u v : Pt ℤ) → u.x -ℤ v.x ≡ pos 0 → u.y -ℤ v.y ≡ pos 0 → u ≡ v
same_pt u v e f = λ i. record { x = eq_of_sub_zero u.x v.x e i; y = eq_of_sub_zero u.y v.y f i }

outside : (x y c v : Pt ℤ) → Pos (orient x y c) → Pos (orient x y v) → ¬ (v ≡ c) → Clear x y c v → NonNeg (orient y c v) → NonNeg (orient c x v) → ⊥
outside x y c v d ec n i ex ey = n (same_pt v c (zero_cancel (orient x y c) (v.x -ℤ c.x) d
    (bary_x x y c v ∙ zeros (orient y c v) (orient c x v) (x.x -ℤ c.x) (y.x -ℤ c.x) ex0 ey0))
    (zero_cancel (orient x y c) (v.y -ℤ c.y) d (bary_y x y c v ∙ zeros (orient y c v) (orient c x v) (x.y -ℤ c.y) (y.y -ℤ c.y) ex0 ey0)))
  where
    last : NonNeg (orient y c v *ℤ (orient c x v *ℤ lift (minus x y)) +ℤ orient x y c *ℤ neg_ℤ (incircle x y c v))
    last = nn+nn (nn*nn ex (nn*nn ey (lift_nn (minus x y)))) (pos*nn d i)

    ly : Pos (lift (minus y c))
    ly = pos_cancel (lift_nn (minus x c)) (both x y c d)

    lx : Pos (lift (minus x c))
    lx = pos_cancel (lift_nn (minus y c)) (pos_by (*ℤ_comm (lift (minus y c)) (lift (minus x c))) (both x y c d))

    ey0 : orient c x v ≡ pos 0
    ey0 = zero_or (orient c x v) ey (λ p. not_zero (pos+nn (pos*pos p (pos*pos ec ly)) (nn+nn (nn*nn ex (nn*nn (pos_nn ec) (pos_nn lx))) last)) (tricirc x y c v))

    ex0 : orient y c v ≡ pos 0
    ex0 = zero_or (orient y c v) ex (λ p. not_zero (nn+pos (nn*nn ey (nn*nn (pos_nn ec) (pos_nn ly))) (pos+nn (pos*pos p (pos*pos ec lx)) last)) (tricirc x y c v))

-- ---- the step

-- needles that touch from the wrong side only touch where they have the same left end
vec_x : (v r c R : Pt ℤ) → orient R c r *ℤ (v.x -ℤ c.x) ≡ orient c R v *ℤ (c.x -ℤ r.x) +ℤ orient r v c *ℤ (R.x -ℤ c.x)
unfolding orient
vec_x = by4 (λ v r c R. orient_e R c r ⊗ (v.x ⊖ c.x)) (λ v r c R. orient_e c R v ⊗ (c.x ⊖ r.x) ⊕ orient_e r v c ⊗ (R.x ⊖ c.x)) tt

vec_y : (v r c R : Pt ℤ) → orient R c r *ℤ (v.y -ℤ c.y) ≡ orient c R v *ℤ (c.y -ℤ r.y) +ℤ orient r v c *ℤ (R.y -ℤ c.y)
unfolding orient
vec_y = by4 (λ v r c R. orient_e R c r ⊗ (v.y ⊖ c.y)) (λ v r c R. orient_e c R v ⊗ (c.y ⊖ r.y) ⊕ orient_e r v c ⊗ (R.y ⊖ c.y)) tt

sides : (v r c R : Pt ℤ) → Apart v r c R → ¬ (v ≡ c) → NonNeg (orient c R v) → NonNeg (orient r v c) → ⊥
sides v r c R a n kv hc = go (sign (orient c R v)) (sign (orient r v c))
  where
    go : Sign (orient c R v) → Sign (orient r v c) → ⊥
    go (is_below_zero p) s = no_sign (orient c R v) kv p
    go (is_pos p) (is_below_zero q) = no_sign (orient r v c) hc q
    go (is_pos p) (is_zero q) = a.qb q (a.q1 kv) p
    go (is_pos p) (is_pos q) = a.qa q (a.q2 hc) (a.q1 kv) p
    go (is_zero p) (is_below_zero q) = no_sign (orient r v c) hc q
    go (is_zero p) (is_pos q) = a.qc p q (a.q2 hc)
    go (is_zero p) (is_zero q) =
        n (same_pt v c (zero_cancel (orient R c r) (v.x -ℤ c.x) (a.q1 kv)
        (vec_x v r c R ∙ zeros (orient c R v) (orient r v c) (c.x -ℤ r.x) (R.x -ℤ c.x) p q))
        (zero_cancel (orient R c r) (v.y -ℤ c.y) (a.q1 kv) (vec_y v r c R ∙ zeros (orient c R v) (orient r v c) (c.y -ℤ r.y) (R.y -ℤ c.y) p q)))

s1_k : (x y c v R : Pt ℤ) → orient x y c *ℤ orient c R v ≡ orient c y v *ℤ orient R c x +ℤ orient c x v *ℤ orient c R y
unfolding orient
s1_k = by5 (λ x y c v R. orient_e x y c ⊗ orient_e c R v) (λ x y c v R. orient_e c y v ⊗ orient_e R c x ⊕ orient_e c x v ⊗ orient_e c R y) tt

s1_end : (x c v r R : Pt ℤ) → (orient c x v +ℤ (orient r v x +ℤ orient v r c)) *ℤ orient c R v +ℤ (orient c x v *ℤ orient R c r +ℤ orient v r c *ℤ orient R c x) ≡ pos 0
unfolding orient
s1_end =
    by5 (λ x c v r R. (orient_e c x v ⊕ (orient_e r v x ⊕ orient_e v r c)) ⊗ orient_e c R v ⊕ (orient_e c x v ⊗ orient_e R c r ⊕ orient_e v r c ⊗ orient_e R c x)) (λ x c v r R. con (pos 0)) tt

s2_ex : (x y c v r : Pt ℤ) → orient r v x *ℤ orient c y v ≡ orient x c v *ℤ orient v r y +ℤ orient x y v *ℤ orient r v c
unfolding orient
s2_ex = by5 (λ x y c v r. orient_e r v x ⊗ orient_e c y v) (λ x y c v r. orient_e x c v ⊗ orient_e v r y ⊕ orient_e x y v ⊗ orient_e r v c) tt

s2_end : (x y c v r R : Pt ℤ) → (orient v r R +ℤ (orient R c v +ℤ orient r v c)) *ℤ (orient x c v +ℤ orient c y v) +ℤ
    (orient R c v *ℤ (orient x y c +ℤ orient y x r) +ℤ orient r v c *ℤ (orient R c x +ℤ orient c R y)) ≡ pos 0
unfolding orient
s2_end x y c v r R =
    solve
    ((orient_e (pt 3) (pt 4) (pt 5) ⊕ (orient_e (pt 5) (pt 2) (pt 3) ⊕ orient_e (pt 4) (pt 3) (pt 2))) ⊗ (orient_e (pt 0) (pt 2) (pt 3) ⊕ orient_e (pt 2)
    (pt 1) (pt 3)) ⊕ (orient_e (pt 5) (pt 2) (pt 3) ⊗ (orient_e (pt 0) (pt 1) (pt 2) ⊕ orient_e (pt 1) (pt 0) (pt 4)) ⊕ orient_e (pt 4) (pt 3)
    (pt 2) ⊗ (orient_e (pt 5) (pt 2) (pt 0) ⊕ orient_e (pt 2) (pt 5) (pt 1))))
    (con (pos 0)) (flat (x ∷ y ∷ c ∷ v ∷ r ∷ R ∷ [])) tt

s3_id : (x y c v r : Pt ℤ) → orient x y v *ℤ orient c x r ≡ orient x y c *ℤ orient r v x +ℤ orient y x r *ℤ orient x c v
unfolding orient
s3_id = by5 (λ x y c v r. orient_e x y v ⊗ orient_e c x r) (λ x y c v r. orient_e x y c ⊗ orient_e r v x ⊕ orient_e y x r ⊗ orient_e x c v) tt

module _ (x y v r c R : Pt ℤ) (p : Pierce x y v r) (o : Over x y c R) (a : Apart v r c R) (n : ¬ (v ≡ c)) (i : Clear x y c v) where
  -- THE STEP: a needle before the apex's pierces the base before the apex
  pub step : Pierce x c v r
  step = record { left = s1; right = s3; before = p.before; after = s2 }
    where
      s1 : Pos (orient x c v)
      s1 = pos_or (orient x c v) (orient c x v) (turn x c v) (λ h. h)
          (λ ey. absurd (bad ey (pos_or (orient c y v) (orient y c v) (turn c y v) (λ h. h) (λ ex. absurd (outside x y c v o.left p.left n i ex ey)))))
        where
          bad : NonNeg (orient c x v) → Pos (orient c y v) → ⊥
          bad ey ex = pos_or (orient v r c) (orient r v c) (turn v r c) cross (sides v r c R a n (pos_nn kv))
            where
              kv : Pos (orient c R v)
              kv = pos_cancel (pos_nn o.left) (pos_by (s1_k x y c v R) (pos+nn (pos*pos ex o.before) (nn*pos ey o.after)))

              cross : Pos (orient v r c) → ⊥
              cross h = not_zero (pos+nn (pos*pos (nn+pos ey (pos+pos p.before h)) kv) (nn+nn (nn*pos ey (a.q1 (pos_nn kv))) (pos_nn (pos*pos h o.before)))) (s1_end x c v r R)

      s2 : Pos (orient v r c)
      s2 = pos_or (orient v r c) (orient r v c) (turn v r c) (λ h. h) (λ h. absurd (bad h))
        where
          bad : NonNeg (orient r v c) → ⊥
          bad hc = pos_or (orient R c v) (orient c R v) (turn R c v) go (λ kv. sides v r c R a n kv hc)
            where
              ex : Pos (orient c y v)
              ex = pos_cancel (pos_nn p.before) (pos_by (s2_ex x y c v r) (pos+nn (pos*pos s1 p.after) (nn*nn (pos_nn p.left) hc)))

              go : Pos (orient R c v) → ⊥
              go kv = not_zero (pos+nn (pos*pos (pos+nn (a.q2 hc) (nn+nn (pos_nn kv) hc)) (pos+pos s1 ex))
                  (nn+nn (pos_nn (pos*pos kv (pos+pos o.left p.right))) (nn*pos hc (pos+pos o.before o.after)))) (s2_end x y c v r R)

      s3 : Pos (orient c x r)
      s3 = pos_cancel (pos_nn p.left) (pos_by (s3_id x y c v r) (pos+pos (pos*pos o.left p.before) (pos*pos p.right s1)))
