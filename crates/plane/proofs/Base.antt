-- The lines of two sides of a counterclockwise triangle meet in a corner only, and the points of one such line are collinear.
-- Assumes nothing.
use mathlib.Core.Path.{◌≡◌, sym, ap, ap₂, ◌∙◌}
use mathlib.Core.List.{[], ◌∷◌}
use lib.IntN.{ℤ, pos, ◌+ℤ◌, ◌-ℤ◌, ◌*ℤ◌, neg_ℤ, zero-*ℤ}
use Rattle.algebra.specs.Order.{Pos}
use Rattle.algebra.proofs.Laws.{*ℤ-neg, eq_of_sub_zero}
use Rattle.algebra.proofs.Ring.{var, con, ◌⊕◌, ◌⊖◌, ◌⊗◌, ⊝◌, solve, solve0}
use Rattle.algebra.proofs.Order.{pos_by, pos*pos, not_zero, Sign, is_pos, is_below_zero, is_zero, sign}
use Rattle.plane.specs.Points.{Pt}
use Rattle.plane.specs.Determinants.{orient}
use Rattle.plane.specs.Base.{Side, s0, s1, s2, next, area_of_base}
use Rattle.plane.proofs.Orient.{orient_cyc, orient_swap, orient_sum, pluecker, bary_x, bary_y}

pub pt_eq : (p q : Pt ℤ) → p.x ≡ q.x → p.y ≡ q.y → p ≡ q
pt_eq p q e k = λ i. record { x = e i; y = k i }

pub zero_cancel : {d z : ℤ} → Pos d → d *ℤ z ≡ pos 0 → z ≡ pos 0
zero_cancel {d} {z} h e = go (sign z)
  where
    go : Sign z → z ≡ pos 0
    go (is_zero r) = r
    go (is_pos p) = absurd (not_zero (pos*pos h p) e)
    go (is_below_zero n) = absurd (not_zero (pos*pos h n) (*ℤ-neg d z ∙ ap neg_ℤ e))

zero2 : {d z o r : ℤ} (p s : ℤ) → Pos d → d *ℤ z ≡ o *ℤ p +ℤ r *ℤ s → o ≡ pos 0 → r ≡ pos 0 → z ≡ pos 0
zero2 p s h e i j =
    zero_cancel h (e ∙ ap₂ (λ (m n : ℤ). m *ℤ p +ℤ n *ℤ s) i j ∙ ap₂ (λ (m n : ℤ). m +ℤ n) (zero-*ℤ p) (zero-*ℤ s))

collinear : (a b c u v : Pt ℤ) → orient a b c *ℤ orient a u v ≡ orient a b u *ℤ orient a c v +ℤ orient a b v *ℤ neg_ℤ (orient a c u)
collinear a b c u v =
    solve0 (var 0 ⊗ var 1) (var 2 ⊗ var 3 ⊕ var 4 ⊗ (⊝ var 5)) (var 0 ⊗ var 1 ⊖ var 2 ⊗ var 3 ⊕ var 4 ⊗ var 5) (con (pos 1))
    (orient a b c ∷ orient a u v ∷ orient a b u ∷ orient a c v ∷ orient a b v ∷ orient a c u ∷ []) tt (pluecker a b c u v)

-- Where a sum of three is zero, and so are its first and its last, the middle one is zero.
middle : (x y z w : ℤ) → x +ℤ y +ℤ z ≡ w → x ≡ pos 0 → z ≡ pos 0 → w ≡ pos 0 → y ≡ pos 0
middle x y z w s i j k =
    solve (var 0) (con (pos 0) ⊕ var 0 ⊕ con (pos 0)) (y ∷ []) tt ∙ ap₂ (λ (m n : ℤ). m +ℤ y +ℤ n) (sym i) (sym j) ∙ s ∙ k

module _ (a b c : Pt ℤ) (ccw : Pos (orient a b c)) where
  -- Two points of the line a b are in line with a, and with b.
  pub flat_a : (u v : Pt ℤ) → orient a b u ≡ pos 0 → orient a b v ≡ pos 0 → orient u v a ≡ pos 0
  flat_a u v i j = sym (orient_cyc a u v) ∙ zero2 (orient a c v) (neg_ℤ (orient a c u)) ccw (collinear a b c u v) i j

  pub flat_b : (u v : Pt ℤ) → orient a b u ≡ pos 0 → orient a b v ≡ pos 0 → orient u v b ≡ pos 0
  flat_b u v i j =
      sym (orient_cyc b u v) ∙
      middle (orient a b v) (orient b u v) (orient u a v) (orient a b u) (orient_sum a b u v) j
      (orient_swap u a v ∙ ap neg_ℤ (orient_cyc a u v ∙ flat_a u v i j)) i

  -- The lines a b and b c meet in b only.
  pub corner : (p : Pt ℤ) → orient a b p ≡ pos 0 → orient b c p ≡ pos 0 → p ≡ b
  corner p i j =
      pt_eq p b (eq_of_sub_zero p.x b.x (zero2 (c.x -ℤ b.x) (a.x -ℤ b.x) ccw (bary_x a b c p) i j))
      (eq_of_sub_zero p.y b.y (zero2 (c.y -ℤ b.y) (a.y -ℤ b.y) ccw (bary_y a b c p) i j))

-- A counterclockwise base is counterclockwise from each of its corners on.
pub base_turned : (B : Side → Pt ℤ) → Pos (area_of_base B) → (i : Side) → Pos (orient (B i) (B (next i)) (B (next (next i))))
base_turned B h s0 = h
base_turned B h s1 = pos_by (sym (orient_cyc (B s0) (B s1) (B s2))) h
base_turned B h s2 = pos_by (orient_cyc (B s2) (B s0) (B s1)) h
