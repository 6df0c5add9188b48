-- The apex over a base: of a chain all of whose corners lie strictly to the left of the base, the one that the scan chooses has no
-- other in its circle. Assumes nothing.
use mathlib.Core.Bool.{Bool, true, false, cond}
use mathlib.Core.List.{[], ◌∷◌}
use mathlib.Core.Path.{◌≡◌, sym, ap, ◌∙◌, subst}
use Prim.Native.Nat.{ℕ, zero, suc, ◌+◌, ◌≤◌}
use native.Mathlib.Decide.{ℕ_discrete}
use native.Mathlib.Omega.{arith}
use lib.Dec.{T}
use lib.IntN.{ℤ, ◌+ℤ◌, ◌-ℤ◌, ◌*ℤ◌, neg_ℤ, +ℤ_invl}
use Rattle.algebra.proofs.Laws.{*ℤ-neg}
use Rattle.algebra.proofs.Order.{pos_by, nn_by, pos_nn, nn+nn, nn*nn, nn_pos, pos*pos, pos+nn, not_zero, Sign, is_pos, is_below_zero, is_zero, sign}
use Rattle.algebra.proofs.Ring.{Expr, ◌⊕◌, ◌⊖◌, ◌⊗◌, ⊝◌, solve}
use Rattle.algebra.proofs.Sum.{by_bool, self_neg}
use Rattle.algebra.specs.Order.{Pos, NonNeg}
use Rattle.algebra.specs.Tests.{posb}
use Rattle.plane.proofs.Circle.{incircle_swap_last}
use Rattle.plane.proofs.Polynomials.{PtE, orient_e, incircle_e, pt, flat, by4}
use Rattle.plane.proofs.Sign.{posb_yes, posb_pos}
use Rattle.plane.specs.Determinants.{orient, incircle}
use Rattle.plane.specs.Points.{Pt}
use Rattle.cavities.specs.Choices.{dot, Clear, replaces, choice, Chosen}

-- (a - z) · (b - z)
abbrev dot_e : PtE → PtE → PtE → Expr
dot_e a b z = (a.x ⊖ z.x) ⊗ (b.x ⊖ z.x) ⊕ (a.y ⊖ z.y) ⊗ (b.y ⊖ z.y)

-- the circles through a and b are ordered by dot over orientation
pub pencil : (a b c d : Pt ℤ) → incircle a b c d ≡ dot a b c *ℤ orient a b d -ℤ dot a b d *ℤ orient a b c
unfolding incircle orient dot
pencil = by4 incircle_e (λ a b c d. dot_e a b c ⊗ orient_e a b d ⊖ dot_e a b d ⊗ orient_e a b c) tt

chain_poly : (a b c d e : Pt ℤ) → orient a b d *ℤ neg_ℤ (incircle a b c e) ≡ orient a b c *ℤ neg_ℤ (incircle a b d e) +ℤ orient a b e *ℤ neg_ℤ (incircle a b c d)
unfolding incircle orient
chain_poly a b c d e =
    solve (orient_e (pt 0) (pt 1) (pt 3) ⊗ (⊝ incircle_e (pt 0) (pt 1) (pt 2) (pt 4)))
    (orient_e (pt 0) (pt 1) (pt 2) ⊗ (⊝ incircle_e (pt 0) (pt 1) (pt 3) (pt 4)) ⊕ orient_e (pt 0) (pt 1) (pt 4) ⊗ (⊝ incircle_e (pt 0) (pt 1) (pt 2) (pt 3)))
    (flat (a ∷ b ∷ c ∷ d ∷ e ∷ [])) tt

-- not negative, and its negation positive
no_sign : {X : Type 0} (z : ℤ) → NonNeg z → Pos (neg_ℤ z) → X
no_sign z h k = absurd (not_zero (pos+nn k h) (+ℤ_invl z))

nn_cancel : (a b : ℤ) → Pos a → NonNeg (a *ℤ b) → NonNeg b
nn_cancel a b h k = go (sign b)
  where
    go : Sign b → NonNeg b
    go (is_pos p) = pos_nn p
    go (is_zero e) = nn_by e (nn_pos 0)
    go (is_below_zero n) = no_sign (a *ℤ b) k (pos_by (sym (*ℤ-neg a b)) (pos*pos h n))

not_pos : (z : ℤ) → posb z ≡ false → NonNeg (neg_ℤ z)
not_pos z e = go (sign z)
  where
    go : Sign z → NonNeg (neg_ℤ z)
    go (is_pos p) = absurd (subst T (sym (posb_yes z p) ∙ e) tt)
    go (is_zero q) = nn_by (ap neg_ℤ q) (nn_pos 0)
    go (is_below_zero n) = pos_nn n

module _ (a b : Pt ℤ) where
  replaces_left : (c v : Pt ℤ) → Pos (orient a b c) → replaces a b c v ≡ posb (incircle a b c v)
  unfolding replaces
  replaces_left c v o = ap (λ (t : Bool). cond t (posb (incircle a b c v)) (cond (posb (neg_ℤ (orient a b c))) (posb (incircle a c b v)) true)) (posb_yes (orient a b c) o)

  clear_trans : (c d e : Pt ℤ) → Pos (orient a b c) → Pos (orient a b d) → Pos (orient a b e) → Clear a b c d → Clear a b d e → Clear a b c e
  clear_trans c d e oc od oe h k =
      nn_cancel (orient a b d) (neg_ℤ (incircle a b c e)) od (nn_by (chain_poly a b c d e) (nn+nn (nn*nn (pos_nn oc) k) (nn*nn (pos_nn oe) h)))

  clear_self : (c : Pt ℤ) → Clear a b c c
  clear_self c = nn_by (ap neg_ℤ (self_neg (incircle a b c c) (incircle_swap_last a b c c))) (nn_pos 0)

  pub choice_clear : (z : ℕ → Pt ℤ) (lo n : ℕ) → ((x : ℕ) → lo ≤ x → x ≤ lo + n → Pos (orient a b (z x))) → Chosen a b z lo n (choice a b z lo n)
  unfolding choice
  choice_clear z lo zero left = record {
    low = omega arith;
    high = omega arith;
    clear = λ x l h. let e : lo ≡ x = omega arith in subst (λ (y : ℕ). Clear a b (z lo) (z y)) e (clear_self (z lo));
  }
  choice_clear z lo (suc n) left = go (choice a b z lo n) (choice_clear z lo n (λ x l h. left x l (omega arith)))
    where
      go : (r : ℕ) → Chosen a b z lo n r → Chosen a b z lo (suc n) (cond (replaces a b (z r) (z (lo + suc n))) (lo + suc n) r)
      go r c = by_bool (replaces a b (z r) (z (lo + suc n))) taken kept
        where
          new : ℕ
          new = lo + suc n

          old_left : Pos (orient a b (z r))
          old_left = left r c.low (high' r c.high)
            where
              high' : (r : ℕ) → r ≤ lo + n → r ≤ lo + suc n
              high' r h = omega arith

          new_left : Pos (orient a b (z new))
          new_left = left new (omega arith) (omega arith)

          is : replaces a b (z r) (z new) ≡ posb (incircle a b (z r) (z new))
          is = replaces_left (z r) (z new) old_left

          taken : replaces a b (z r) (z new) ≡ true → Chosen a b z lo (suc n) (cond (replaces a b (z r) (z new)) new r)
          taken e = subst (λ (t : Bool). Chosen a b z lo (suc n) (cond t new r)) (sym e) (record {
            low = omega arith;
            high = omega arith;
            clear = λ x l h. at x l h (ℕ_discrete x new);
          })
            where
              better : Clear a b (z new) (z r)
              better = pos_nn (pos_by (sym (incircle_swap_last a b (z r) (z new))) (posb_pos (incircle a b (z r) (z new)) (sym is ∙ e)))

              at : (x : ℕ) → lo ≤ x → x ≤ lo + suc n → Dec (x ≡ new) → Clear a b (z new) (z x)
              at x l h (yes q) = subst (λ (y : ℕ). Clear a b (z new) (z y)) (sym q) (clear_self (z new))
              at x l h (no q) = clear_trans (z new) (z r) (z x) new_left old_left (left x l h) better (c.clear x l (omega arith))

          kept : replaces a b (z r) (z new) ≡ false → Chosen a b z lo (suc n) (cond (replaces a b (z r) (z new)) new r)
          kept e = subst (λ (t : Bool). Chosen a b z lo (suc n) (cond t new r)) (sym e) (record {
            low = c.low;
            high = let h = c.high in omega arith;
            clear = λ x l h. at x l h (ℕ_discrete x new);
          })
            where
              at : (x : ℕ) → lo ≤ x → x ≤ lo + suc n → Dec (x ≡ new) → Clear a b (z r) (z x)
              at x l h (yes q) = subst (λ (y : ℕ). Clear a b (z r) (z y)) (sym q) (not_pos (incircle a b (z r) (z new)) (sym is ∙ e))
              at x l h (no q) = c.clear x l (omega arith)
