-- Signs are tests that compute. This file has what they say, the sign of a product and of a sum, and laws of what is not negative.
-- Assumes nothing.
use mathlib.Core.Path.{◌≡◌, refl, sym, ap, ◌∙◌, subst}
use mathlib.Core.Bool.{Bool, true, false, not, cond}
use lib.Dec.{T, eqb→eq, eqb_refl}
use lib.IntN.{ℤ, pos, negsuc, ◌+ℤ◌, ◌*ℤ◌, neg_ℤ, neg_ℤ-neg_ℤ, neg_ℤ-+ℤ, +ℤ_invl}
use lib.Signed.{lt_z_yes}
use Rattle.algebra.specs.Tests.{posb, eq_z}
use Rattle.algebra.specs.Order.{Pos, NonNeg}
use Rattle.algebra.proofs.Laws.{neg-*ℤ, *ℤ-neg}
use Rattle.algebra.proofs.Ring.{and}
use Rattle.algebra.proofs.Order.{pos_by, nn_by, nn_pos, pos_nn, pos*pos, pos+pos, pos+nn, not_both, not_zero, Sign, is_pos, is_below_zero, is_zero, sign}
use Rattle.algebra.proofs.Sum.{by_bool}

-- This is z, or its negation.
abbrev pub sg : Bool → ℤ → ℤ
sg true z = z
sg false z = neg_ℤ z

abbrev pub eq_b : Bool → Bool → Bool
eq_b true b = b
eq_b false b = not b

-- This is a test as a number: 1 where it holds and 0 where it does not.
abbrev pub ind : Bool → ℤ
ind b = cond b (pos 1) (pos 0)

-- ---- what a test says

pub posb_yes : (z : ℤ) → Pos z → posb z ≡ true
posb_yes z h = by_bool (posb z) (λ e. e) (λ e. absurd (subst T e h.lt))

pub posb_pos : (z : ℤ) → posb z ≡ true → Pos z
posb_pos z e = lt_z_yes (subst T (sym e) tt)

pub posb_no : (z : ℤ) → Pos (neg_ℤ z) → posb z ≡ false
posb_no z h = by_bool (posb z) (λ e. absurd (not_both (posb_pos z e) h)) (λ e. e)

-- What is not zero has a sign.
pub sg_pos : (z : ℤ) → ¬ (z ≡ pos 0) → Pos (sg (posb z) z)
sg_pos z h = go (sign z)
  where
    go : Sign z → Pos (sg (posb z) z)
    go (is_pos p) = subst (λ (b : Bool). Pos (sg b z)) (sym (posb_yes z p)) p
    go (is_below_zero n) = subst (λ (b : Bool). Pos (sg b z)) (sym (posb_no z n)) n
    go (is_zero e) = absurd (h e)

pub posb_neg : (z : ℤ) → ¬ (z ≡ pos 0) → posb (neg_ℤ z) ≡ not (posb z)
posb_neg z h = go (sign z)
  where
    go : Sign z → posb (neg_ℤ z) ≡ not (posb z)
    go (is_pos p) = posb_no (neg_ℤ z) (subst Pos (sym (neg_ℤ-neg_ℤ z)) p) ∙ ap not (sym (posb_yes z p))
    go (is_below_zero n) = posb_yes (neg_ℤ z) n ∙ ap not (sym (posb_no z n))
    go (is_zero e) = absurd (h e)

pub and_1 : (a b : Bool) → and a b ≡ true → a ≡ true
and_1 true b e = refl
and_1 false b e = e

pub and_2 : (a b : Bool) → and a b ≡ true → b ≡ true
and_2 true b e = e
and_2 false b e = by_bool b (λ q. q) (λ q. absurd (subst T (sym e) tt))

pub eq_b_eq : (a b : Bool) → eq_b a b ≡ true → a ≡ b
eq_b_eq true true e = refl
eq_b_eq true false e = sym e
eq_b_eq false true e = e
eq_b_eq false false e = refl

pub eq_z_eq : (a b : ℤ) → T (eq_z a b) → a ≡ b
eq_z_eq (pos m) (pos n) t = ap pos (eqb→eq m n t)
eq_z_eq (pos m) (negsuc n) t = absurd t
eq_z_eq (negsuc m) (pos n) t = absurd t
eq_z_eq (negsuc m) (negsuc n) t = ap negsuc (eqb→eq m n t)

pub eq_z_refl : (a : ℤ) → T (eq_z a a)
eq_z_refl (pos n) = eqb_refl n
eq_z_refl (negsuc n) = eqb_refl n

-- ---- the sign of a product and of a sum

pub sg_mul : (s t : Bool) (a b : ℤ) → Pos (sg s a) → Pos (sg t b) → Pos (sg (eq_b s t) (a *ℤ b))
sg_mul true true a b h k = pos*pos h k
sg_mul true false a b h k = pos_by (sym (*ℤ-neg a b)) (pos*pos h k)
sg_mul false true a b h k = pos_by (sym (neg-*ℤ a b)) (pos*pos h k)
sg_mul false false a b h k = pos_by (sym (neg-*ℤ a (neg_ℤ b) ∙ ap neg_ℤ (*ℤ-neg a b) ∙ neg_ℤ-neg_ℤ (a *ℤ b))) (pos*pos h k)

pub sg_add : (s : Bool) (a b : ℤ) → Pos (sg s a) → Pos (sg s b) → Pos (sg s (a +ℤ b))
sg_add true a b h k = pos+pos h k
sg_add false a b h k = pos_by (neg_ℤ-+ℤ a b) (pos+pos h k)

pub sg_zero : (s : Bool) (z : ℤ) → z ≡ pos 0 → Pos (sg s z) → ⊥
sg_zero true z e h = not_zero h e
sg_zero false z e h = not_zero h (ap neg_ℤ e)

-- ---- what is not negative

pub nn_zero : (z : ℤ) → z ≡ pos 0 → NonNeg z
nn_zero z e = nn_by e (nn_pos 0)

-- Its negation is not positive.
pub nn_clash : {X : Type 0} (z : ℤ) → NonNeg z → Pos (neg_ℤ z) → X
nn_clash z h k = absurd (not_zero (pos+nn k h) (+ℤ_invl z))

pub nn_strict : (z : ℤ) → NonNeg z → ¬ (z ≡ pos 0) → Pos z
nn_strict z h n = go (sign z)
  where
    go : Sign z → Pos z
    go (is_pos p) = p
    go (is_zero e) = absurd (n e)
    go (is_below_zero k) = nn_clash z h k

-- A positive factor falls away.
pub nn_cancel : {d z : ℤ} → Pos d → NonNeg (d *ℤ z) → NonNeg z
nn_cancel {d} {z} h k = go (sign z)
  where
    go : Sign z → NonNeg z
    go (is_pos p) = pos_nn p
    go (is_zero e) = nn_zero z e
    go (is_below_zero n) = nn_clash (d *ℤ z) k (pos_by (sym (*ℤ-neg d z)) (pos*pos h n))

pub not_posb : (z : ℤ) → posb z ≡ false → NonNeg (neg_ℤ z)
not_posb z e = go (sign z)
  where
    go : Sign z → NonNeg (neg_ℤ z)
    go (is_pos p) = absurd (subst T (sym (posb_yes z p) ∙ e) tt)
    go (is_below_zero n) = pos_nn n
    go (is_zero r) = nn_zero (neg_ℤ z) (ap neg_ℤ r)
