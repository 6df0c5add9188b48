-- A number is between two others exactly where the product of its differences from them is not positive, and two numbers have opposite
-- signs exactly where their product is negative. Assumes nothing.
use mathlib.Core.Path.{◌≡◌, refl, sym, ap, ◌∙◌, subst}
use mathlib.Core.Bool.{Bool, true, false, not, ◌&&◌, ◌||◌}
use mathlib.Core.List.{[], ◌∷◌}
use lib.IntN.{ℤ, pos, neg_ℤ, ◌-ℤ◌, ◌*ℤ◌, zero-*ℤ, *ℤ-zero, neg_ℤ-neg_ℤ, +ℤ_idl}
use lib.Signed.{lt_z, le_z}
use Rattle.algebra.specs.Order.{Pos}
use Rattle.algebra.specs.Tests.{posb}
use Rattle.algebra.proofs.Ring.{var, ◌⊖◌, ⊝◌, solve}
use Rattle.algebra.proofs.Order.{Sign, is_pos, is_below_zero, is_zero, sign}
use Rattle.plane.proofs.Sign.{sg, eq_b, sg_mul, posb_yes, posb_no}
use Rattle.tables.specs.Refusals.{between, opposed}
use Rattle.segments.proofs.Compare.{lt_sub, le_not}

-- ---- a number is zero, or it or its negation is positive

pub data Side (z : ℤ) : Type 0 where
  nil : z ≡ pos 0 → Side z
  on : (s : Bool) → Pos (sg s z) → Side z

pub side : (z : ℤ) → Side z
side z = go (sign z)
  where
    go : Sign z → Side z
    go (is_pos h) = on true h
    go (is_below_zero h) = on false h
    go (is_zero e) = nil e

-- The side tells what the tests of a number's sign answer.
pub on_pos : (s : Bool) (z : ℤ) → Pos (sg s z) → posb z ≡ s
on_pos true z h = posb_yes z h
on_pos false z h = posb_no z h

pub on_neg : (s : Bool) (z : ℤ) → Pos (sg s z) → posb (neg_ℤ z) ≡ not s
on_neg true z h = posb_no (neg_ℤ z) (subst Pos (sym (neg_ℤ-neg_ℤ z)) h)
on_neg false z h = posb_yes (neg_ℤ z) h

-- ---- the product

product : (u v : ℤ) → not (posb (u *ℤ v)) ≡ (not (posb (neg_ℤ u)) && not (posb v)) || (not (posb (neg_ℤ v)) && not (posb u))
product u v = go (side u) (side v)
  where
    both : (s t : Bool) → not (eq_b s t) ≡ (not (not s) && not t) || (not (not t) && not s)
    both true true = refl
    both true false = refl
    both false true = refl
    both false false = refl

    first : (s : Bool) → true ≡ (not (not s) && true) || (true && not s)
    first true = refl
    first false = refl

    second : (s : Bool) → true ≡ (true && not s) || (not (not s) && true)
    second true = refl
    second false = refl

    go : Side u → Side v → not (posb (u *ℤ v)) ≡ (not (posb (neg_ℤ u)) && not (posb v)) || (not (posb (neg_ℤ v)) && not (posb u))
    go (on s h) (on t k) = rw (on_pos (eq_b s t) (u *ℤ v) (sg_mul s t u v h k), on_pos s u h, on_neg s u h, on_pos t v k, on_neg t v k) (both s t)
    go (on s h) (nil e) = rw (e, *ℤ-zero u, on_pos s u h, on_neg s u h) (first s)
    go (nil e) (on s h) = rw (e, zero-*ℤ v, on_pos s v h, on_neg s v h) (second s)
    go (nil e) (nil i) = rw (e, i)

-- ---- the comparisons, by the differences

le_diff : (a z : ℤ) → le_z z a ≡ not (posb (z -ℤ a))
le_diff a z = le_not z a ∙ ap not (lt_sub a z)

ge_diff : (a z : ℤ) → le_z a z ≡ not (posb (neg_ℤ (z -ℤ a)))
ge_diff a z = le_diff z a ∙ ap (λ (x : ℤ). not (posb x)) (solve (var 0 ⊖ var 1) (⊝ (var 1 ⊖ var 0)) (a ∷ z ∷ []) tt)

pub between_product : (a b z : ℤ) → le_z ((z -ℤ a) *ℤ (z -ℤ b)) (pos 0) ≡ between a b z
between_product a b z = le_not ((z -ℤ a) *ℤ (z -ℤ b)) (pos 0) ∙ product (z -ℤ a) (z -ℤ b) ∙ sym (rw (ge_diff a z, le_diff b z, ge_diff b z, le_diff a z))

-- ---- opposite signs

pub opposed_product : (y z : ℤ) → lt_z (y *ℤ z) (pos 0) ≡ opposed y z
opposed_product y z = lt_sub (y *ℤ z) (pos 0) ∙ ap posb (+ℤ_idl (neg_ℤ (y *ℤ z))) ∙ go (side y) (side z)
  where
    both : (s t : Bool) → not (eq_b s t) ≡ (s && not t) || (not s && t)
    both true true = refl
    both true false = refl
    both false true = refl
    both false false = refl

    never : (s : Bool) → false ≡ (s && false) || (not s && false)
    never true = refl
    never false = refl

    go : Side y → Side z → posb (neg_ℤ (y *ℤ z)) ≡ opposed y z
    go (on s h) (on t k) = rw (on_neg (eq_b s t) (y *ℤ z) (sg_mul s t y z h k), on_pos s y h, on_neg s y h, on_pos t z k, on_neg t z k) (both s t)
    go (on s h) (nil e) = rw (e, *ℤ-zero y, on_pos s y h, on_neg s y h) (never s)
    go (nil e) w = rw (e, zero-*ℤ z)
