-- The order of ℤ against 0, and what sums, products and squares do to it. Assumes nothing.
use mathlib.Core.Path.{◌≡◌, refl, sym, ap, ◌∙◌, subst}
use Prim.Native.Nat.{ℕ, zero, suc, ◌+◌, ◌*◌, ◌<◌, zero-le, suc-le-suc}
use native.Mathlib.Nat.{mul-pos}
use native.Mathlib.Omega.{arith}
use lib.Dec.{ltb→lt, lt→ltb, le→leb}
use lib.IntN.{ℤ, pos, negsuc, ◌+ℤ◌, ◌*ℤ◌, neg_ℤ, *ℤ-zero}
use lib.Signed.{◌≤ℤ◌, <ℤ_irrefl, clash_ℤ}
use Rattle.algebra.specs.Order.{Pos, NonNeg}
use Rattle.algebra.proofs.Laws.{*ℤ-neg}

pos_of : (n : ℕ) → 0 < n → Pos (pos n)
pos_of n h = record { lt = lt→ltb 0 n h }

of_pos : (n : ℕ) → Pos (pos n) → 0 < n
of_pos n h = ltb→lt 0 n h.lt

pub nn_pos : (n : ℕ) → NonNeg (pos n)
nn_pos n = record { le = le→leb 0 n zero-le }

-- by an equation
pub pos_by : {a b : ℤ} → a ≡ b → Pos b → Pos a
pos_by {a} {b} e h = subst Pos (sym e) h

pub nn_by : {a b : ℤ} → a ≡ b → NonNeg b → NonNeg a
nn_by {a} {b} e h = subst NonNeg (sym e) h

pub pos_nn : {a : ℤ} → Pos a → NonNeg a
pos_nn {a = pos n} h = nn_pos n
pos_nn {a = negsuc n} h = absurd h.lt

add_pos_l : (m n : ℕ) → 0 < m → 0 < m + n
add_pos_l m n h = omega arith

add_pos_r : (m n : ℕ) → 0 < n → 0 < m + n
add_pos_r m n h = omega arith

-- sums
pub pos+nn : {a b : ℤ} → Pos a → NonNeg b → Pos (a +ℤ b)
pos+nn {a = pos m} {b = pos n} h k = pos_of (m + n) (add_pos_l m n (of_pos m h))
pos+nn {a = pos m} {b = negsuc n} h k = absurd k.le
pos+nn {a = negsuc m} {b} h k = absurd h.lt

pub nn+pos : {a b : ℤ} → NonNeg a → Pos b → Pos (a +ℤ b)
nn+pos {a = pos m} {b = pos n} h k = pos_of (m + n) (add_pos_r m n (of_pos n k))
nn+pos {a = pos m} {b = negsuc n} h k = absurd k.lt
nn+pos {a = negsuc m} {b} h k = absurd h.le

pub pos+pos : {a b : ℤ} → Pos a → Pos b → Pos (a +ℤ b)
pos+pos h k = pos+nn h (pos_nn k)

pub nn+nn : {a b : ℤ} → NonNeg a → NonNeg b → NonNeg (a +ℤ b)
nn+nn {a = pos m} {b = pos n} h k = nn_pos (m + n)
nn+nn {a = pos m} {b = negsuc n} h k = absurd k.le
nn+nn {a = negsuc m} {b} h k = absurd h.le

-- products
pub pos*pos : {a b : ℤ} → Pos a → Pos b → Pos (a *ℤ b)
pos*pos {a = pos m} {b = pos n} h k = pos_of (m * n) (mul-pos (of_pos m h) (of_pos n k))
pos*pos {a = pos m} {b = negsuc n} h k = absurd k.lt
pos*pos {a = negsuc m} {b} h k = absurd h.lt

pub nn*nn : {a b : ℤ} → NonNeg a → NonNeg b → NonNeg (a *ℤ b)
nn*nn {a = pos m} {b = pos n} h k = nn_pos (m * n)
nn*nn {a = pos m} {b = negsuc n} h k = absurd k.le
nn*nn {a = negsuc m} {b} h k = absurd h.le

pub sq_nn : (a : ℤ) → NonNeg (a *ℤ a)
sq_nn (pos n) = nn_pos (n * n)
sq_nn (negsuc n) = nn_pos (suc n * suc n)

-- the sign, as a decision
pub data Sign (z : ℤ) : Type 0 where
  is_below_zero : Pos (neg_ℤ z) → Sign z
  is_zero : z ≡ pos 0 → Sign z
  is_pos : Pos z → Sign z

pub sign : (z : ℤ) → Sign z
sign (pos zero) = is_zero refl
sign (pos (suc n)) = is_pos (pos_of (suc n) (suc-le-suc zero-le))
sign (negsuc n) = is_below_zero (pos_of (suc n) (suc-le-suc zero-le))

pub not_both : {z : ℤ} → Pos z → Pos (neg_ℤ z) → ⊥
not_both {z = pos zero} h k = <ℤ_irrefl h
not_both {z = pos (suc n)} h k = k.lt
not_both {z = negsuc n} h k = h.lt

pub not_zero : {z : ℤ} → Pos z → z ≡ pos 0 → ⊥
not_zero {z} h e = <ℤ_irrefl (subst Pos e h)

-- a product is positive, and one factor is not negative: so is the other positive
pub pos_cancel : {a b : ℤ} → NonNeg a → Pos (a *ℤ b) → Pos b
pos_cancel {a} {b} h k = go (sign b)
  where
    go : Sign b → Pos b
    go (is_pos p) = p
    go (is_zero e) = absurd (not_zero k (ap (λ (x : ℤ). a *ℤ x) e ∙ *ℤ-zero a))
    go (is_below_zero n) = absurd (clash_ℤ k (neg_nn (nn_by (sym (*ℤ-neg a b)) (nn*nn h (pos_nn n)))))
      where
        neg_nn : {z : ℤ} → NonNeg (neg_ℤ z) → z ≤ℤ pos 0
        neg_nn {z = pos zero} q = q
        neg_nn {z = pos (suc n)} q = absurd q.le
        neg_nn {z = negsuc n} q = record { le = tt }
