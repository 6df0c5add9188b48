-- The size of a sum, a product and a polynomial's value, computed from a bound for each variable. Assumes nothing.
use mathlib.Core.Path.{◌≡◌, refl, sym, subst}
use mathlib.Core.Bool.{Bool, true, false, not, cond}
use mathlib.Core.List.{List, [], ◌∷◌}
use Prim.Native.Nat.{ℕ, zero, suc, ◌+◌, ◌*◌, ◌-◌, ◌^◌, ◌≤◌, ◌<◌, suc-le-suc}
use native.Mathlib.Nat.{le_trans, le_refl, lt_of_le_of_lt, mul-le-mul, add-le-add}
use native.Mathlib.Omega.{arith}
use lib.Dec.{T, ltb, ltb→lt, leb→le}
use lib.IntN.{ℤ, pos, negsuc, ◌+ℤ◌, ◌*ℤ◌, ◌-ℤ◌, neg_ℤ, nat_abs, sub_ℕ}
use lib.Signed.{mag, ◌≤ℤ◌}
use mir.Syntax.{Width}
use mir.Val.{SFits, hbits}
use Rattle.algebra.specs.Size.{Small}
use Rattle.algebra.proofs.Ring.{Expr, var, con, ◌⊕◌, ◌⊖◌, ◌⊗◌, ⊝◌, eval, look}

-- ---- the size of sums and products

abs_cond : (c : Bool) (x y : ℤ) (n : ℕ) → (T c → nat_abs x ≤ n) → (T (not c) → nat_abs y ≤ n) → nat_abs (cond c x y) ≤ n
abs_cond true x y n f g = f tt
abs_cond false x y n f g = g tt

abs_subℕ : (a b : ℕ) → nat_abs (sub_ℕ a b) ≤ a + b
abs_subℕ a b = abs_cond (ltb a b) (negsuc (b - suc a)) (pos (a - b)) (a + b) (λ t. l a b (ltb→lt a b t)) (λ t. r a b)
  where
    l : (a b : ℕ) → a < b → suc (b - suc a) ≤ a + b
    l a b h = omega arith

    r : (a b : ℕ) → a - b ≤ a + b
    r a b = omega arith

pub abs_neg : (a : ℤ) → nat_abs (neg_ℤ a) ≡ nat_abs a
abs_neg (pos zero) = refl
abs_neg (pos (suc n)) = refl
abs_neg (negsuc n) = refl

pub abs_add : (a b : ℤ) → nat_abs (a +ℤ b) ≤ nat_abs a + nat_abs b
abs_add (pos a) (pos b) = le_refl (a + b)
abs_add (pos a) (negsuc b) = abs_subℕ a (suc b)
abs_add (negsuc a) (pos b) = le_trans (abs_subℕ b (suc a)) (sw a b)
  where
    sw : (a b : ℕ) → b + suc a ≤ suc a + b
    sw a b = omega arith
abs_add (negsuc a) (negsuc b) = ss a b
  where
    ss : (a b : ℕ) → suc (suc (a + b)) ≤ suc a + suc b
    ss a b = omega arith

pub abs_mul : (a b : ℤ) → nat_abs (a *ℤ b) ≡ nat_abs a * nat_abs b
abs_mul (pos a) (pos b) = refl
abs_mul (pos a) (negsuc b) = abs_neg (pos (a * suc b))
abs_mul (negsuc a) (pos b) = abs_neg (pos (suc a * b))
abs_mul (negsuc a) (negsuc b) = refl

pub abs_sub : (a b : ℤ) → nat_abs (a -ℤ b) ≤ nat_abs a + nat_abs b
abs_sub a b = subst (λ (n : ℕ). nat_abs (a -ℤ b) ≤ nat_abs a + n) (abs_neg b) (abs_add a (neg_ℤ b))

pub mag_abs : (a : ℤ) → mag a ≤ nat_abs a
mag_abs (pos n) = le_refl n
mag_abs (negsuc n) = s n
  where
    s : (n : ℕ) → n ≤ suc n
    s n = omega arith

-- ---- an expression's size, from a bound for each variable

abbrev pub look_n : List ℕ → ℕ → ℕ
look_n [] i = 1
look_n (b ∷ bs) zero = b
look_n (b ∷ bs) (suc i) = look_n bs i

abbrev pub Within : List ℤ → List ℕ → Type 0
Within [] [] = Unit {0}
Within [] (b ∷ bs) = ⊥
Within (x ∷ xs) [] = ⊥
Within (x ∷ xs) (b ∷ bs) = (nat_abs x ≤ b) × Within xs bs

-- one bound for every variable
abbrev pub all : ℕ → List ℤ → List ℕ
all k [] = []
all k (x ∷ xs) = k ∷ all k xs

abbrev pub size : Expr → List ℕ → ℕ
size (var i) β = look_n β i
size (con z) β = nat_abs z
size (a ⊕ b) β = size a β + size b β
size (a ⊖ b) β = size a β + size b β
size (a ⊗ b) β = size a β * size b β
size (⊝ a) β = size a β

look_le : (ρ : List ℤ) (β : List ℕ) (i : ℕ) → Within ρ β → nat_abs (look ρ i) ≤ look_n β i
look_le [] [] i w = le_refl 1
look_le [] (b ∷ bs) i w = absurd w
look_le (x ∷ xs) [] i w = absurd w
look_le (x ∷ xs) (b ∷ bs) zero w = w.0
look_le (x ∷ xs) (b ∷ bs) (suc i) w = look_le xs bs i w.1

pub size_le : (e : Expr) (ρ : List ℤ) (β : List ℕ) → Within ρ β → nat_abs (eval e ρ) ≤ size e β
size_le (var i) ρ β w = look_le ρ β i w
size_le (con z) ρ β w = le_refl (nat_abs z)
size_le (a ⊕ b) ρ β w = le_trans (abs_add (eval a ρ) (eval b ρ)) (add-le-add (size_le a ρ β w) (size_le b ρ β w))
size_le (a ⊖ b) ρ β w =
    le_trans (abs_sub (eval a ρ) (eval b ρ)) (add-le-add (size_le a ρ β w) (size_le b ρ β w))
size_le (a ⊗ b) ρ β w =
    subst (λ (n : ℕ). n ≤ size a β * size b β) (sym (abs_mul (eval a ρ) (eval b ρ))) (mul-le-mul (size_le a ρ β w) (size_le b ρ β w))
size_le (⊝ a) ρ β w = subst (λ (n : ℕ). n ≤ size a β) (sym (abs_neg (eval a ρ))) (size_le a ρ β w)

pub small_within : (k : ℕ) (xs : List ℤ) → Small k xs → Within xs (all k xs)
small_within k [] h = tt
small_within k (x ∷ xs) h = (h.0, small_within k xs h.1)

pub fits : (w : Width) (e : Expr) (ρ : List ℤ) (β : List ℕ) → Within ρ β → T (ltb (size e β) (2 ^ hbits w)) → SFits w (eval e ρ)
fits w e ρ β h t =
    record { sfits = lt_of_le_of_lt (le_trans (mag_abs (eval e ρ)) (size_le e ρ β h)) (ltb→lt (size e β) (2 ^ hbits w) t) }

-- between -k and k
pub abs_le : (k : ℕ) (x : ℤ) → neg_ℤ (pos k) ≤ℤ x → x ≤ℤ pos k → nat_abs x ≤ k
abs_le k (pos n) h g = leb→le n k g.le
abs_le zero (negsuc n) h g = absurd h.le
abs_le (suc m) (negsuc n) h g = suc-le-suc (leb→le n m h.le)
