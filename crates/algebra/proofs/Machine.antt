-- Code over signed integers, reflected: that each sum, difference, product and cast fits its type, at any width, by a size that is
-- computed, and that what the machine reads back is the polynomial's value. Assumes nothing.
use mathlib.Core.Path.{◌≡◌, refl, sym, ap, ap₂, ◌∙◌, subst}
use mathlib.Core.Bool.{Bool, true, false, not}
use mathlib.Core.List.{List, [], ◌∷◌}
use Prim.Native.Nat.{ℕ, ◌^◌, ◌≤◌, ◌<◌}
use native.Mathlib.Nat.{le_trans, lt_of_le_of_lt}
use lib.Dec.{T, ltb, ltb→lt}
use lib.IntN.{ℤ, ◌+ℤ◌, ◌*ℤ◌, ◌-ℤ◌, nat_abs}
use lib.Signed.{mag, lt_z, ◌<ℤ◌, ◌≤ℤ◌, lt_z_yes, lt_z_no}
use mir.Syntax.{Width}
use mir.Val.{SFits, hbits, to_z, of_z}
use mir.Facts.{to_z-of_z}
use Rattle.algebra.specs.Size.{Small}
use Rattle.algebra.proofs.Ring.{Expr, var, con, ◌⊕◌, ◌⊖◌, ◌⊗◌, eval, look, same, solve, and, and_l, and_r}
use Rattle.algebra.proofs.Size.{Within, all, size, fits, mag_abs, small_within}

-- ---- code over signed integers. A local holds bits, so what an operation reads of a value z is `to_z w (of_z w z)`
--   arg i        a parameter, or what a call returned
--   wide w a     `a as T`, from the width w to one at least as wide
--   plus w a b   `a + b` at width w; minus, times alike

pub data Code : Type 0 where
  arg : ℕ → Code
  lit : ℤ → Code
  wide : Width → Code → Code
  plus minus times : Width → Code → Code → Code

abbrev pub back : Width → ℤ → ℤ
back w z = to_z w (of_z w z)

-- what an operation's result is, before it is stored as bits
abbrev pub raw : Code → List ℤ → ℤ
raw (arg i) ρ = look ρ i
raw (lit z) ρ = z
raw (wide w a) ρ = back w (raw a ρ)
raw (plus w a b) ρ = back w (raw a ρ) +ℤ back w (raw b ρ)
raw (minus w a b) ρ = back w (raw a ρ) -ℤ back w (raw b ρ)
raw (times w a b) ρ = back w (raw a ρ) *ℤ back w (raw b ρ)

abbrev pub plain : Code → Expr
plain (arg i) = var i
plain (lit z) = con z
plain (wide w a) = plain a
plain (plus w a b) = plain a ⊕ plain b
plain (minus w a b) = plain a ⊖ plain b
plain (times w a b) = plain a ⊗ plain b

abbrev pub under : Width → Code → List ℕ → Bool
under w a β = ltb (size (plain a) β) (2 ^ hbits w)

-- each operand fits
abbrev pub safe : Code → List ℕ → Bool
safe (arg i) β = true
safe (lit z) β = true
safe (wide w a) β = and (under w a β) (safe a β)
safe (plus w a b) β = and (and (under w a β) (safe a β)) (and (under w b β) (safe b β))
safe (minus w a b) β = and (and (under w a β) (safe a β)) (and (under w b β) (safe b β))
safe (times w a b) β = and (and (under w a β) (safe a β)) (and (under w b β) (safe b β))

-- the result fits, and each operand of it
abbrev pub good : Width → Code → List ℕ → Bool
good w c β = and (under w c β) (safe c β)

module _ (ρ : List ℤ) (β : List ℕ) (h : Within ρ β) where
  back_is : (w : Width) (a : Code) → raw a ρ ≡ eval (plain a) ρ → T (under w a β) → back w (raw a ρ) ≡ eval (plain a) ρ
  back_is w a e t = ap (back w) e ∙ to_z-of_z (fits w (plain a) ρ β h t)

  two : (w : Width) (a b : Code) (f : ℤ → ℤ → ℤ) → raw a ρ ≡ eval (plain a) ρ → raw b ρ ≡ eval (plain b) ρ → T (under w a β) → T (under w b β) →
      f (back w (raw a ρ)) (back w (raw b ρ)) ≡ f (eval (plain a) ρ) (eval (plain b) ρ)
  two w a b f d e s t = ap₂ f (back_is w a d s) (back_is w b e t)

  raw_is : (c : Code) → T (safe c β) → raw c ρ ≡ eval (plain c) ρ
  raw_is (arg i) t = refl
  raw_is (lit z) t = refl
  raw_is (wide w a) t = back_is w a (raw_is a (and_r (under w a β) (safe a β) t)) (and_l (under w a β) (safe a β) t)
  raw_is (plus w a b) t =
      let s = and_l (and (under w a β) (safe a β)) (and (under w b β) (safe b β)) t in
      let u = and_r (and (under w a β) (safe a β)) (and (under w b β) (safe b β)) t in
      two w a b (λ (x y : ℤ). x +ℤ y) (raw_is a (and_r (under w a β) (safe a β) s)) (raw_is b (and_r (under w b β) (safe b β) u)) (and_l (under w a β) (safe a β) s) (and_l (under w b β) (safe b β) u)
  raw_is (minus w a b) t =
      let s = and_l (and (under w a β) (safe a β)) (and (under w b β) (safe b β)) t in
      let u = and_r (and (under w a β) (safe a β)) (and (under w b β) (safe b β)) t in
      two w a b (λ (x y : ℤ). x -ℤ y) (raw_is a (and_r (under w a β) (safe a β) s)) (raw_is b (and_r (under w b β) (safe b β) u)) (and_l (under w a β) (safe a β) s) (and_l (under w b β) (safe b β) u)
  raw_is (times w a b) t =
      let s = and_l (and (under w a β) (safe a β)) (and (under w b β) (safe b β)) t in
      let u = and_r (and (under w a β) (safe a β)) (and (under w b β) (safe b β)) t in
      two w a b (λ (x y : ℤ). x *ℤ y) (raw_is a (and_r (under w a β) (safe a β) s)) (raw_is b (and_r (under w b β) (safe b β) u)) (and_l (under w a β) (safe a β) s) (and_l (under w b β) (safe b β) u)

  -- a need: the result fits
  pub code_fits : (w : Width) (c : Code) → T (good w c β) → SFits w (raw c ρ)
  code_fits w c t =
      subst (λ (z : ℤ). SFits w z) (sym (raw_is c (and_r (under w c β) (safe c β) t))) (fits w (plain c) ρ β h (and_l (under w c β) (safe c β) t))

  -- what is read back of the result
  pub code_is : (w : Width) (c : Code) → T (good w c β) → back w (raw c ρ) ≡ eval (plain c) ρ
  code_is w c t = back_is w c (raw_is c (and_r (under w c β) (safe c β) t)) (and_l (under w c β) (safe c β) t)

  -- the same, as another expression of the same polynomial
  pub code_poly : (w : Width) (c : Code) (e : Expr) → T (good w c β) → T (same (plain c) e) → back w (raw c ρ) ≡ eval e ρ
  code_poly w c e t s = code_is w c t ∙ solve (plain c) e ρ s

-- ---- values that are all at most k in size

module _ (w : Width) (k : ℕ) (ρ : List ℤ) (h : Small k ρ) where
  pub fits_small : (c : Code) → T (good w c (all k ρ)) → SFits w (raw c ρ)
  fits_small c t = code_fits ρ (all k ρ) (small_within k ρ h) w c t

  pub is_small : (c : Code) (e : Expr) → T (good w c (all k ρ)) → T (same (plain c) e) → back w (raw c ρ) ≡ eval e ρ
  is_small c e t s = code_poly ρ (all k ρ) (small_within k ρ h) w c e t s

-- ---- values that go through bits unchanged: what a call is passed, and what it returns

abbrev pub backs : Width → List ℤ → List ℤ
backs w [] = []
backs w (x ∷ xs) = back w x ∷ backs w xs

small_sfits : (w : Width) (k : ℕ) (z : ℤ) → nat_abs z ≤ k → T (ltb k (2 ^ hbits w)) → SFits w z
small_sfits w k z h t = record { sfits = lt_of_le_of_lt (le_trans (mag_abs z) h) (ltb→lt k (2 ^ hbits w) t) }

pub back_same : (w : Width) (k : ℕ) (z : ℤ) → nat_abs z ≤ k → T (ltb k (2 ^ hbits w)) → back w z ≡ z
back_same w k z h t = to_z-of_z (small_sfits w k z h t)

pub backs_same : (w : Width) (k : ℕ) (ρ : List ℤ) → Small k ρ → T (ltb k (2 ^ hbits w)) → backs w ρ ≡ ρ
backs_same w k [] h t = refl
backs_same w k (x ∷ xs) h t = ap₂ (λ (y : ℤ) (ys : List ℤ). y ∷ ys) (back_same w k x h.0 t) (backs_same w k xs h.1 t)

pub backs_small : (w : Width) (k : ℕ) (ρ : List ℤ) → Small k ρ → T (ltb k (2 ^ hbits w)) → Small k (backs w ρ)
backs_small w k ρ h t = subst (λ (xs : List ℤ). Small k xs) (sym (backs_same w k ρ h t)) h

-- each fits the width
abbrev pub Fit : Width → List ℤ → Type 0
Fit w [] = Unit {0}
Fit w (x ∷ xs) = SFits w x × Fit w xs

pub backs_fit : (w : Width) (ρ : List ℤ) → Fit w ρ → backs w ρ ≡ ρ
backs_fit w [] h = refl
backs_fit w (x ∷ xs) h = ap₂ (λ (y : ℤ) (ys : List ℤ). y ∷ ys) (to_z-of_z h.0) (backs_fit w xs h.1)

-- a call returned r, the value of e at arguments that went through bits of width w; r is returned, through bits of width v
pub passed : (w v : Width) (k : ℕ) (ρ : List ℤ) → Small k ρ → T (ltb k (2 ^ hbits w)) → (e : Expr) → T (ltb (size e (all k ρ)) (2 ^ hbits v)) → (r : ℤ) → r ≡ eval e (backs w ρ) → back v r ≡ eval e ρ
passed w v k ρ h t e s r p =
    ap (back v) (p ∙ ap (eval e) (backs_same w k ρ h t)) ∙ to_z-of_z (fits v e ρ (all k ρ) (small_within k ρ h) s)

-- ---- tests of signed integers, as a branch leaves them: `flag ≡ true` or `flag ≡ false`

true_t : (b : Bool) → b ≡ true → T b
true_t b e = subst T (sym e) tt

false_t : (b : Bool) → b ≡ false → T (not b)
false_t b e = subst (λ (x : Bool). T (not x)) (sym e) tt

pub lt_true : (w : Width) (a b : ℤ) → SFits w a → SFits w b → lt_z (back w a) (back w b) ≡ true → a <ℤ b
lt_true w a b f g e = lt_z_yes (true_t (lt_z a b) (sym (ap₂ lt_z (to_z-of_z f) (to_z-of_z g)) ∙ e))

pub lt_false : (w : Width) (a b : ℤ) → SFits w a → SFits w b → lt_z (back w a) (back w b) ≡ false → b ≤ℤ a
lt_false w a b f g e = lt_z_no (false_t (lt_z a b) (sym (ap₂ lt_z (to_z-of_z f) (to_z-of_z g)) ∙ e))

-- a bound on what a call was passed, an element that the slice's rule bounds by its type
pub back_abs : (w : Width) (k : ℕ) (z : ℤ) → mag z < 2 ^ hbits w → nat_abs (back w z) ≤ k → nat_abs z ≤ k
back_abs w k z f h = subst (λ (y : ℤ). nat_abs y ≤ k) (to_z-of_z {w = w} {z = z} (record { sfits = f })) h

-- a test of two computed values
module _ (ρ : List ℤ) (β : List ℕ) (h : Within ρ β) (w : Width) (a b : Code) (s : T (good w a β)) (t : T (good w b β)) where
  pub code_lt_true : lt_z (back w (raw a ρ)) (back w (raw b ρ)) ≡ true → eval (plain a) ρ <ℤ eval (plain b) ρ
  code_lt_true e = lt_z_yes (true_t (lt_z (eval (plain a) ρ) (eval (plain b) ρ)) (sym (ap₂ lt_z (code_is ρ β h w a s) (code_is ρ β h w b t)) ∙ e))

  pub code_lt_false : lt_z (back w (raw a ρ)) (back w (raw b ρ)) ≡ false → eval (plain b) ρ ≤ℤ eval (plain a) ρ
  code_lt_false e = lt_z_no (false_t (lt_z (eval (plain a) ρ) (eval (plain b) ρ)) (sym (ap₂ lt_z (code_is ρ β h w a s) (code_is ρ β h w b t)) ∙ e))
