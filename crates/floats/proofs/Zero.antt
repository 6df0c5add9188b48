-- A float compared with zero: its size, and whether it is finite. Assumes nothing.
use mathlib.Core.Path.{◌≡◌, refl, sym, ◌∙◌, subst}
use Prim.Native.Nat.{ℕ, zero, suc, ◌*◌, ◌^◌, ◌<◌, zero-le}
use native.Mathlib.Nat.{zero-mul, mul-one, mul-pos, zero-lt-suc, lt_irrefl, sub_self, le_refl, mul_comm, add-zero, pow-suc}
use mathlib.Core.Bool.{Bool, true, false, not, ◌&&◌, ◌||◌, beq, true≢false, false≢true}
use native.Mathlib.Omega.{arith}
use lib.IntN.{ℤ, pos, negsuc}
use lib.Dec.{T, ltb, eqb, eqb→eq, eqb-suc-zero}
use lib.Pow.{pow_pos}
use lib.Ieee.{Float, nan, inf, fin, binary64, up, down, lt, eq, neg, sub, sum, round, fits, of_bits}
use lib.Ieee.Fits.{up_pos, down_pos}
use lib.Ieee.Exact.{HasValue, round_exact}
use lib.Ieee.Scale.{finite}
use borrow.Author.Tests.{lt-ltb, le-ltb, eq-eqb, ne_eqb, eqb-true}
use Rattle.floats.specs.Whole.{abs_f}

-- 0.0, as a program's literal has it and as a value
abbrev pub O : Float
O = fin false 0 (pos 0)

pub literal : of_bits binary64 0 ≡ O
unfolding of_bits
literal = refl

-- ---- m * 2 ^ e against zero
scaled : (m : ℕ) (e : ℤ) → ltb 0 (m * up e) ≡ ltb 0 m
scaled zero e = rw zero-mul
scaled (suc m) e = lt-ltb 0 (suc m * up e) (mul-pos (zero-lt-suc m) (up_pos e)) ∙ sym (lt-ltb 0 (suc m) (zero-lt-suc m))

pub above_zero : (s : Bool) (m : ℕ) (e : ℤ) → lt O (fin s m e) ≡ not s && ltb 0 m
unfolding lt
above_zero true m e = refl
above_zero false m e = rw (zero-mul, mul-one) (scaled m e)

pub below_zero : (s : Bool) (m : ℕ) (e : ℤ) → lt (fin s m e) O ≡ s && ltb 0 m
unfolding lt
below_zero true m e = rw (mul-one, zero-mul, add-zero) (scaled m e)
below_zero false m e = rw (mul-one, zero-mul) (le-ltb (m * up e) 0 zero-le)

level_zero : (s : Bool) (a : ℕ) → (eqb a 0 && (beq s false || eqb a 0)) ≡ eqb a 0
level_zero s zero = go s
  where
    go : (s : Bool) → (beq s false || true) ≡ true
    go true = refl
    go false = refl
level_zero s (suc a) = rw eqb-suc-zero

eqb_scaled : (m : ℕ) (e : ℤ) → eqb (m * up e) 0 ≡ eqb m 0
eqb_scaled zero e = rw zero-mul
eqb_scaled (suc m) e =
    ne_eqb (suc m * up e) 0 (λ q. lt_irrefl 0 (subst (λ (k : ℕ). 0 < k) q (mul-pos (zero-lt-suc m) (up_pos e))))
    ∙ sym (eqb-suc-zero m)

pub equal_zero : (s : Bool) (m : ℕ) (e : ℤ) → eq (fin s m e) O ≡ eqb m 0
unfolding eq
equal_zero s m e = rw (mul-one, zero-mul) (level_zero s (m * up e) ∙ eqb_scaled m e)

-- ---- the size
pub abs_below : (v : Float) → lt v O ≡ true → neg v ≡ abs_f v
unfolding lt neg abs_f
abs_below nan h = absurd (false≢true h)
abs_below (inf true) h = refl
abs_below (inf false) h = absurd (false≢true h)
abs_below (fin true m e) h = refl
abs_below (fin false m e) h = absurd (false≢true (sym (below_zero false m e) ∙ h))

-- a zero is written one way
pub big : (k : ℕ) → 2 ^ suc k * 1 ≡ 1 → ⊥
big k h =
    let p = pow-suc 2 k in
    let q = pow_pos k in
    omega arith

pub one_zero : (s : Bool) (m : ℕ) (e : ℤ) → T (fits binary64 (fin s m e)) → m ≡ 0 → O ≡ fin false m e
unfolding fits
one_zero s zero (pos zero) t q = refl
one_zero s zero (pos (suc k)) t q = absurd (big k (eqb→eq (2 ^ suc k * 1) 1 t))
one_zero s zero (negsuc k) t q = absurd (big k (mul_comm (2 ^ suc k) 1 ∙ eqb→eq (1 * 2 ^ suc k) 1 t))
one_zero s (suc m) e t q = absurd (omega arith)

pub abs_zero : (v : Float) → T (fits binary64 v) → eq v O ≡ true → O ≡ abs_f v
unfolding eq abs_f
abs_zero nan t h = absurd (false≢true h)
abs_zero (inf s) t h = absurd (false≢true h)
abs_zero (fin s m e) t h = one_zero s m e t (eqb-true m 0 (sym (equal_zero s m e) ∙ h))

pub abs_rest : (v : Float) → lt v O ≡ false → eq v O ≡ false → v ≡ abs_f v
unfolding lt eq abs_f
abs_rest nan h k = refl
abs_rest (inf true) h k = absurd (true≢false h)
abs_rest (inf false) h k = refl
abs_rest (fin false m e) h k = refl
abs_rest (fin true zero e) h k = absurd (true≢false (sym (equal_zero true zero e) ∙ k))
abs_rest (fin true (suc m) e) h k = absurd (true≢false (sym (lt-ltb 0 (suc m) (zero-lt-suc m)) ∙ sym (below_zero true (suc m) e) ∙ h))

-- ---- finite
zero_round : (s : Bool) (c : ℕ) → 0 < c → HasValue (round binary64 s 0 c) s 0 c
zero_round s c h = round_exact binary64 s 0 c 0 0 h (pow_pos 53) (pow_pos 2098) (rw zero-mul (sym (zero-mul c)))

no_value : (m u c : ℕ) → 0 < u → 0 < c → m * u * c ≡ 0 → m ≡ 0
no_value zero u c U C h = refl
no_value (suc m) u c U C h = absurd (lt_irrefl 0 (subst (λ (k : ℕ). 0 < k) h (mul-pos (mul-pos (zero-lt-suc m) U) C)))

is_zero : (x : Float) (s : Bool) (c : ℕ) → 0 < c → HasValue x s 0 c → eq x O ≡ true
is_zero nan s c h v = absurd v
is_zero (inf t) s c h v = absurd v
is_zero (fin t m e) s c h v = equal_zero t m e ∙ eq-eqb m 0 (no_value m (up e) c (up_pos e) h (v.1 ∙ zero-mul (down e)))

less_itself : (s : Bool) (a c : ℕ) → 0 < c → eq (sum binary64 s a (not s) a c) O ≡ true
unfolding sum
less_itself true a c h = rw (le-ltb a a (le_refl a), sub_self) (is_zero (round binary64 false 0 c) false c h (zero_round false c h))
less_itself false a c h = rw (le-ltb a a (le_refl a), sub_self) (is_zero (round binary64 false 0 c) false c h (zero_round false c h))

pub finite_is : (x : Float) → eq (sub binary64 x x) O ≡ finite x
unfolding eq sub
finite_is nan = refl
finite_is (inf true) = refl
finite_is (inf false) = refl
finite_is (fin s m e) = less_itself s (m * up e * down e) (down e * down e) (mul-pos (down_pos e) (down_pos e))
