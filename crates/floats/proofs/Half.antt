-- Floats of at most a half against whole numbers, and the least normal number against them: what a test of a float against an error
-- bound tells where the numbers are whole. Assumes nothing.
use mathlib.Core.Path.{◌≡◌, refl, sym, ap, ◌∙◌, subst}
use Prim.Native.Nat.{ℕ, zero, suc, ◌+◌, ◌*◌, ◌^◌, ◌≤◌, ◌<◌, zero-le}
use native.Mathlib.Nat.{zero-mul, mul-one, one-mul, mul-pos, zero-lt-suc, lt_irrefl, le_trans, le_of_eq, le_of_lt, lt_of_lt_of_le, mul_assoc, mul_comm, mul_left_comm, mul-lt-mul_of_pos_right, mul-le-mul_right}
use native.Mathlib.Omega.{arith}
use mathlib.Core.Bool.{Bool, true, false, ◌&&◌, ◌||◌, cond, beq, true≢false}
use lib.IntN.{ℤ, pos, negsuc, nat_abs, pos-ne-negsuc}
use lib.Dec.{T, ltb, eqb, ltb→lt, eqb→eq}
use lib.Pow.{pow_pos}
use lib.Ieee.{Float, nan, inf, fin, binary64, up, down, low, emax, prec, le, lt, mul, round, units, odd, below}
use lib.Ieee.Fits.{down_pos, round_is}
use lib.Ieee.Exact.{HasValue, odd_sign}
use lib.Ieee.Order.{round_mono, le_of_values, kept, drop}
use lib.Ieee.Scale.{finite}
use borrow.Author.Tests.{lt-ltb, le-ltb, ne_eqb}
use Rattle.floats.specs.Whole.{signed, Is, abs_f, min_positive}
use Rattle.floats.proofs.Exact.{abs_signed}

is_true : (b : Bool) → T b → b ≡ true
is_true true t = refl
is_true false t = absurd t

-- ---- a float is zero exactly if its whole number is
pub no_size : (m u n c : ℕ) → 0 < u → m * u ≡ n * c → n ≡ 0 → m ≡ 0
no_size zero u n c U h e = refl
no_size (suc m) u n c U h e = absurd (lt_irrefl 0 (subst (λ (k : ℕ). 0 < k) (h ∙ ap (λ (k : ℕ). k * c) e ∙ zero-mul c) (mul-pos (zero-lt-suc m) U)))

pub no_number : (m u n c : ℕ) → 0 < c → m * u ≡ n * c → m ≡ 0 → n ≡ 0
no_number m u n c C h e = no_size n c m u C (sym h) e

-- ---- a positive whole number, as a value
pub positive_is : (x : Float) (n : ℕ) → Is x (pos (suc n)) → HasValue x false (suc n) 1
positive_is nan n p = p
positive_is (inf s) n p = p
positive_is (fin false m e) n (a, pa, pz) = (refl, mul-one (m * up e) ∙ pa ∙ ap (λ (k : ℕ). k * down e) (sym (ap nat_abs pz)))
positive_is (fin true m e) n (zero, pa, pz) = absurd (lt_irrefl 0 (lt_of_lt_of_le (zero-lt-suc n) (le_of_eq (ap nat_abs pz))))
positive_is (fin true m e) n (suc a, pa, pz) = absurd (pos-ne-negsuc (suc n) a pz)

pub finite_is : (x : Float) (z : ℤ) → Is x z → finite x ≡ true
finite_is nan z p = absurd p
finite_is (inf s) z p = absurd p
finite_is (fin s m e) z p = refl

-- ---- the permanent's test
pub normal : (x : Float) (n : ℕ) → Is x (pos (suc n)) → le min_positive x ≡ true
normal x n p = is_true (le min_positive x) (le_of_values min_positive x 1 (2 ^ 1022) (suc n) 1 (pow_pos 1022) (zero-lt-suc 0) (refl, refl) (positive_is x n p)
    (le_trans (pow_pos 1022) (mul-le-mul_right (2 ^ 1022) (zero-lt-suc n))))

zero_below : (s t : Bool) (d k : ℕ) → 0 < d → k ≡ 0 → (below false d s k || (eqb d k && t)) ≡ false
zero_below true t d k D e = rw (ne_eqb d k (λ (q : d ≡ k). lt_irrefl 0 (subst (λ (i : ℕ). 0 < i) (q ∙ e) D)))
zero_below false t d k D e = rw (e, le-ltb d 0 zero-le, ne_eqb d 0 (λ (q : d ≡ 0). lt_irrefl 0 (subst (λ (i : ℕ). 0 < i) q D)))

signed_zero : (s : Bool) (a : ℕ) → pos 0 ≡ signed s a → a ≡ 0
signed_zero s a h = sym (ap nat_abs h ∙ abs_signed s a)

pub not_normal : (x : Float) → Is x (pos 0) → le min_positive x ≡ false
unfolding le
not_normal nan p = absurd p
not_normal (inf s) p = absurd p
not_normal (fin s m e) (a, pa, pz) =
    zero_below s (beq false s || eqb (1 * down e) 0) (1 * down e) (m * up e * 2 ^ 1022) (mul-pos (zero-lt-suc 0) (down_pos e))
    (ap (λ (k : ℕ). k * 2 ^ 1022) (pa ∙ ap (λ (k : ℕ). k * down e) (signed_zero s a pz) ∙ zero-mul (down e)))

-- ---- a half
abbrev half : Float
half = fin false 1 (negsuc 0)

-- ---- round, with no sign, is an infinity or has no sign
abbrev Unsigned : Float → Type 0
Unsigned nan = ⊥
Unsigned (inf s) = s ≡ false
Unsigned (fin s m e) = s ≡ false

units_unsigned : (q k : ℕ) → Unsigned (units binary64 false q k)
unfolding units
units_unsigned q k = go (ltb (q * 2 ^ k) (2 ^ (low binary64 + suc (emax binary64))))
  where
    of_value : (x : Float) (a c : ℕ) → HasValue x false a c → Unsigned x
    of_value nan a c v = v
    of_value (inf s) a c v = absurd v
    of_value (fin s m e) a c v = v.0

    go : (b : Bool) → Unsigned (cond b (odd (suc (prec binary64)) false q k (low binary64)) (inf false))
    go true = of_value (odd (suc (prec binary64)) false q k (low binary64)) (q * 2 ^ k) (2 ^ low binary64) (odd_sign (suc (prec binary64)) false q k (low binary64))
    go false = refl

round_unsigned : (a c : ℕ) → Unsigned (round binary64 false a c)
round_unsigned a c =
    subst Unsigned (sym (round_is binary64 false a c)) (units_unsigned (kept 53 (a * 2 ^ low binary64) c) (drop 53 (a * 2 ^ low binary64) c))

-- ---- the bound k * p, for a k = K / 2 ^ (E + 1) and a p that is small enough, is at most a half: it is below each whole number from 1 on, and not below 0
half_is : round binary64 false 1 2 ≡ half
unfolding round
half_is = refl

or_le : (a b : ℕ) (t : Bool) → T (ltb a b || (eqb a b && t)) → a ≤ b
or_le a b t = go (ltb a b) (eqb a b) t (ltb→lt a b) (eqb→eq a b)
  where
    go : (x y z : Bool) → (T x → a < b) → (T y → a ≡ b) → T (x || (y && z)) → a ≤ b
    go true y z f g h = le_of_lt (f tt)
    go false true z f g h = le_of_eq (g tt)
    go false false z f g h = absurd h

-- x has no sign and is at most a half
abbrev pub Low : Float → Type 0
Low nan = ⊥
Low (inf s) = ⊥
Low (fin s m e) = (s ≡ false) × (m * up e * 2 ≤ down e)

low_of_le : (x : Float) → Unsigned x → T (le x half) → Low x
unfolding le
low_of_le nan u t = absurd u
low_of_le (inf true) u t = absurd (true≢false u)
low_of_le (inf false) u t = absurd t
low_of_le (fin true m e) u t = absurd (true≢false u)
low_of_le (fin false m e) u t = (refl, le_trans (or_le (m * up e * 2) (1 * down e) true t) (le_of_eq (one-mul (down e))))

rounded_low : (a c : ℕ) → 0 < c → a * 2 ≤ c → Low (round binary64 false a c)
rounded_low a c C h =
    low_of_le (round binary64 false a c) (round_unsigned a c)
    (subst (λ (x : Float). T (le (round binary64 false a c) x)) half_is (round_mono binary64 a c 1 2 C (zero-lt-suc 1) (le_trans h (le_of_eq (sym (one-mul c))))))

-- against a whole number's size
less : (a b c d n : ℕ) → a * 2 ≤ c → 0 < c → 0 < d → b ≡ suc n * d → a * d < b * c
less a b c d n h C D e =
    let l : a < c = omega arith in
    lt_of_lt_of_le (mul-lt-mul_of_pos_right l D) (le_trans (le_of_eq (mul_comm c d))
    (mul-le-mul_right c (le_trans (le_trans (le_of_eq (sym (one-mul d))) (mul-le-mul_right d (zero-lt-suc n))) (le_of_eq (sym e)))))

pub low_below : (x y : Float) (z : ℤ) (n : ℕ) → Low x → Is y z → nat_abs z ≡ suc n → lt x (abs_f y) ≡ true
unfolding lt abs_f
low_below nan y z n p q h = absurd p
low_below (inf s) y z n p q h = absurd p
low_below (fin true m e) y z n p q h = absurd (true≢false p.0)
low_below (fin false m e) nan z n p q h = absurd q
low_below (fin false m e) (inf t) z n p q h = absurd q
low_below (fin false m e) (fin t k d) z n p (b, qb, qw) h =
    lt-ltb (m * up e * down d) (k * up d * down e)
    (less (m * up e) (k * up d) (down e) (down d) n p.1 (down_pos e) (down_pos d) (qb ∙ ap (λ (i : ℕ). i * down d) (sym (abs_signed t b) ∙ sym (ap nat_abs qw) ∙ h)))

pub low_not_below : (x y : Float) → Low x → Is y (pos 0) → lt x (abs_f y) ≡ false
unfolding lt abs_f
low_not_below nan y p q = absurd p
low_not_below (inf s) y p q = absurd p
low_not_below (fin true m e) y p q = absurd (true≢false p.0)
low_not_below (fin false m e) nan p q = absurd q
low_not_below (fin false m e) (inf t) p q = absurd q
low_not_below (fin false m e) (fin t k d) p (b, qb, qw) =
    rw (qb ∙ ap (λ (i : ℕ). i * down d) (signed_zero t b qw) ∙ zero-mul (down d), zero-mul (down e)) (le-ltb (m * up e * down d) 0 zero-le)

-- ---- the product
pub product_low : (K E : ℕ) (p : Float) (n : ℕ) → Is p (pos (suc n)) → K * suc n * 2 ≤ 2 ^ suc E → Low (mul binary64 (fin false K (negsuc E)) p)
unfolding mul
product_low K E nan n i h = absurd i
product_low K E (inf s) n i h = absurd i
product_low K E (fin s m e) n i h =
    let v = positive_is (fin s m e) n i in
    let q : m * up e ≡ suc n * down e = sym (mul-one (m * up e)) ∙ v.1 in
    rw v.0
    (rounded_low (K * 1 * (m * up e)) (2 ^ suc E * down e) (mul-pos (pow_pos (suc E)) (down_pos e))
    (le_trans (le_of_eq (ap (λ (i : ℕ). K * 1 * i * 2) q ∙ ap (λ (i : ℕ). i * (suc n * down e) * 2) (mul-one K) ∙ simp (mul_assoc, mul_comm, mul_left_comm))) (mul-le-mul_right (down e) h)))
