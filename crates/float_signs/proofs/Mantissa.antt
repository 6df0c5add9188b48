-- A float's odd mantissa and exponent, from its bit pattern. Assumes nothing.
use Rattle.std.proofs.Common.{Option, Some, None, ◌≡◌, ℕ, zero, suc, ◌+◌, ◌-◌, ◌*◌, ◌/◌, ◌%◌, ◌^◌, ◌<◌, ◌≤◌, Bool, true, false, cond, not, ◌&&◌, T, eqb, ltb, leb, ℤ, pos, negsuc, ◌-ℤ◌, sym, refl, ap, ◌∙◌, subst, inl, inr, true≢false, le_trans, le_of_eq, lt_of_lt_of_le, lt_irrefl, mod-lt, zero-lt-suc, mul_comm, pow-suc, arith, lit≤, eqb→eq, ltb→lt, nltb→le, pow_pos, pow_mono, lt-ltb, eqb-true, le-leb}
use native.Mathlib.Decide.{le_ind}
use mathlib.Core.Bool.{false≢true}
use lib.IntN.{sub_ℕ}
use lib.Signed.{mag}
use lib.Pow.{field}
use lib.Count.{count_trailing_zeros, under, trailing_le}
use lib.Ieee.Fits.{and_l}
use lib.Ieee.{Float, nan, inf, fin, binary64, up, down, minus, odd, lt, eq, fits, is_nan, to_bits, of_bits, of_fields}
use lib.Ieee.Bits.{of_bits-to_bits}
use lib.Ieee.Scale.{finite}
use borrow.Author.Tests.{lt-leb, eqb-false}
use Rattle.floats.specs.Whole.{signed}
use Rattle.floats.proofs.Zero.{O, below_zero, equal_zero, one_zero, big}
use Rattle.floats.proofs.Exact.{abs_signed}
use Rattle.float_signs.specs.Parts.{dyadic, decomp_of, Reduced}
use Rattle.float_signs.specs.declared.Dyadic.{Dyadic}

-- ---- a count of trailing zeros is the same at each width that holds the number
half_pos : (n : ℕ) → 0 < n → n % 2 ≡ 0 → 0 < n / 2
half_pos n h e = omega arith

half_lt : (d n : ℕ) → n < 2 ^ suc d → n / 2 < 2 ^ d
half_lt d n h = let p = pow-suc 2 d in omega arith

tz_more : (d n : ℕ) → 0 < n → n < 2 ^ d → count_trailing_zeros (suc d) n ≡ count_trailing_zeros d n
unfolding count_trailing_zeros
tz_more zero n h l = absurd (omega arith)
tz_more (suc d) n h l = go (n % 2) refl (λ (p : 0 < n / 2). tz_more d (n / 2) p (half_lt d n l))
  where
    go : (r : ℕ) → n % 2 ≡ r → (0 < n / 2 → count_trailing_zeros (suc d) (n / 2) ≡ count_trailing_zeros d (n / 2)) → under r (count_trailing_zeros (suc d) (n / 2)) ≡ under r (count_trailing_zeros d (n / 2))
    go zero e f = ap suc (f (half_pos n h e))
    go (suc r) e f = refl

tz_same : (q : ℕ) → 0 < q → q < 2 ^ 53 → count_trailing_zeros 64 q ≡ count_trailing_zeros 53 q
tz_same q h l = le_ind (λ (m : ℕ). count_trailing_zeros m q ≡ count_trailing_zeros 53 q) refl (λ m k e. tz_more m q h (lt_of_lt_of_le l (pow_mono k)) ∙ e) 64 (lit≤ tt)

pub tz_le : (q : ℕ) → 0 < q → q < 2 ^ 53 → count_trailing_zeros 64 q ≤ 53
tz_le q h l = le_trans (le_of_eq (tz_same q h l)) (trailing_le 53 q)

-- ---- what the code makes of q and k
odd_is : (s : Bool) (q k t : ℕ) → 0 < q → count_trailing_zeros 53 q ≡ t → odd 53 s q k 1074 ≡ fin s (q / 2 ^ t) (minus (k + t) 1074)
unfolding odd
odd_is s zero k t h e = absurd (lt_irrefl 0 h)
odd_is s (suc q) k t h e = ap (λ (t : ℕ). fin s (suc q / 2 ^ t) (minus (k + t) 1074)) e

minus_is : (a : ℕ) → pos a -ℤ pos 1074 ≡ minus a 1074
minus_is a = go (ltb a 1074) refl (ltb→lt a 1074) (nltb→le a 1074)
  where
    go : (b : Bool) → ltb a 1074 ≡ b → (T b → a < 1074) → (T (not b) → 1074 ≤ a) → sub_ℕ a 1074 ≡ minus a 1074
    go true e f g = rw (e, lt-leb 1074 a (f tt))
    go false e f g = rw (e, le-leb 1074 a (g tt))

pub parts_are : (s : Bool) (q k : ℕ) → 0 < q → q < 2 ^ 53 → Some (dyadic (signed s (q / 2 ^ count_trailing_zeros 64 q)) (pos (k + count_trailing_zeros 64 q) -ℤ pos 1074)) ≡ decomp_of (odd 53 s q k 1074)
unfolding decomp_of
parts_are s q k h l =
    ap (λ (e : ℤ). Some (dyadic (signed s (q / 2 ^ count_trailing_zeros 64 q)) e)) (minus_is (k + count_trailing_zeros 64 q)) ∙ sym (ap decomp_of (odd_is s q k (count_trailing_zeros 64 q) h (sym (tz_same q h l))))

-- ---- a finite float that is not zero, by its bits
sign_of : (v : Float) (s : Bool) (m : ℕ) (e : ℤ) → v ≡ fin s m e → eq v O ≡ false → lt v O ≡ s
sign_of v s m e p h =
    ap (λ (x : Float). lt x O) p ∙ below_zero s m e
    ∙ go s (lt-ltb 0 m (pos_of m (eqb-false m 0 (sym (equal_zero s m e) ∙ ap (λ (x : Float). eq x O) (sym p) ∙ h))))
  where
    pos_of : (m : ℕ) → (m ≡ 0 → ⊥) → 0 < m
    pos_of zero f = absurd (f refl)
    pos_of (suc m) f = zero-lt-suc m

    go : (s : Bool) → ltb 0 m ≡ true → (s && ltb 0 m) ≡ s
    go true l = l
    go false l = refl

odd_sign : (v : Float) (s : Bool) (q k : ℕ) → v ≡ odd 53 s q k 1074 → eq v O ≡ false → odd 53 (lt v O) q k 1074 ≡ v
unfolding odd
odd_sign v s zero k p h = ap (λ (b : Bool). odd 53 b 0 k 1074) (sign_of v s 0 (pos 0) p h) ∙ sym p
odd_sign v s (suc q) k p h = ap (λ (b : Bool). odd 53 b (suc q) k 1074) (sign_of v s _ _ p h) ∙ sym p

-- the exponent's field and the digits, as the code reads them
abbrev pub biased_of : Float → ℕ
biased_of v = to_bits binary64 v / 2 ^ 52 % 2 ^ 11

abbrev pub frac_of : Float → ℕ
frac_of v = to_bits binary64 v % 2 ^ 52

by_fields : (v : Float) → T (fits binary64 v) → v ≡ of_fields binary64 (leb (2 ^ 63) (to_bits binary64 v)) (biased_of v) (frac_of v)
unfolding of_bits
by_fields v held =
    sym (of_bits-to_bits binary64 v held)
    ∙ ap (λ (x : ℕ). of_fields binary64 (leb (2 ^ 63) (to_bits binary64 v)) x (to_bits binary64 v % 2 ^ 52)) (field (to_bits binary64 v) 11 52)

field_zero : (v : Float) (s : Bool) (f : ℕ) → v ≡ of_fields binary64 s 0 f → eq v O ≡ false → (0 < f) × (odd 53 (lt v O) f 0 1074 ≡ v)
unfolding of_fields odd
field_zero v s zero p h = absurd (true≢false (sym (ap (λ (x : Float). eq x O) p ∙ equal_zero s 0 (pos 0)) ∙ h))
field_zero v s (suc f) p h = (zero-lt-suc f, odd_sign v s (suc f) 0 p h)

field_more : (v : Float) (s : Bool) (x f : ℕ) → v ≡ of_fields binary64 s (suc x) f → suc x < 2 ^ 11 → finite v ≡ true → eq v O ≡ false → (x < 2046) × (odd 53 (lt v O) (2 ^ 52 + f) x 1074 ≡ v)
unfolding of_fields
field_more v s x f p l i h = go (eqb (suc x) 2047) (eqb f 0) (eqb-false (suc x) 2047) p
  where
    go : (b c : Bool) → (b ≡ false → suc x ≡ 2047 → ⊥) → v ≡ cond b (cond c (inf s) nan) (odd 53 s (2 ^ 52 + f) x 1074) → (x < 2046) × (odd 53 (lt v O) (2 ^ 52 + f) x 1074 ≡ v)
    go true true n q = absurd (false≢true (sym (ap finite q) ∙ i))
    go true false n q = absurd (false≢true (sym (ap finite q) ∙ i))
    go false c n q = (under_top x l (n refl), odd_sign v s (2 ^ 52 + f) x q h)
      where
        under_top : (x : ℕ) → suc x < 2 ^ 11 → (suc x ≡ 2047 → ⊥) → x < 2046
        under_top x l n = omega arith

pub small_field : (v : Float) → T (fits binary64 v) → eq v O ≡ false → biased_of v ≡ 0 → (0 < frac_of v) × (odd 53 (lt v O) (frac_of v) 0 1074 ≡ v)
small_field v held h b = field_zero v (leb (2 ^ 63) (to_bits binary64 v)) (frac_of v) (by_fields v held ∙ ap (λ (x : ℕ). of_fields binary64 (leb (2 ^ 63) (to_bits binary64 v)) x (frac_of v)) b) h

pub large_field : (v : Float) → T (fits binary64 v) → finite v ≡ true → eq v O ≡ false → (x : ℕ) → biased_of v ≡ suc x → (x < 2046) × (odd 53 (lt v O) (2 ^ 52 + frac_of v) x 1074 ≡ v)
large_field v held i h x b =
    field_more v (leb (2 ^ 63) (to_bits binary64 v)) x (frac_of v) (by_fields v held ∙ ap (λ (x : ℕ). of_fields binary64 (leb (2 ^ 63) (to_bits binary64 v)) x (frac_of v)) b)
    (subst (λ (k : ℕ). k < 2 ^ 11) b (mod-lt (to_bits binary64 v / 2 ^ 52) (pow_pos 11))) i h

-- the exponent fits an i32
pub sub_small : (a : ℕ) → a < 2 ^ 31 → mag (pos a -ℤ pos 1074) < 2 ^ 31
sub_small a h = go (ltb a 1074)
  where
    go : (b : Bool) → mag (cond b (negsuc (1074 - suc a)) (pos (a - 1074))) < 2 ^ 31
    go true = omega arith
    go false = omega arith

-- the other answers
pub infinite : (v : Float) → finite v ≡ false → None ≡ decomp_of v
unfolding decomp_of
infinite nan h = refl
infinite (inf s) h = refl
infinite (fin s m e) h = absurd (true≢false h)

-- a float's parts with another sign
abbrev with_sign : Bool → Float → Option Dyadic
with_sign s nan = None
with_sign s (inf t) = None
with_sign s (fin t m e) = Some (dyadic (signed s m) e)

no_sign : (s : Bool) → Some (dyadic (pos 0) (pos 0)) ≡ Some (dyadic (signed s 0) (pos 0))
no_sign true = refl
no_sign false = refl

pub zeros : (v : Float) → T (fits binary64 v) → eq v O ≡ true → Some (dyadic (pos 0) (pos 0)) ≡ decomp_of v
unfolding decomp_of eq
zeros nan t h = absurd (false≢true h)
zeros (inf s) t h = absurd (false≢true h)
zeros (fin s m e) t h = no_sign s ∙ ap (with_sign s) (one_zero s m e t (eqb-true m 0 (sym (equal_zero s m e) ∙ h)))

pub no_nan : (v : Float) → finite v ≡ true → T (not (is_nan v))
unfolding is_nan
no_nan nan h = absurd (false≢true h)
no_nan (inf s) h = tt
no_nan (fin s m e) h = tt

-- ---- the mantissa is odd
pub reduced : (v : Float) → T (fits binary64 v) → Reduced (decomp_of v)
unfolding decomp_of fits
reduced nan t = tt
reduced (inf s) t = tt
reduced (fin s zero e) t = inr (sym (ap zero_part (no_sign s)), plain e (eqb→eq (up e * down e) 1 t))
  where
    zero_part : Option Dyadic → ℤ
    zero_part (Some d) = d.mantissa
    zero_part None = pos 0

    plain : (e : ℤ) → up e * down e ≡ 1 → e ≡ pos 0
    plain (pos zero) h = refl
    plain (pos (suc k)) h = absurd (big k h)
    plain (negsuc k) h = absurd (big k (mul_comm (2 ^ suc k) 1 ∙ h))
reduced (fin s (suc m) e) t =
    let A = eqb (suc m % 2) 1 in
    let B = ltb (suc m) (2 ^ 53) in
    let C = leb (down e) (2 ^ 1074) in
    let D = ltb (suc m * up e) (2 ^ 1024 * down e) in
    inl (ap (λ (k : ℕ). k % 2) (abs_signed s (suc m)) ∙ eqb→eq (suc m % 2) 1 (and_l A B (and_l (A && B) C (and_l (A && B && C) D t))))
