-- Float operations on whole numbers up to 2 ^ 53 are exact. `Is x z` says that x is finite and its number is z. Assumes nothing.
use mathlib.Core.Path.{◌≡◌, refl, sym, ap, ap₂, ◌∙◌, subst}
use mathlib.Core.Logic.{◌⊎◌, inl, inr}
use Prim.Native.Nat.{ℕ, zero, suc, ◌+◌, ◌-◌, ◌*◌, ◌^◌, ◌≤◌, ◌<◌, zero-le}
use native.Mathlib.Nat.{zero-mul, mul-zero, mul-one, mul-pos, zero-lt-suc, le_of_lt, mul_assoc, mul_comm, mul-mul-mul_comm, add-mul, mul-sub, mul-lt-mul_of_pos_right, mul-le-mul_right, add-zero, zero-add}
use native.Mathlib.Omega.{arith}
use mathlib.Core.Bool.{Bool, true, false, not}
use lib.IntN.{ℤ, pos, negsuc, neg_ℤ, nat_abs, sub_ℕ, ◌+ℤ◌, ◌-ℤ◌, ◌*ℤ◌, neg_ℤ-neg_ℤ}
use lib.Signed.{lt_z}
use lib.Dec.{T, ltb, ltb→lt, nltb→le, leb-suc-suc}
use lib.Ieee.{Float, nan, inf, fin, binary64, up, down, lt, neg, sum, add, sub, mul, round, unlike, below}
use lib.Ieee.Fits.{down_pos}
use lib.Ieee.Exact.{HasValue}
use lib.Ieee.Back.{round_whole}
use lib.Ieee.Scale.{round_same}
use borrow.Author.Tests.{lt-ltb, le-ltb}
use Rattle.algebra.proofs.Size.{abs_neg}
use Rattle.floats.specs.Whole.{signed, Is, abs_f}

-- ---- integers by sign and size
pub abs_signed : (s : Bool) (n : ℕ) → nat_abs (signed s n) ≡ n
abs_signed false n = refl
abs_signed true zero = refl
abs_signed true (suc n) = refl

neg_signed : (s : Bool) (n : ℕ) → neg_ℤ (signed s n) ≡ signed (not s) n
neg_signed false n = refl
neg_signed true n = neg_ℤ-neg_ℤ (pos n)

mul_signed : (s t : Bool) (a b : ℕ) → signed s a *ℤ signed t b ≡ signed (unlike s t) (a * b)
mul_signed false false a b = refl
mul_signed false true a zero = rw mul-zero
mul_signed false true a (suc b) = refl
mul_signed true false zero b = rw zero-mul
mul_signed true false (suc a) b = refl
mul_signed true true zero zero = refl
mul_signed true true zero (suc b) = rw zero-mul
mul_signed true true (suc a) zero = rw mul-zero
mul_signed true true (suc a) (suc b) = refl

-- a - b
pub sub_le : (a b : ℕ) → b ≤ a → sub_ℕ a b ≡ pos (a - b)
sub_le a b h = rw (le-ltb a b h)

pub sub_lt : (a b : ℕ) → a < b → sub_ℕ a b ≡ neg_ℤ (pos (b - a))
sub_lt a b h = rw (lt-ltb a b h) (go (b - suc a) (b - a) (omega arith))
  where
    go : (k l : ℕ) → l ≡ suc k → negsuc k ≡ neg_ℤ (pos l)
    go k l e = rw e

pos_neg : (a b : ℕ) → pos a +ℤ neg_ℤ (pos b) ≡ sub_ℕ a b
pos_neg a zero = rw add-zero (sym (sub_le a 0 zero-le ∙ ap pos (omega arith)))
pos_neg a (suc b) = refl

neg_pos : (a b : ℕ) → neg_ℤ (pos a) +ℤ pos b ≡ sub_ℕ b a
neg_pos zero b = rw zero-add (sym (sub_le b 0 zero-le ∙ ap pos (omega arith)))
neg_pos (suc a) b = refl

same_neg : (k l : ℕ) → k ≡ l → neg_ℤ (pos k) ≡ neg_ℤ (pos l)
same_neg k l e = ap (λ (i : ℕ). neg_ℤ (pos i)) e

neg_neg : (a b : ℕ) → neg_ℤ (pos a) +ℤ neg_ℤ (pos b) ≡ neg_ℤ (pos (a + b))
neg_neg zero zero = refl
neg_neg zero (suc b) = sub_lt 0 (suc b) (zero-lt-suc b) ∙ same_neg (suc b - 0) (0 + suc b) (omega arith)
neg_neg (suc a) zero = sub_lt 0 (suc a) (zero-lt-suc a) ∙ same_neg (suc a - 0) (suc a + 0) (omega arith)
neg_neg (suc a) (suc b) = go (a + b) (suc a + suc b) (omega arith)
  where
    go : (k l : ℕ) → l ≡ suc (suc k) → negsuc (suc k) ≡ neg_ℤ (pos l)
    go k l e = rw e

pub split : (a b : ℕ) → (a < b) ⊎ (b ≤ a)
split a b = go (ltb a b) (ltb→lt a b) (nltb→le a b)
  where
    go : (t : Bool) → (T t → a < b) → (T (not t) → b ≤ a) → (a < b) ⊎ (b ≤ a)
    go true f g = inl (f tt)
    go false f g = inr (g tt)

sub_mul : (a b c : ℕ) → a * c - b * c ≡ (a - b) * c
sub_mul a b c = ap₂ ◌-◌ (mul_comm a c) (mul_comm b c) ∙ sym (mul-sub c a b) ∙ mul_comm c (a - b)

-- ---- a rounded whole number
pub has→is : (x : Float) (s : Bool) (n : ℕ) → HasValue x s n 1 → Is x (signed s n)
has→is nan s n v = v
has→is (inf t) s n v = v
has→is (fin t m e) s n v = (n, sym (mul-one (m * up e)) ∙ v.1, ap (λ (b : Bool). signed b n) (sym v.0))

rounded : (s : Bool) (a c n : ℕ) → 0 < c → a ≡ n * c → n ≤ 2 ^ 53 → Is (round binary64 s a c) (signed s n)
rounded s a c n C e h =
    subst (λ (x : Float). Is x (signed s n)) (sym (round_same binary64 s a c n 1 C (zero-lt-suc 0) (mul-one a ∙ e)))
    (has→is (round binary64 s n 1) s n (round_whole binary64 s n h))

-- x's size over the common denominator of x and y
pub common : (m u c n d : ℕ) → m * u ≡ n * c → m * u * d ≡ n * (c * d)
common m u c n d h = ap (λ (k : ℕ). k * d) h ∙ mul_assoc n c d

-- ---- the product and the sum, for a claim P on each rounding of a whole number up to `top`: that it is exact, or that its error is small
module _ (P : Float → ℤ → Type 0) (top : ℕ) (rounded : (s : Bool) (a c n : ℕ) → 0 < c → a ≡ n * c → n ≤ top → P (round binary64 s a c) (signed s n)) where
  -- ---- the product
  pub mul_by : (x y : Float) (z w : ℤ) → Is x z → Is y w → nat_abs z * nat_abs w ≤ top → P (mul binary64 x y) (z *ℤ w)
  unfolding mul
  mul_by nan y z w p q h = absurd p
  mul_by (inf s) y z w p q h = absurd p
  mul_by (fin s m e) nan z w p q h = absurd q
  mul_by (fin s m e) (inf t) z w p q h = absurd q
  mul_by (fin s m e) (fin t n d) z w (a, pa, pz) (b, qb, qw) h =
      let k : a * b ≤ top = subst (λ (i : ℕ). i * b ≤ top) (ap nat_abs pz ∙ abs_signed s a) (subst (λ (i : ℕ). nat_abs z * i ≤ top) (ap nat_abs qw ∙ abs_signed t b) h) in
      subst (λ (i : ℤ). P (round binary64 (unlike s t) (m * up e * (n * up d)) (down e * down d)) i) (sym (mul_signed s t a b) ∙ ap₂ ◌*ℤ◌ (sym pz) (sym qw))
      (rounded (unlike s t) (m * up e * (n * up d)) (down e * down d) (a * b) (mul-pos (down_pos e) (down_pos d)) (ap₂ ◌*◌ pa qb ∙ mul-mul-mul_comm a (down e) b (down d)) k)

  -- ---- the sum
  sum_by : (s t : Bool) (a b c : ℕ) → 0 < c → a + b ≤ top → P (sum binary64 s (a * c) t (b * c) c) (signed s a +ℤ signed t b)
  unfolding sum
  sum_by false false a b c C h = rounded false (a * c + b * c) c (a + b) C (sym (add-mul a b c)) h
  sum_by true true a b c C h = subst (λ (i : ℤ). P (round binary64 true (a * c + b * c) c) i) (sym (neg_neg a b)) (rounded true (a * c + b * c) c (a + b) C (sym (add-mul a b c)) h)
  sum_by false true a b c C h = elim (split a b) [
    | inl l ↦
        rw (lt-ltb (a * c) (b * c) (mul-lt-mul_of_pos_right l C))
        (subst (λ (i : ℤ). P (round binary64 true (b * c - a * c) c) i) (sym (pos_neg a b ∙ sub_lt a b l)) (rounded true (b * c - a * c) c (b - a) C (sub_mul b a c) (omega arith)))
    | inr g ↦
        rw (le-ltb (a * c) (b * c) (mul-le-mul_right c g))
        (subst (λ (i : ℤ). P (round binary64 false (a * c - b * c) c) i) (sym (pos_neg a b ∙ sub_le a b g)) (rounded false (a * c - b * c) c (a - b) C (sub_mul a b c) (omega arith)))
  ]
  sum_by true false a b c C h = elim (split a b) [
    | inl l ↦
        rw (lt-ltb (a * c) (b * c) (mul-lt-mul_of_pos_right l C))
        (subst (λ (i : ℤ). P (round binary64 false (b * c - a * c) c) i) (sym (neg_pos a b ∙ sub_le b a (le_of_lt l))) (rounded false (b * c - a * c) c (b - a) C (sub_mul b a c) (omega arith)))
    | inr g ↦
        rw (le-ltb (a * c) (b * c) (mul-le-mul_right c g)) (elim (split b a) [
          | inl l ↦
              rw (lt-ltb (b * c) (a * c) (mul-lt-mul_of_pos_right l C))
              (subst (λ (i : ℤ). P (round binary64 true (a * c - b * c) c) i) (sym (neg_pos a b ∙ sub_lt b a l)) (rounded true (a * c - b * c) c (a - b) C (sub_mul a b c) (omega arith)))
          | inr k ↦
              rw (le-ltb (b * c) (a * c) (mul-le-mul_right c k))
              (subst (λ (i : ℤ). P (round binary64 false (a * c - b * c) c) i) (sym (neg_pos a b ∙ sub_le b a k ∙ ap pos (omega arith)))
              (rounded false (a * c - b * c) c (a - b) C (sub_mul a b c) (omega arith)))
        ])
  ]

  pub add_by : (x y : Float) (z w : ℤ) → Is x z → Is y w → nat_abs z + nat_abs w ≤ top → P (add binary64 x y) (z +ℤ w)
  unfolding add
  add_by nan y z w p q h = absurd p
  add_by (inf s) y z w p q h = absurd p
  add_by (fin s m e) nan z w p q h = absurd q
  add_by (fin s m e) (inf t) z w p q h = absurd q
  add_by (fin s m e) (fin t n d) z w (a, pa, pz) (b, qb, qw) h =
      let k : a + b ≤ top = subst (λ (i : ℕ). i + b ≤ top) (ap nat_abs pz ∙ abs_signed s a) (subst (λ (i : ℕ). nat_abs z + i ≤ top) (ap nat_abs qw ∙ abs_signed t b) h) in
      let c = down e * down d in
      let l : m * up e * down d ≡ a * c = common m (up e) (down e) a (down d) pa in
      let r : n * up d * down e ≡ b * c = common n (up d) (down d) b (down e) qb ∙ ap (λ (i : ℕ). b * i) (mul_comm (down d) (down e)) in
      rw (l, r, pz, qw) (sum_by s t a b c (mul-pos (down_pos e) (down_pos d)) k)

pub mul_is : (x y : Float) (z w : ℤ) → Is x z → Is y w → nat_abs z * nat_abs w ≤ 2 ^ 53 → Is (mul binary64 x y) (z *ℤ w)
mul_is = mul_by Is (2 ^ 53) rounded

pub add_is : (x y : Float) (z w : ℤ) → Is x z → Is y w → nat_abs z + nat_abs w ≤ 2 ^ 53 → Is (add binary64 x y) (z +ℤ w)
add_is = add_by Is (2 ^ 53) rounded

pub neg_is : (x : Float) (z : ℤ) → Is x z → Is (neg x) (neg_ℤ z)
unfolding neg
neg_is nan z p = p
neg_is (inf s) z p = p
neg_is (fin s m e) z (a, pa, pz) = (a, pa, ap neg_ℤ pz ∙ neg_signed s a)

pub sub_is : (x y : Float) (z w : ℤ) → Is x z → Is y w → nat_abs z + nat_abs w ≤ 2 ^ 53 → Is (sub binary64 x y) (z -ℤ w)
unfolding sub
sub_is x y z w p q h = add_is x (neg y) z (neg_ℤ w) p (neg_is y w q) (subst (λ (i : ℕ). nat_abs z + i ≤ 2 ^ 53) (sym (abs_neg w)) h)

-- ---- the size
pub size_is : (x : Float) (z : ℤ) → Is x z → Is (abs_f x) (pos (nat_abs z))
unfolding abs_f
size_is nan z p = p
size_is (inf s) z p = p
size_is (fin s m e) z (a, pa, pz) = (a, pa, ap pos (ap nat_abs pz ∙ abs_signed s a))

-- ---- order
lt_signed : (s t : Bool) (a b : ℕ) → below s a t b ≡ lt_z (signed s a) (signed t b)
lt_signed false false a b = refl
lt_signed false true a zero = sym (le-ltb a 0 zero-le)
lt_signed false true a (suc b) = refl
lt_signed true false zero zero = refl
lt_signed true false zero (suc b) = ap (λ (k : ℕ). ltb 0 k) (zero-add (suc b))
lt_signed true false (suc a) b = lt-ltb 0 (suc a + b) (omega arith)
lt_signed true true zero zero = refl
lt_signed true true zero (suc b) = le-ltb (suc b) 0 zero-le
lt_signed true true (suc a) zero = lt-ltb 0 (suc a) (zero-lt-suc a)
lt_signed true true (suc a) (suc b) = leb-suc-suc (suc b) a

ltb_scale : (a b c : ℕ) → 0 < c → ltb (a * c) (b * c) ≡ ltb a b
ltb_scale a b c C = elim (split a b) [
  | inl l ↦ lt-ltb (a * c) (b * c) (mul-lt-mul_of_pos_right l C) ∙ sym (lt-ltb a b l)
  | inr g ↦ le-ltb (a * c) (b * c) (mul-le-mul_right c g) ∙ sym (le-ltb a b g)
]

below_scale : (s t : Bool) (a b c : ℕ) → 0 < c → below s (a * c) t (b * c) ≡ below s a t b
below_scale false false a b c C = ltb_scale a b c C
below_scale false true a b c C = refl
below_scale true false a b c C = ap (λ (k : ℕ). ltb 0 k) (sym (add-mul a b c)) ∙ ap (λ (k : ℕ). ltb k ((a + b) * c)) (sym (zero-mul c)) ∙ ltb_scale 0 (a + b) c C
below_scale true true a b c C = ltb_scale b a c C

pub lt_is : (x y : Float) (z w : ℤ) → Is x z → Is y w → lt x y ≡ lt_z z w
unfolding lt
lt_is nan y z w p q = absurd p
lt_is (inf s) y z w p q = absurd p
lt_is (fin s m e) nan z w p q = absurd q
lt_is (fin s m e) (inf t) z w p q = absurd q
lt_is (fin s m e) (fin t n d) z w (a, pa, pz) (b, qb, qw) =
    let c = down e * down d in
    let l : m * up e * down d ≡ a * c = common m (up e) (down e) a (down d) pa in
    let r : n * up d * down e ≡ b * c = common n (up d) (down d) b (down e) qb ∙ ap (λ (i : ℕ). b * i) (mul_comm (down d) (down e)) in
    rw (l, r, pz, qw) (below_scale s t a b c (mul-pos (down_pos e) (down_pos d)) ∙ lt_signed s t a b)
