-- The intake of one coordinate. Assumes nothing.
use Rattle.std.proofs.Common.{◌≡◌, ℕ, zero, suc, ◌+◌, ◌-◌, ◌*◌, ◌/◌, ◌%◌, ◌^◌, ◌<◌, ◌≤◌, min, Bool, true, false, cond, not, ◌&&◌, ◌||◌, T, eqb, ltb, ℤ, pos, negsuc, neg_ℤ, nat_abs, sym, refl, ap, ◌∙◌, subst, ap₂, true≢false, le_trans, le_of_eq, lt_of_lt_of_le, lt_of_le_of_lt, add-zero, mul_assoc, mul_comm, mul-lt-mul_of_pos_right, div-add-mod', zero-mul, mul-one, div-mul-le_self, le_of_mul-le-mul_right, arith, lit<, lit≤, le→leb, eqb→eq, lt→ltb, nltb→le, ltb-false, le-ltb, eq-eqb, ne_eqb}
use native.Mathlib.Nat.{eq_of_mul-eq-mul_right}
use mathlib.Core.Bool.{beq, false≢true}
use lib.IntN.{pos-ne-negsuc}
use lib.Signed.{mag}
use lib.Ieee.{Float, nan, inf, fin, binary64, up, down, le, lt, eq, level, of_int, in_float, to_signed, round}
use lib.Ieee.Fits.{down_pos}
use lib.Ieee.Back.{round_whole}
use lib.Ieee.Scale.{finite}
use Rattle.algebra.proofs.Size.{mag_abs}
use Rattle.floats.specs.Whole.{signed, Is}
use Rattle.floats.proofs.Exact.{abs_signed, has→is, common}
use Rattle.signs.specs.Answers.{limit}
use Rattle.float_signs.specs.Intake.{intake_of}
use Rattle.float_signs.specs.declared.Intake.TheVariants.{Whole, NotFinite, TooLarge, Fraction}

-- limit.0 and -limit.0
abbrev pub top : Float
top = fin false 1 (pos 13)

abbrev pub bottom : Float
bottom = fin true 1 (pos 13)

-- ---- the refusals
pub not_finite : (x : Float) → finite x ≡ false → NotFinite x ≡ intake_of x
unfolding intake_of
not_finite nan h = refl
not_finite (inf s) h = refl
not_finite (fin s m e) h = absurd (true≢false h)

large : (s : Bool) (m : ℕ) (e : ℤ) → ltb (limit * down e) (m * up e) ≡ true → TooLarge (fin s m e) ≡ intake_of (fin s m e)
unfolding intake_of
large s m e h = rw h

pub too_large_above : (x : Float) → finite x ≡ true → lt top x ≡ true → TooLarge x ≡ intake_of x
unfolding lt
too_large_above nan f h = absurd (false≢true f)
too_large_above (inf s) f h = absurd (false≢true f)
too_large_above (fin true m e) f h = absurd (false≢true h)
too_large_above (fin false m e) f h = large false m e (ap (λ (k : ℕ). ltb (limit * down e) k) (sym (mul-one (m * up e))) ∙ h)

pub too_large_below : (x : Float) → finite x ≡ true → lt x bottom ≡ true → TooLarge x ≡ intake_of x
unfolding lt
too_large_below nan f h = absurd (false≢true f)
too_large_below (inf s) f h = absurd (false≢true f)
too_large_below (fin false m e) f h = absurd (false≢true h)
too_large_below (fin true m e) f h = large true m e (ap (λ (k : ℕ). ltb (limit * down e) k) (sym (mul-one (m * up e))) ∙ h)

-- ---- in range: x's size is limit at most
abbrev pub Bounded : Float → Type 0
Bounded nan = ⊥
Bounded (inf s) = ⊥
Bounded (fin s m e) = m * up e ≤ limit * down e

pub bounded : (x : Float) → finite x ≡ true → lt top x ≡ false → lt x bottom ≡ false → Bounded x
unfolding lt
bounded nan f h k = absurd (false≢true f)
bounded (inf s) f h k = absurd (false≢true f)
bounded (fin false m e) f h k = le_trans (le_of_eq (sym (mul-one (m * up e)))) (ltb-false (limit * down e) (m * up e * 1) h)
bounded (fin true m e) f h k = le_trans (le_of_eq (sym (mul-one (m * up e)))) (ltb-false (limit * down e) (m * up e * 1) k)

far_below : (a d : ℕ) → 0 < d → a ≤ limit * d → a * 1 < 2 ^ 63 * d
far_below a d D h = lt_of_le_of_lt (le_trans (le_of_eq (mul-one a)) h) (mul-lt-mul_of_pos_right (lit< tt) D)

or_l : (a b : Bool) → T a → T (a || b)
or_l true b t = tt
or_l false b t = absurd t

pub above_least : (x : Float) → Bounded x → T (le (fin true 1 (pos 63)) x)
unfolding le
above_least nan b = absurd b
above_least (inf s) b = absurd b
above_least (fin false m e) b = or_l (ltb 0 (2 ^ 63 * down e + m * up e * 1)) _ (lt→ltb 0 (2 ^ 63 * down e + m * up e * 1) (let d = down_pos e in omega arith))
above_least (fin true m e) b = or_l (ltb (m * up e * 1) (2 ^ 63 * down e)) _ (lt→ltb (m * up e * 1) (2 ^ 63 * down e) (far_below (m * up e) (down e) (down_pos e) b))

pub below_most : (x : Float) → Bounded x → T (lt x (fin false 1 (pos 63)))
unfolding lt
below_most nan b = absurd b
below_most (inf s) b = absurd b
below_most (fin false m e) b = lt→ltb (m * up e * 1) (2 ^ 63 * down e) (far_below (m * up e) (down e) (down_pos e) b)
below_most (fin true m e) b = lt→ltb 0 (m * up e * 1 + 2 ^ 63 * down e) (let d = down_pos e in omega arith)

-- ---- the whole part
cut : (m : ℕ) (e : ℤ) → m * up e ≤ limit * down e → m * up e / down e ≤ limit
cut m e h = le_of_mul-le-mul_right (le_trans (div-mul-le_self (m * up e) (down e)) h) (down_pos e)

min_l : (a b : ℕ) → a ≤ b → min a b ≡ a
min_l a b h = omega arith

whole_part : (s : Bool) (m : ℕ) (e : ℤ) → m * up e ≤ limit * down e → to_signed 63 (fin s m e) ≡ signed s (m * up e / down e)
unfolding to_signed
whole_part true m e h = ap (λ (k : ℕ). neg_ℤ (pos k)) (min_l (m * up e / down e) (2 ^ 63) (le_trans (cut m e h) (lit≤ tt)))
whole_part false m e h = ap pos (min_l (m * up e / down e) (2 ^ 63 - 1) (le_trans (cut m e h) (lit≤ tt)))

pub part_small : (x : Float) → Bounded x → nat_abs (to_signed 63 x) ≤ limit
part_small nan b = absurd b
part_small (inf s) b = absurd b
part_small (fin s m e) b = le_trans (le_of_eq (ap nat_abs (whole_part s m e b) ∙ abs_signed s (m * up e / down e))) (cut m e b)

pub part_mag : (x : Float) → Bounded x → mag (to_signed 63 x) ≤ limit
part_mag x b = le_trans (mag_abs (to_signed 63 x)) (part_small x b)

pub in_float_lem : (z : ℤ) → nat_abs z ≤ limit → T (in_float binary64 z)
unfolding in_float
in_float_lem (pos n) h = le→leb n (2 ^ 53) (le_trans h (lit≤ tt))
in_float_lem (negsuc n) h = lt→ltb n (2 ^ 53) (lt_of_lt_of_le h (lit≤ tt))

of_int_is : (z : ℤ) → nat_abs z ≤ limit → Is (of_int binary64 z) z
unfolding of_int
of_int_is (pos n) h = has→is (round binary64 false n 1) false n (round_whole binary64 false n (le_trans h (lit≤ tt)))
of_int_is (negsuc n) h = has→is (round binary64 true (suc n) 1) true (suc n) (round_whole binary64 true (suc n) (le_trans h (lit≤ tt)))

-- ---- x against its whole part
opposite : (q b : ℕ) → pos q ≡ neg_ℤ (pos b) → b ≡ 0
opposite q zero h = refl
opposite q (suc b) h = absurd (pos-ne-negsuc q b h)

level_signs : (t s : Bool) (q b : ℕ) → signed s q ≡ signed t b → (A : ℕ) → (b ≡ 0 → A ≡ 0) → (beq t s || eqb A 0) ≡ true
level_signs true true q b h A f = refl
level_signs false false q b h A f = refl
level_signs true false q b h A f = eq-eqb A 0 (f (opposite q b h))
level_signs false true q b h A f = eq-eqb A 0 (f (sym (ap nat_abs h) ∙ abs_signed true q ∙ opposite b q (sym h)))

eq_rest : (a r c d : ℕ) → 0 < d → eqb (a * (c * d)) ((a * c + r) * d) ≡ eqb r 0
eq_rest a r c d D = go (eqb r 0) (eqb→eq r 0) (λ (e : r ≡ 0). eq-eqb r 0 e)
  where
    go : (b : Bool) → (T b → r ≡ 0) → (r ≡ 0 → b ≡ true) → eqb (a * (c * d)) ((a * c + r) * d) ≡ b
    go true f g = eq-eqb (a * (c * d)) ((a * c + r) * d) (sym (mul_assoc a c d) ∙ ap (λ (k : ℕ). k * d) (sym (ap (λ (k : ℕ). a * c + k) (f tt) ∙ add-zero (a * c))))
    go false f g =
        ne_eqb (a * (c * d)) ((a * c + r) * d)
        (λ (e : a * (c * d) ≡ (a * c + r) * d).
        let k = eq_of_mul-eq-mul_right d D (a * c) (a * c + r) (mul_assoc a c d ∙ e) in
        let z : r ≡ 0 = omega arith in
        false≢true (g z))

eq_part : (y : Float) (s : Bool) (m q : ℕ) (e : ℤ) → Is y (signed s q) → m * up e ≡ q * down e + m * up e % down e → eq y (fin s m e) ≡ eqb (m * up e % down e) 0
unfolding eq
eq_part nan s m q e i h = absurd i
eq_part (inf t) s m q e i h = absurd i
eq_part (fin t n d) s m q e (b, qb, qw) h =
    let r = m * up e % down e in
    let same : b ≡ q = sym (abs_signed t b) ∙ sym (ap nat_abs qw) ∙ abs_signed s q in
    let A : n * up d * down e ≡ q * (down e * down d) = common n (up d) (down d) b (down e) qb ∙ ap₂ ◌*◌ same (mul_comm (down d) (down e)) in
    let B : m * up e * down d ≡ (q * down e + r) * down d = ap (λ (k : ℕ). k * down d) h in
    ap₂ (λ (x y : ℕ). level t x s y) A B
    ∙ ap (λ (z : Bool). eqb (q * (down e * down d)) ((q * down e + r) * down d) && z)
    (level_signs t s q b qw (q * (down e * down d)) (λ (z : b ≡ 0). ap (λ (k : ℕ). k * (down e * down d)) (sym same ∙ z) ∙ zero-mul (down e * down d)))
    ∙ and_true (eqb (q * (down e * down d)) ((q * down e + r) * down d))
    ∙ eq_rest q r (down e) (down d) (down_pos d)
  where
    and_true : (b : Bool) → (b && true) ≡ b
    and_true true = refl
    and_true false = refl

pub back_is : (x : Float) (z : ℤ) → Bounded x → z ≡ to_signed 63 x → (b : Bool) → eq (of_int binary64 z) x ≡ b → cond b (Whole z) (Fraction x) ≡ intake_of x
unfolding intake_of
back_is nan z n e b h = absurd n
back_is (inf s) z n e b h = absurd n
back_is (fin s m e) z n p b h =
    let q = m * up e / down e in
    let is : z ≡ signed s q = p ∙ whole_part s m e n in
    let small : nat_abs z ≤ limit = subst (λ (k : ℤ). nat_abs k ≤ limit) (sym p) (part_small (fin s m e) n) in
    let o : Is (of_int binary64 z) (signed s q) = subst (λ (k : ℤ). Is (of_int binary64 z) k) is (of_int_is z small) in
    let t : eqb (m * up e % down e) 0 ≡ b = sym (eq_part (of_int binary64 z) s m q e o (sym (div-add-mod' (m * up e) (down e)))) ∙ h in
    rw (le-ltb (limit * down e) (m * up e) n, t, is)

-- ---- a coordinate that is taken is a whole number within the limit: the tie from the intake to the float signs' promises
no_more : (a r c d : ℕ) → a * d + r ≡ c → r ≡ 0 → c ≡ a * d
no_more a r c d h e = let z : a * d + r ≡ c = h in omega arith

pub taken_is : (x : Float) (z : ℤ) → intake_of x ≡ Whole z → Is x z × (nat_abs z ≤ limit)
unfolding intake_of
taken_is nan z h = absurd (let k : ◌≡◌ {A = ℕ} 0 1 = cc in omega arith)
taken_is (inf s) z h = absurd (let k : ◌≡◌ {A = ℕ} 0 1 = cc in omega arith)
taken_is (fin s m e) z h = go (ltb (limit * down e) (m * up e)) (eqb (m * up e % down e) 0) (nltb→le (limit * down e) (m * up e)) (eqb→eq (m * up e % down e) 0) h
  where
    go : (b c : Bool) → (T (not b) → m * up e ≤ limit * down e) → (T c → m * up e % down e ≡ 0)
        → cond b (TooLarge (fin s m e)) (cond c (Whole (signed s (m * up e / down e))) (Fraction (fin s m e))) ≡ Whole z → Is (fin s m e) z × (nat_abs z ≤ limit)
    go true c f g q = absurd (let k : ◌≡◌ {A = ℕ} 0 1 = cc in omega arith)
    go false false f g q = absurd (let k : ◌≡◌ {A = ℕ} 0 1 = cc in omega arith)
    go false true f g q =
        let k = m * up e / down e in
        let w : z ≡ signed s k = cc in
        ((k, no_more k (m * up e % down e) (m * up e) (down e) (div-add-mod' (m * up e) (down e)) (g tt), w), le_trans (le_of_eq (ap nat_abs w ∙ abs_signed s k)) (cut m e (f tt)))
