use Rattle.std.proofs.Common.{Option, ◌≡◌, ℕ, suc, ◌+◌, ◌-◌, ◌/◌, ◌^◌, ◌<◌, true, false, T, sym, ap, ◌∙◌, subst, ap₂, mod-lt, arith, pow_pos}
use lib.Bits.{bit_and, bit_or, and_mask, or_shifted_r}
use lib.Ieee.{Float, binary64, of_bits, to_bits, fits, odd, lt, eq}
use lib.Ieee.Scale.{finite}
use Rattle.float_signs.specs.Parts.{decomp_of, Reduced}
use Rattle.float_signs.specs.declared.Dyadic.{Dyadic}
use Rattle.floats.proofs.Zero.{O}
use Rattle.float_signs.proofs.Mantissa.{biased_of, frac_of, small_field, large_field, infinite, zeros, no_nan, reduced}
use Rattle.float_signs.proofs.Library.{finite_told}
use Rattle.float_signs.proofs.decomp.Goals as goal
use Rattle.float_signs.proofs.decomp.Goals.{Else-biased-eq0, Else-v, Start, Then-biased-eq0, Then-is_finite}

held : (c : Start) → T (fits binary64 c.args.v)
held c = subst T (sym c.well_formed.0.1) tt

both : (c : Start) {r : Option Dyadic} → r ≡ decomp_of c.args.v → (r ≡ decomp_of c.args.v) × Reduced r
both c {r} h = (h, subst Reduced (sym h) (reduced c.args.v (held c)))

is_fin : (c : Then-is_finite) → finite c.args.v ≡ true
is_fin c = finite_told _ c.is_finite.ensures.value c.if-is_finite.true

pub returns-then-v : goal.returns-then-v
unfolding of_bits
returns-then-v c = let the_clauses = both (goal.at.returns-then-v c).Start (zeros _ (held (goal.at.returns-then-v c).Start) c.if-v.true) in record { parts = the_clauses.0; reduced = the_clauses.1 }

pub float_to_bits-bits : goal.float_to_bits-bits
float_to_bits-bits c = no_nan _ (is_fin (goal.at.float_to_bits-bits c).Then-is_finite)

-- the number, at the place where its bits have been read
abbrev v : Else-v → Float
v c = c.args.v

not_zero : (c : Else-v) → eq (v c) O ≡ false
unfolding of_bits
not_zero c = c.if-v.false

-- the fields, as the code reads them
biased_is : (x : Float) → bit_and (to_bits binary64 x / 2 ^ 52) 2047 ≡ biased_of x
biased_is x = and_mask (to_bits binary64 x / 2 ^ 52) 11

frac_is : (x : Float) → bit_and (to_bits binary64 x) 4503599627370495 ≡ frac_of x
frac_is x = and_mask (to_bits binary64 x) 52

frac_lt : (x : Float) → frac_of x < 2 ^ 52
frac_lt x = mod-lt (to_bits binary64 x) (pow_pos 52)

whole_is : (x : Float) → bit_or (bit_and (to_bits binary64 x) 4503599627370495) 4503599627370496 ≡ 2 ^ 52 + frac_of x
whole_is x = ap (λ (k : ℕ). bit_or k 4503599627370496) (frac_is x) ∙ or_shifted_r 1 52 (frac_of x) (frac_lt x)

low : (c : Then-biased-eq0) → (0 < frac_of (v c.before)) × (odd 53 (lt (v c.before) O) (frac_of (v c.before)) 0 1074 ≡ v c.before)
low c = small_field (v c.before) (held c.before.before.before.before) (not_zero c.before) (sym (biased_is (v c.before)) ∙ c.if-biased-eq0.true)

above : (n : ℕ) → (n ≡ 0 → ⊥) → n ≡ suc (n - 1)
above n h = omega arith

high : (c : Else-biased-eq0) → (biased_of (v c.before) - 1 < 2046) × (odd 53 (lt (v c.before) O) (2 ^ 52 + frac_of (v c.before)) (biased_of (v c.before) - 1) 1074 ≡ v c.before)
high c =
    let x = v c.before in
    large_field x (held c.before.before.before.before) (is_fin c.before.before) (not_zero c.before) (biased_of x - 1)
    (above (biased_of x) (λ (z : biased_of x ≡ 0). c.if-biased-eq0.false (biased_is x ∙ z)))

pub parts-requires : goal.parts-requires
parts-requires c = let x = v (goal.at.parts-requires c).Else-v in
    let l = frac_lt x in
    rw (frac_is x) ((low (goal.at.parts-requires c).Then-biased-eq0).0, omega arith, omega arith)

pub parts-requires-else-biased-eq0 : goal.parts-requires-else-biased-eq0
parts-requires-else-biased-eq0 c = let x = v (goal.at.parts-requires-else-biased-eq0 c).Else-v in
    let l = frac_lt x in
    rw (whole_is x, biased_is x) (omega arith, omega arith, (high (goal.at.parts-requires-else-biased-eq0 c).Else-biased-eq0).0)

pub returns-then-biased-eq0 : goal.returns-then-biased-eq0
unfolding of_bits
returns-then-biased-eq0 c = let x = v (goal.at.returns-then-biased-eq0 c).Else-v in
    let the_clauses = both (goal.at.returns-then-biased-eq0 c).Start (c.parts.ensures ∙ ap (λ (k : ℕ). decomp_of (odd 53 (lt x O) k 0 1074)) (frac_is x) ∙ ap decomp_of (low (goal.at.returns-then-biased-eq0 c).Then-biased-eq0).1) in record { parts = the_clauses.0; reduced = the_clauses.1 }

pub returns-else-biased-eq0 : goal.returns-else-biased-eq0
unfolding of_bits
returns-else-biased-eq0 c = let x = v (goal.at.returns-else-biased-eq0 c).Else-v in
    let the_clauses = both (goal.at.returns-else-biased-eq0 c).Start (c.parts-else-biased-eq0.ensures ∙ ap₂ (λ (k l : ℕ). decomp_of (odd 53 (lt x O) k (l - 1) 1074)) (whole_is x) (biased_is x) ∙ ap decomp_of (high (goal.at.returns-else-biased-eq0 c).Else-biased-eq0).1) in record { parts = the_clauses.0; reduced = the_clauses.1 }

pub returns-else-is_finite : goal.returns-else-is_finite
returns-else-is_finite c = let the_clauses = both (goal.at.returns-else-is_finite c).Start (infinite _ (finite_told _ c.is_finite.ensures.value c.if-is_finite.false)) in record { parts = the_clauses.0; reduced = the_clauses.1 }
