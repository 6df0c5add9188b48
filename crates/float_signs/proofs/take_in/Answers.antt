use Rattle.std.proofs.Common.{◌≡◌, ◌≤◌, Bool, true, false, cond, ℤ, nat_abs, sym, ap, ◌∙◌, subst, lt_of_le_of_lt, lit<, w32, w64, SFits, to_z, of_z}
use lib.Signed.{mag}
use lib.Ieee.{binary64, of_bits, neg, eq, of_int}
use lib.Ieee.Scale.{finite}
use mir.ValLaws.{to_z-of_z}
use Rattle.float_signs.specs.Intake.{intake_of}
use Rattle.float_signs.specs.declared.Intake.TheVariants.{Whole, Fraction}
use Rattle.float_signs.proofs.Coordinate.{Bounded, not_finite, too_large_above, too_large_below, bounded, above_least, below_most, part_small, part_mag, in_float_lem, back_is}
use Rattle.float_signs.proofs.Library.{finite_told}
use Rattle.float_signs.proofs.take_in.Goals as goal
use Rattle.float_signs.proofs.take_in.Goals.{After-row_known-1, After-truncating_f64_to_i64-t, Else-x-2, Then-is_finite, then-x-via-then-x, then-x-via-else-x+then-x-2}

is_fin : (c : Then-is_finite) → finite c.args.x ≡ true
is_fin c = finite_told _ c.is_finite.ensures.value c.if-is_finite.true

pub returns-then-x : goal.returns-then-x
unfolding of_bits neg
returns-then-x c = let f = is_fin (goal.at.returns-then-x c).Then-is_finite in elim c.then-x.branch [
  | then-x-via-then-x w ↦ too_large_above _ f w.if-x.true
  | then-x-via-else-x+then-x-2 w ↦ too_large_below _ f w.if-x-2.true
]

within : (c : Else-x-2) → Bounded c.args.x
unfolding of_bits neg
within c = bounded _ (is_fin c.before.before) c.if-x.false c.if-x-2.false

pub truncating_f64_to_i64-t-requires : goal.truncating_f64_to_i64-t-requires
truncating_f64_to_i64-t-requires c = record {
  lower_bound = above_least _ (within (goal.at.truncating_f64_to_i64-t-requires c).Else-x-2);
  upper_bound = below_most _ (within (goal.at.truncating_f64_to_i64-t-requires c).Else-x-2);
}

-- the whole part: it is small, and the machine reads it back from its bits at either width
t : After-truncating_f64_to_i64-t → ℤ
t c = c.truncating_f64_to_i64-t.result

t_mag : (c : After-truncating_f64_to_i64-t) → mag (t c) ≤ 8192
unfolding t
t_mag c = subst (λ (z : ℤ). mag z ≤ 8192) (sym c.truncating_f64_to_i64-t.ensures) (part_mag _ (within c.before))

t_abs : (c : After-truncating_f64_to_i64-t) → nat_abs (t c) ≤ 8192
unfolding t
t_abs c = subst (λ (z : ℤ). nat_abs z ≤ 8192) (sym c.truncating_f64_to_i64-t.ensures) (part_small _ (within c.before))

read64 : (c : After-truncating_f64_to_i64-t) → to_z w64 (of_z w64 (t c)) ≡ t c
read64 c = to_z-of_z w64 (t c) (record { sfits = lt_of_le_of_lt (t_mag c) (lit< tt) })

fits32 : (c : After-truncating_f64_to_i64-t) → SFits w32 (t c)
fits32 c = record { sfits = lt_of_le_of_lt (t_mag c) (lit< tt) }

pub int_to_float-back : goal.int_to_float-back
unfolding t
int_to_float-back c = rw (read64 (goal.at.int_to_float-back c).After-truncating_f64_to_i64-t) (in_float_lem _ (t_abs (goal.at.int_to_float-back c).After-truncating_f64_to_i64-t))

pub overflow_cast-result : goal.overflow_cast-result
unfolding t
overflow_cast-result c = rw (read64 (goal.at.overflow_cast-result c).After-truncating_f64_to_i64-t) (fits32 (goal.at.overflow_cast-result c).After-truncating_f64_to_i64-t)

compared : (c : After-row_known-1) (b : Bool) → eq (of_int binary64 (to_z w64 (of_z w64 (t c.before.before)))) c.args.x ≡ b
    → cond b (Whole (t c.before.before)) (Fraction c.args.x) ≡ intake_of c.args.x
unfolding t
compared c b h =
    back_is _ (t c.before.before) (within c.before.before.before) c.truncating_f64_to_i64-t.ensures b (ap (λ (z : ℤ). eq (of_int binary64 z) c.args.x) (sym (read64 c.before.before)) ∙ h)

pub returns-then-back-x : goal.returns-then-back-x
unfolding t
returns-then-back-x c = ap Whole (ap (λ (z : ℤ). to_z w32 (of_z w32 z)) (read64 (goal.at.returns-then-back-x c).After-truncating_f64_to_i64-t) ∙ to_z-of_z w32 (t (goal.at.returns-then-back-x c).After-truncating_f64_to_i64-t) (fits32 (goal.at.returns-then-back-x c).After-truncating_f64_to_i64-t)) ∙ compared (goal.at.returns-then-back-x c).After-row_known-1 true c.if-back-x.true

pub returns-else-back-x : goal.returns-else-back-x
unfolding t
returns-else-back-x c = compared (goal.at.returns-else-back-x c).After-row_known-1 false c.if-back-x.false

pub returns-else-is_finite : goal.returns-else-is_finite
returns-else-is_finite c = not_finite _ (finite_told _ c.is_finite.ensures.value c.if-is_finite.false)
