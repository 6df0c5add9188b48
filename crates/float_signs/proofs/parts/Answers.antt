use Rattle.std.proofs.Common.{Some, ℤ, ◌≡◌, ℕ, zero, suc, ◌+◌, ◌/◌, ◌^◌, ◌<◌, ◌≤◌, Bool, true, false, pos, ◌-ℤ◌, neg_ℤ, sym, ap, ◌∙◌, ap₂, lt_of_le_of_lt, arith, lit<, w32, w64, SFits, to_z, of_z}
use lib.IntN.{+ℤ_idl}
use lib.Pow.{shr_le}
use lib.Count.{count_trailing_zeros}
use lib.Ieee.{odd}
use mir.ValLaws.{to_z-of_z, to_z_pos}
use Rattle.float_signs.specs.Parts.{dyadic, decomp_of}
use Rattle.float_signs.proofs.Mantissa.{tz_le, parts_are, sub_small}
use Rattle.float_signs.proofs.parts.Goals as goal
use Rattle.float_signs.proofs.parts.Goals.{Start}

abbrev tz : Start → ℕ
tz c = count_trailing_zeros 64 c.args.q

few : (c : Start) → tz c ≤ 53
few c = tz_le c.args.q c.requires.0 c.requires.1

abbrev m : Start → ℕ
m c = c.args.q / 2 ^ tz c

m_lt : (c : Start) → m c < 2 ^ 63
m_lt c = lt_of_le_of_lt (shr_le c.args.q (tz c)) (omega arith)

k_lt : (c : Start) → c.args.k + tz c < 2 ^ 31
k_lt c = let h = few c in omega arith

pub overflow_cast-m : goal.overflow_cast-m
overflow_cast-m c = record { fits = let h = few (goal.at.overflow_cast-m c).Start in omega arith }

pub overflow_shr-m : goal.overflow_shr-m
overflow_shr-m c = let h = few (goal.at.overflow_shr-m c).Start in omega arith

pub overflow_cast-m-2 : goal.overflow_cast-m-2
overflow_cast-m-2 c = record { sfits = m_lt (goal.at.overflow_cast-m-2 c).Start }

pub overflow_cast-e : goal.overflow_cast-e
overflow_cast-e c = record { fits = let h = few (goal.at.overflow_cast-e c).Start in omega arith }

pub overflow_add-e : goal.overflow_add-e
overflow_add-e c = record { fits = let h = k_lt (goal.at.overflow_add-e c).Start in omega arith }

pub overflow_cast-e-2 : goal.overflow_cast-e-2
overflow_cast-e-2 c = record { sfits = k_lt (goal.at.overflow_cast-e-2 c).Start }

e_is : (c : Start) → to_z w32 (c.args.k + tz c) ≡ pos (c.args.k + tz c)
e_is c = to_z_pos w32 (c.args.k + tz c) (k_lt c)

e_fits : (c : Start) → SFits w32 (pos (c.args.k + tz c) -ℤ pos 1074)
e_fits c = record { sfits = sub_small (c.args.k + tz c) (k_lt c) }

pub overflow_sub-e : goal.overflow_sub-e
overflow_sub-e c = rw (e_is (goal.at.overflow_sub-e c).Start) (e_fits (goal.at.overflow_sub-e c).Start)

m_is : (c : Start) → to_z w64 (m c) ≡ pos (m c)
m_is c = to_z_pos w64 (m c) (m_lt c)

neg_fits : (n : ℕ) → n < 2 ^ 63 → SFits w64 (neg_ℤ (pos n))
neg_fits zero h = record { sfits = lit< tt }
neg_fits (suc n) h = record { sfits = omega arith }

pub overflow_sub-result : goal.overflow_sub-result
overflow_sub-result c = rw (m_is (goal.at.overflow_sub-result c).Start, +ℤ_idl) (neg_fits (m (goal.at.overflow_sub-result c).Start) (m_lt (goal.at.overflow_sub-result c).Start))

e_read : (c : Start) → to_z w32 (of_z w32 (to_z w32 (c.args.k + tz c) -ℤ pos 1074)) ≡ pos (c.args.k + tz c) -ℤ pos 1074
e_read c = rw (e_is c) (to_z-of_z w32 (pos (c.args.k + tz c) -ℤ pos 1074) (e_fits c))

pub returns-then-negative : goal.returns-then-negative
returns-then-negative c = let n : to_z w64 (of_z w64 (pos 0 -ℤ to_z w64 (m (goal.at.returns-then-negative c).Start))) ≡ neg_ℤ (pos (m (goal.at.returns-then-negative c).Start)) = rw (m_is (goal.at.returns-then-negative c).Start, +ℤ_idl) (to_z-of_z w64 (neg_ℤ (pos (m (goal.at.returns-then-negative c).Start))) (neg_fits (m (goal.at.returns-then-negative c).Start) (m_lt (goal.at.returns-then-negative c).Start))) in
    ap₂ (λ (m e : ℤ). Some (dyadic m e)) n (e_read (goal.at.returns-then-negative c).Start) ∙ parts_are true c.args.q c.args.k c.requires.0 c.requires.1 ∙ ap (λ (b : Bool). decomp_of (odd 53 b c.args.q c.args.k 1074)) (sym c.if-negative.true)

pub returns-else-negative : goal.returns-else-negative
returns-else-negative c = ap₂ (λ (m e : ℤ). Some (dyadic m e)) (m_is (goal.at.returns-else-negative c).Start) (e_read (goal.at.returns-else-negative c).Start) ∙ parts_are false c.args.q c.args.k c.requires.0 c.requires.1 ∙ ap (λ (b : Bool). decomp_of (odd 53 b c.args.q c.args.k 1074)) (sym c.if-negative.false)
