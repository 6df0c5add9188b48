-- The least and the largest of coordinates within the limit are within it. Assumes nothing.
use mathlib.Core.Path.{◌≡◌, ap, ◌∙◌}
use Prim.Native.Nat.{zero, suc}
use native.Mathlib.Omega.{arith}
use lib.IntN.{ℤ, pos, negsuc, neg_ℤ, ◌-ℤ◌, +ℤ_idl}
use lib.Signed.{◌≤ℤ◌}
use mir.Syntax.{w32}
use mir.Val.{SFits, to_z, of_z}
use mir.ValLaws.{to_z-of_z}
use Rattle.std.specs.Int.{int_min, int_max}
use Rattle.std.proofs.lemmas.Int.{ints, clamps}

pub record Near (z : ℤ) : Type 0 where
  pub low : neg_ℤ (pos 8192) ≤ℤ z
  pub high : z ≤ℤ pos 8192

pub kept : (z : ℤ) → Near z → Near (to_z w32 (of_z w32 z))
kept z n = let a = n.low in let b = n.high in record { low = omega (arith, ints); high = omega (arith, ints) }

small : (z : ℤ) → Near z → SFits w32 z
small (pos k) n = let b = n.high in record { sfits = omega (arith, ints) }
small (negsuc k) n = let a = n.low in record { sfits = omega (arith, ints) }

neg : (z : ℤ) → Near z → Near (neg_ℤ z)
neg (pos zero) n = n
neg (pos (suc k)) n = let b = n.high in record { low = omega (arith, ints); high = omega (arith, ints) }
neg (negsuc k) n = let a = n.low in record { low = omega (arith, ints); high = omega (arith, ints) }

pub negated : (z : ℤ) → Near z → SFits w32 (pos 0 -ℤ to_z w32 (of_z w32 z)) × Near (to_z w32 (of_z w32 (pos 0 -ℤ to_z w32 (of_z w32 z))))
negated z n =
    let e : pos 0 -ℤ to_z w32 (of_z w32 z) ≡ neg_ℤ z = ap (λ (x : ℤ). pos 0 -ℤ x) (to_z-of_z w32 z (small z n)) ∙ +ℤ_idl (neg_ℤ z) in
    let m = neg z n in
    (rw e (small _ m), rw e (kept _ m))

least : (a b : ℤ) → Near a → Near b → Near (int_min a b)
least a b m n =
    let p = m.low in
    let q = m.high in
    let r = n.low in
    let s = n.high in
    record { low = omega (arith, ints, clamps); high = omega (arith, ints, clamps) }

most : (a b : ℤ) → Near a → Near b → Near (int_max a b)
most a b m n =
    let p = m.low in
    let q = m.high in
    let r = n.low in
    let s = n.high in
    record { low = omega (arith, ints, clamps); high = omega (arith, ints, clamps) }

module _ (a b c x y : ℤ) (k : Near a) (m : Near b) (n : Near c) where
  pub least_of : x ≡ int_min (to_z w32 (of_z w32 a)) (to_z w32 (of_z w32 b)) → y ≡ int_min (to_z w32 (of_z w32 x)) (to_z w32 (of_z w32 c)) → Near y
  least_of e f = rw f (least _ _ (kept x (rw e (least _ _ (kept a k) (kept b m)))) (kept c n))

  pub most_of : x ≡ int_max (to_z w32 (of_z w32 a)) (to_z w32 (of_z w32 b)) → y ≡ int_max (to_z w32 (of_z w32 x)) (to_z w32 (of_z w32 c)) → Near y
  most_of e f = rw f (most _ _ (kept x (rw e (most _ _ (kept a k) (kept b m)))) (kept c n))
