-- The crossing number of an edge by the signs alone. The crossing number of an edge at a place, in Crossed.antt, says how often the ray from the place to
-- the right crosses the edge, counted by direction. Here the place's sides of the lines are given, and each statement is one computed test.
-- Assumes nothing.
use mathlib.Core.Path.{◌≡◌, refl}
use mathlib.Core.Bool.{Bool, true, false, not, cond, ◌||◌}
use lib.Dec.{T}
use lib.IntN.{ℤ, pos, negsuc, ◌+ℤ◌, neg_ℤ}
use Rattle.algebra.proofs.Ring.{and, and_l, and_r}
use Rattle.algebra.specs.Tests.{eq_z}
use Rattle.plane.proofs.Sign.{ind, eq_b}

-- The arguments are whether each end lies above the place, and the tests of the edge's line and of its reverse.
abbrev pub chi : Bool → Bool → Bool → Bool → ℤ
chi true true p n = pos 0
chi true false p n = cond n (negsuc 0) (pos 0)
chi false true p n = cond p (pos 1) (pos 0)
chi false false p n = pos 0

pub chi_anti : (u v p n : Bool) → chi u v p n ≡ neg_ℤ (chi v u n p)
chi_anti true true p n = refl
chi_anti true false p true = refl
chi_anti true false p false = refl
chi_anti false true true n = refl
chi_anti false true false n = refl
chi_anti false false p n = refl

abbrev pub same3 : Bool → Bool → Bool → Bool
same3 a b c = and (eq_b a b) (eq_b b c)

abbrev pub none3 : Bool → Bool → Bool → Bool
none3 a b c = and (not a) (and (not b) (not c))

abbrev pub three : (a b c s t u : Bool) → ℤ
three a b c s t u = chi a b s (not s) +ℤ chi b c t (not t) +ℤ chi c a u (not u)

-- Either the signs cannot stand together, in one of two ways, or the crossing numbers add to 1 inside the triangle and to 0 outside.
abbrev pub case : (a b c s t u : Bool) → Bool
case a b c s t u = same3 (eq_b s c) (eq_b t a) (eq_b u b) || (none3 s t u || eq_z (three a b c s t u) (ind (and s (and t u))))

abbrev every : (Bool → Bool) → Bool
every f = and (f true) (f false)

every_at : (f : Bool → Bool) → T (every f) → (b : Bool) → T (f b)
every_at f t true = and_l (f true) (f false) t
every_at f t false = and_r (f true) (f false) t

abbrev every3 : (Bool → Bool → Bool → Bool) → Bool
every3 f = every (λ a. every (λ b. every (λ c. f a b c)))

every3_at : (f : Bool → Bool → Bool → Bool) → T (every3 f) → (a b c : Bool) → T (f a b c)
every3_at f t a b c = every_at (λ c. f a b c) (every_at (λ b. every (λ c. f a b c)) (every_at (λ a. every (λ b. every (λ c. f a b c))) t a) b) c

pub cases : (a b c s t u : Bool) → T (case a b c s t u)
cases a b c s t u = every3_at (λ s t u. case a b c s t u) (every3_at (λ a b c. every3 (λ s t u. case a b c s t u)) tt a b c) s t u
