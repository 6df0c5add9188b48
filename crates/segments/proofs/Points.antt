-- Points that are read from a list, and their coordinates, which are within the limit. Assumes nothing.
use mathlib.Core.Path.{◌≡◌, ap₂}
use mathlib.Core.Bool.{true}
use mathlib.Core.List.{List, [], ◌∷◌}
use Prim.Native.Nat.{ℕ, ◌+◌, ◌*◌, ◌≤◌}
use lib.Dec.{leb}
use lib.IntN.{ℤ, pos, nat_abs}
use borrow.Author.Tests.{le-leb}
use Rattle.std.proofs.Common.{Some, get_or}
use Rattle.algebra.specs.Size.{Small}
use Rattle.plane.specs.Points.{Pt}
use Rattle.plane.specs.Determinants.{incircle}
use Rattle.signs.specs.Signs.{sign_z}
use Rattle.signs.specs.Answers.{limit, circle_answer}
use Rattle.signs.specs.Points.{pt_of}
use Rattle.signs.specs.declared.Point.{Point}
use Rattle.tables.specs.Data.{point}
use Rattle.segments.specs.Near.{Near}

-- These are the coordinates of numbered points, in a row.
abbrev pub row : List ℤ → List ℕ → List ℤ
row ps [] = []
row ps (i ∷ is) = (point ps i).x ∷ (point ps i).y ∷ row ps is

-- A row grows by one point, which was read, at its front.
pub also : (ps : List ℤ) (i : ℕ) (is : List ℕ) {p : Point} {ρ : List ℤ} → pt_of p ≡ point ps i → ρ ≡ row ps is → p.x ∷ p.y ∷ ρ ≡ row ps (i ∷ is)
also ps i is e h = ap₂ (λ (q : Pt ℤ) (xs : List ℤ). q.x ∷ q.y ∷ xs) e h

module _ (ps : List ℤ) (near : Near ps) where
  pub near_row : (is : List ℕ) → Small limit (row ps is)
  unfolding point
  near_row [] = tt
  near_row (i ∷ is) = (near (2 * i), (near (2 * i + 1), near_row is))

  pub near_read : (is : List ℕ) {ρ : List ℤ} → ρ ≡ row ps is → Small limit ρ
  near_read is e = rw e (near_row is)

  -- Points within the limit have a circle sign.
  pub circle_known : (a b c d : ℕ) → circle_answer limit (point ps a) (point ps b) (point ps c) (point ps d) ≡ Some (sign_z (incircle (point ps a) (point ps b) (point ps c) (point ps d)))
  unfolding point circle_answer
  circle_known a b c d = rw (test (2 * a), test (2 * a + 1), test (2 * b), test (2 * b + 1), test (2 * c), test (2 * c + 1), test (2 * d), test (2 * d + 1))
    where
      test : (i : ℕ) → leb (nat_abs (get_or ps i (pos 0))) limit ≡ true
      test i = le-leb (nat_abs (get_or ps i (pos 0))) limit (near i)
