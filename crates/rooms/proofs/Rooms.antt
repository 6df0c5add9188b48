-- Row 3 as the code asks it, and that a refusal is no yes. Assumes nothing.
use borrow.Author.Tests.{ltb-false}
use mathlib.Core.Bool.{false}
use mathlib.Core.Path.{◌≡◌, sym, ◌∙◌, subst}
use Prim.Native.Nat.{ℕ, ◌*◌, ◌/◌, ◌≤◌}
use native.Mathlib.Omega.{arith}
use lib.Dec.{ltb}
use Rattle.std.proofs.lemmas.Bool.Decides.{nat_tests}
use Rattle.tables.specs.Answers.{Paper, yes, refuses, breaks, of_refusal}
use Rattle.tables.specs.Refusals.{short_work}
use Rattle.tables.specs.declared.Refusal.{Refusal}
use Rattle.tables.specs.declared.Refusal.TheVariants.{OddLength, Counts, Room, FarPoint, NoArea, OutsidePoint, EqualPoint, BadPair, BlockedPair, CrossingPair, StuckPair}

-- ---- row 3, as the code asks it

-- the caller's test of the room is the table's: a quotient by 64 is below n exactly where the number is below 64 n
pub short_is : (n w : ℕ) → ltb (w / 64) n ≡ short_work n w
short_is n w = grind (arith, nat_tests)

pub room_is : (n w : ℕ) → ltb (w / 64) n ≡ false → 64 * n ≤ w
room_is n w e = ltb-false w (64 * n) (sym (short_is n w) ∙ e)

-- ---- a refusal is no yes

pub refusal_not_yes : (r : Refusal) → of_refusal r ≡ yes → ⊥
refusal_not_yes r e = go r e
  where
    is_yes : Paper → Type 0
    is_yes yes = Unit {0}
    is_yes (refuses k i) = ⊥
    is_yes (breaks k) = ⊥

    clash : (p : Paper) (k i : ℕ) → refuses k i ≡ yes → ⊥
    clash p k i q = subst is_yes (sym q) tt

    go : (r : Refusal) → of_refusal r ≡ yes → ⊥
    go OddLength q = clash yes 1 0 q
    go Counts q = clash yes 2 0 q
    go Room q = clash yes 3 0 q
    go (FarPoint i) q = clash yes 4 i q
    go NoArea q = clash yes 5 0 q
    go (OutsidePoint i) q = clash yes 6 i q
    go (EqualPoint i) q = clash yes 7 i q
    go (BadPair k) q = clash yes 8 k q
    go (BlockedPair k) q = clash yes 9 k q
    go (CrossingPair k) q = clash yes 10 k q
    go (StuckPair k) q = clash yes 11 k q
