-- What row 8 leaves for the rows below it, where it finds nothing: every end of a pair is a point's number. Assumes nothing.
use mathlib.Core.Path.{◌≡◌, refl, subst}
use mathlib.Core.Bool.{◌||◌}
use mathlib.Core.List.{List}
use Prim.Native.Nat.{ℕ, zero, suc, ◌+◌, ◌*◌, ◌/◌, ◌%◌, ◌<◌}
use native.Mathlib.Omega.{arith}
use lib.Dec.{leb, eqb}
use lib.IntN.{ℤ}
use lib.ListN.{length, get_or}
use borrow.Author.Tests.{leb-false}
use Rattle.tables.specs.Answers.{lowest}
use Rattle.tables.specs.Data.{point_count, pair_count, end_a, end_b}
use Rattle.tables.specs.Refusals.{bad_pair}
use Rattle.std.specs.Prelude.{None}
use Rattle.tables.proofs.Table.{or_false, lowest_nowhere}
use Rattle.pair_checks.specs.Ends.{Ends}

-- a fact of the places 2k and 2k + 1 below an even length is one of every place there
by_halves : (P : ℕ → Type 0) (n : ℕ) → n % 2 ≡ 0 → ((k : ℕ) → k < n / 2 → P (2 * k) × P (2 * k + 1)) → (i : ℕ) → i < n → P i
by_halves P n e f i l = go (i % 2) refl
  where
    pair : P (2 * (i / 2)) × P (2 * (i / 2) + 1)
    pair = f (i / 2) (omega arith)

    go : (r : ℕ) → i % 2 ≡ r → P i
    go zero h = subst P (omega arith) pair.0
    go (suc r) h = subst P (omega arith) pair.1

pub ends_points : (ps : List ℤ) (qs : List ℕ) → length qs % 2 ≡ 0 → lowest (pair_count qs) (bad_pair (point_count ps) qs) ≡ None → Ends ps qs
ends_points ps qs e none = by_halves (λ j. get_or qs j 0 < point_count ps) (length qs) e ends
  where
    ends : (k : ℕ) → k < length qs / 2 → (end_a qs k < point_count ps) × (end_b qs k < point_count ps)
    ends k l =
        let n = point_count ps in
        let a = end_a qs k in
        let b = end_b qs k in
        let p = or_false (leb n a || leb n b) (eqb a b) (lowest_nowhere (bad_pair n qs) (pair_count qs) none k l) in
        let q = or_false (leb n a) (leb n b) p.0 in
        (leb-false n a q.0, leb-false n b q.1)
