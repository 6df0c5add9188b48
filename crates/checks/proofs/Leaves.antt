-- What the rows leave in the working area. Assumes nothing.
use mathlib.Core.Path.{◌≡◌, refl, sym, ap, ◌∙◌}
use mathlib.Core.Bool.{Bool, true, false, cond}
use mathlib.Core.List.{List}
use Prim.Native.Nat.{ℕ, ◌*◌}
use lib.Dec.{leb}
use lib.IntN.{ℤ}
use Rattle.tables.specs.Answers.{Paper, yes, refuses, row, row_at, lowest}
use Rattle.tables.specs.Data.{point_count, pair_count}
use Rattle.tables.specs.Refusals.{far, no_area, outside, again, bad_pair, blocked, crossing, rows8to10, rows4to10}
use Rattle.tables.specs.Verdicts.{cleared, left_work}
use Rattle.std.specs.Prelude.{Option, Some, None}

-- rows 1 to 3: the answer, and the working area unchanged
pub stays : {p : Paper} (k n : ℕ) (w : List ℕ) → leb k 3 ≡ true → p ≡ refuses k 0 → (refuses k 0 ≡ p) × (w ≡ left_work p n w)
stays k n w e q = (sym q, sym (ap (λ (x : Paper). left_work x n w) q ∙ ap (λ (b : Bool). cond b w (cleared (64 * n) w)) e))

-- rows 4 to 10: whichever of them answers, and where none does, the working area is cleared
pub rows_leave : (ps : List ℤ) (qs : List ℕ) (n : ℕ) (w : List ℕ) → left_work (rows4to10 ps qs) n w ≡ cleared (64 * n) w
rows_leave ps qs n w =
    at 4 (lowest (point_count ps) (far ps)) _ refl
    (plain 5 (no_area ps) _ refl
    (at 6 (lowest (point_count ps) (outside ps)) _ refl
    (at 7 (lowest (point_count ps) (again ps)) (rows8to10 ps qs) refl
    (at 8 (lowest (pair_count qs) (bad_pair (point_count ps) qs)) _ refl
    (at 9 (lowest (pair_count qs) (blocked ps qs)) _ refl (at 10 (lowest (pair_count qs) (crossing ps qs)) yes refl refl))))))
  where
    plain : (k : ℕ) (b : Bool) (after : Paper) → leb k 3 ≡ false → left_work after n w ≡ cleared (64 * n) w → left_work (row k b after) n w ≡ cleared (64 * n) w
    plain k true after e h = rw e
    plain k false after e h = h

    at : (k : ℕ) (l : Option ℕ) (after : Paper) → leb k 3 ≡ false → left_work after n w ≡ cleared (64 * n) w → left_work (row_at k l after) n w ≡ cleared (64 * n) w
    at k (Some i) after e h = rw e
    at k None after e h = h
