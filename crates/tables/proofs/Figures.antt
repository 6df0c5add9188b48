-- Points that no row of the table refuses are a figure. Assumes nothing.
use mathlib.Core.Bool.{Bool}
use mathlib.Core.List.{List}
use mathlib.Core.Path.{◌≡◌}
use Prim.Native.Nat.{ℕ}
use lib.IntN.{ℤ}
use lib.ListN.{length}
use Rattle.tables.specs.Answers.{yes}
use Rattle.tables.specs.Data.{point_count, pair_count}
use Rattle.tables.specs.Figures.{Figure}
use Rattle.tables.specs.Refusals.{rows}
use Rattle.tables.proofs.Table.{silent, even_lengths, good_counts}

pub figure : (odd short : Bool) (ps : List ℤ) (qs : List ℕ) → rows odd short ps qs ≡ yes → Figure ps
figure odd short ps qs e =
    let s = silent odd short ps qs e in
    let l = even_lengths odd (length ps) (length qs) s.row1 in
    let c = good_counts (point_count ps) (pair_count qs) s.row2 in
    record { even = l.0; enough = c.0; few = c.1; near = s.row4; area = s.row5; within = s.row6; distinct = s.row7 }
