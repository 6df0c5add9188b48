use mathlib.Core.Path.{◌≡◌}
use Prim.Native.Nat.{ℕ, ◌+◌, ◌*◌, ◌<◌}
use native.Mathlib.Omega.{arith}
use lib.ListN.{get_or}
use Rattle.tables.specs.Data.{point_count, end_a, end_b}
use Rattle.tables.specs.Rules.{rank}
use Rattle.nets.specs.Layout.{rank_cell}
use Rattle.nets.proofs.Figures.{rank_below}
use Rattle.spans.proofs.is_blocked.Goals as goal
use Rattle.spans.proofs.is_blocked.Goals.{Start}

abbrev a : (s : Start) → ℕ
a s = end_a s.args.pairs.now s.args.k

abbrev b : (s : Start) → ℕ
b s = end_b s.args.pairs.now s.args.k

-- The pair's ends are points.
low_a : (s : Start) → (a s) < point_count s.args.points.now
low_a s = s.requires.ends (2 * s.args.k) (omega arith)

low_b : (s : Start) → (b s) < point_count s.args.points.now
low_b s = s.requires.ends (2 * s.args.k + 1) (omega arith)

-- The code reads their ranks.
rank_a : (s : Start) → get_or s.args.work.now (rank_cell (a s)) 0 ≡ rank s.args.points.now (a s)
rank_a s = s.requires.ordered.0.ranks (a s) (low_a s)

rank_b : (s : Start) → get_or s.args.work.now (rank_cell (b s)) 0 ≡ rank s.args.points.now (b s)
rank_b s = s.requires.ordered.0.ranks (b s) (low_b s)

small_a : (s : Start) → rank s.args.points.now (a s) < point_count s.args.points.now
small_a s = rank_below s.args.points.now (a s) (low_a s)

small_b : (s : Start) → rank s.args.points.now (b s) < point_count s.args.points.now
small_b s = rank_below s.args.points.now (b s) (low_b s)

pub holds_point-requires : goal.holds_point-requires
holds_point-requires c = let la = low_a (goal.at.holds_point-requires c).Start in
    let lb = low_b (goal.at.holds_point-requires c).Start in
    let ra = rank_a (goal.at.holds_point-requires c).Start in
    let rb = rank_b (goal.at.holds_point-requires c).Start in
    let sb = small_b (goal.at.holds_point-requires c).Start in
    record { figure = c.requires.figure; ordered = c.requires.ordered; a_bound = (la, lb, omega arith); lo_bound = (omega arith, omega arith, omega arith, omega arith) }

pub holds_point-requires-else-s-t : goal.holds_point-requires-else-s-t
holds_point-requires-else-s-t c = let la = low_a (goal.at.holds_point-requires-else-s-t c).Start in
    let lb = low_b (goal.at.holds_point-requires-else-s-t c).Start in
    let ra = rank_a (goal.at.holds_point-requires-else-s-t c).Start in
    let rb = rank_b (goal.at.holds_point-requires-else-s-t c).Start in
    let sa = small_a (goal.at.holds_point-requires-else-s-t c).Start in
    record { figure = c.requires.figure; ordered = c.requires.ordered; a_bound = (la, lb, omega arith); lo_bound = (omega arith, omega arith, omega arith, omega arith) }

pub overflow_cast-a : goal.overflow_cast-a
overflow_cast-a c = omega (arith, low_a (goal.at.overflow_cast-a c).Start)

pub overflow_cast-b : goal.overflow_cast-b
overflow_cast-b c = omega (arith, low_b (goal.at.overflow_cast-b c).Start)

pub overflow_mul-s : goal.overflow_mul-s
overflow_mul-s c = omega (arith, low_a (goal.at.overflow_mul-s c).Start)

pub overflow_add-s : goal.overflow_add-s
overflow_add-s c = omega (arith, low_a (goal.at.overflow_add-s c).Start)

pub offset_bounds-work-a : goal.offset_bounds-work-a
offset_bounds-work-a c = omega (arith, low_a (goal.at.offset_bounds-work-a c).Start)

pub bounds-work-a : goal.bounds-work-a
bounds-work-a c = omega (arith, low_a (goal.at.bounds-work-a c).Start)

pub overflow_cast-s : goal.overflow_cast-s
overflow_cast-s c = omega (arith, rank_a (goal.at.overflow_cast-s c).Start, small_a (goal.at.overflow_cast-s c).Start)

pub overflow_mul-t : goal.overflow_mul-t
overflow_mul-t c = omega (arith, low_b (goal.at.overflow_mul-t c).Start)

pub overflow_add-t : goal.overflow_add-t
overflow_add-t c = omega (arith, low_b (goal.at.overflow_add-t c).Start)

pub offset_bounds-work-b : goal.offset_bounds-work-b
offset_bounds-work-b c = omega (arith, low_b (goal.at.offset_bounds-work-b c).Start)

pub bounds-work-b : goal.bounds-work-b
bounds-work-b c = omega (arith, low_b (goal.at.bounds-work-b c).Start)

pub overflow_cast-t : goal.overflow_cast-t
overflow_cast-t c = omega (arith, rank_b (goal.at.overflow_cast-t c).Start, small_b (goal.at.overflow_cast-t c).Start)

pub returns-then-s-t : goal.returns-then-s-t
returns-then-s-t c = c.holds_point.ensures

pub returns-else-s-t : goal.returns-else-s-t
returns-else-s-t c = c.holds_point-else-s-t.ensures
