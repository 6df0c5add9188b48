use mathlib.Core.List.{List}
use Prim.Native.Nat.{ℕ, ◌+◌, ◌*◌, ◌<◌}
use native.Mathlib.Omega.{arith}
use lib.IntN.{ℤ}
use Rattle.tables.specs.Data.{pair_count}
use Rattle.tables.proofs.Table.{near_list}
use Rattle.pair_orders.specs.Rows.{number}
use Rattle.sweeps.proofs.Least.{state_start, state_more, state_end, tried_none}
use Rattle.sweeps.proofs.scan.Goals as goal
use Rattle.sweeps.proofs.scan.Goals.{Start}

-- ---- the numbers of the pairs at the places p and q, which are below the number of the pairs, and their ends
abbrev ps : (s : Start) → List ℤ
ps s = s.args.points.now

abbrev qs : (s : Start) → List ℕ
qs s = s.args.pairs.now

abbrev w : (s : Start) → List ℕ
w s = s.args.work.now

abbrev m : (s : Start) → ℕ
m s = pair_count (qs s)

small : (s : Start) → (q : ℕ) → q < (m s) → number (w s) s.args.at q < (m s)
small s q h = s.requires.row.small q h

j_small : (s : Start) → number (w s) s.args.at s.args.p < (m s)
j_small s = (small s) s.args.p (omega arith)

pub overflow_cast-j : goal.overflow_cast-j
overflow_cast-j c = omega (arith, c.type_inv.work (c.args.at + 3 * c.args.p + 2))

pub returns-then-least-j : goal.returns-then-least-j
returns-then-least-j c = (c.requires.found, omega arith, tried_none (ps (goal.at.returns-then-least-j c).Start) (qs (goal.at.returns-then-least-j c).Start) c.args.at (w (goal.at.returns-then-least-j c).Start) c.args.p c.args.least c.if-least-j.true)

pub overflow_cast-a : goal.overflow_cast-a
overflow_cast-a c = omega (arith, c.type_inv.pairs (2 * number (w (goal.at.overflow_cast-a c).Start) c.args.at c.args.p))

pub overflow_cast-b : goal.overflow_cast-b
overflow_cast-b c = omega (arith, c.type_inv.pairs (2 * number (w (goal.at.overflow_cast-b c).Start) c.args.at c.args.p + 1))

pub loop-q-init : goal.loop-q-init
loop-q-init c = (
  omega arith,
  omega arith,
  state_start (ps (goal.at.loop-q-init c).Start) (qs (goal.at.loop-q-init c).Start) c.requires.figure c.requires.ends c.args.at (w (goal.at.loop-q-init c).Start) c.requires.row c.args.p c.args.first c.args.least (omega arith)
      c.requires.pairs_in_bounds.3 c.requires.found c.if-least-j.false,
)

pub returns-then-end-work : goal.returns-then-end-work
returns-then-end-work c = let o = c.loop-q.invariant.2 in (
  o.found,
  o.low,
  state_end (ps (goal.at.returns-then-end-work c).Start) (qs (goal.at.returns-then-end-work c).Start) c.requires.figure c.requires.ends c.args.at (w (goal.at.returns-then-end-work c).Start) c.requires.row c.args.p c.loop-q.q c.args.least c.loop-q.kept
      c.loop-q.invariant.0 (λ _. c.if-end-work.true) o,
)

pub overflow_cast-k : goal.overflow_cast-k
overflow_cast-k c = omega (arith, c.type_inv.work (c.args.at + 3 * c.loop-q.q + 2))

pub lowered-kept-requires : goal.lowered-kept-requires
lowered-kept-requires c = let j = j_small (goal.at.lowered-kept-requires c).Start in
    let k = small (goal.at.lowered-kept-requires c).Start c.loop-q.q (omega arith) in
    let a = c.requires.ends (2 * number (w (goal.at.lowered-kept-requires c).Start) c.args.at c.args.p) (omega arith) in
    let b = c.requires.ends (2 * number (w (goal.at.lowered-kept-requires c).Start) c.args.at c.args.p + 1) (omega arith) in
    record { near = near_list (ps (goal.at.lowered-kept-requires c).Start) c.requires.figure.even c.requires.figure.near; ends = c.requires.ends; a_bound = (a, b, k) }

pub loop-q-preserved : goal.loop-q-preserved
loop-q-preserved c = (
  omega arith,
  omega arith,
  state_more (ps (goal.at.loop-q-preserved c).Start) (qs (goal.at.loop-q-preserved c).Start) c.requires.figure c.requires.ends c.args.at (w (goal.at.loop-q-preserved c).Start) c.requires.row c.args.p c.loop-q.q c.args.least c.loop-q.kept
      c.loop-q.invariant.0 c.loop-q-test.true c.loop-q.invariant.2 _ c.lowered-kept.ensures,
)

pub returns : goal.returns
returns c = let o = c.loop-q.invariant.2 in (
  o.found,
  o.low,
  state_end (ps (goal.at.returns c).Start) (qs (goal.at.returns c).Start) c.requires.figure c.requires.ends c.args.at (w (goal.at.returns c).Start) c.requires.row c.args.p c.loop-q.q c.args.least c.loop-q.kept
      c.loop-q.invariant.0 (λ h. absurd (let z = c.loop-q-test.false in omega arith)) o,
)

pub overflow_mul-a : goal.overflow_mul-a
overflow_mul-a c = omega (arith, j_small (goal.at.overflow_mul-a c).Start)

pub offset_bounds-pairs-j : goal.offset_bounds-pairs-j
offset_bounds-pairs-j c = omega (arith, j_small (goal.at.offset_bounds-pairs-j c).Start)

pub bounds-pairs-j : goal.bounds-pairs-j
bounds-pairs-j c = omega (arith, j_small (goal.at.bounds-pairs-j c).Start)

pub overflow_mul-b : goal.overflow_mul-b
overflow_mul-b c = omega (arith, j_small (goal.at.overflow_mul-b c).Start)

pub overflow_add-b : goal.overflow_add-b
overflow_add-b c = omega (arith, j_small (goal.at.overflow_add-b c).Start)

pub offset_bounds-pairs-j-2 : goal.offset_bounds-pairs-j-2
offset_bounds-pairs-j-2 c = omega (arith, j_small (goal.at.offset_bounds-pairs-j-2 c).Start)

pub bounds-pairs-j-2 : goal.bounds-pairs-j-2
bounds-pairs-j-2 c = omega (arith, j_small (goal.at.bounds-pairs-j-2 c).Start)
