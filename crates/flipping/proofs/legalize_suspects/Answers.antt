use mathlib.Core.Path.{◌≡◌}
use Prim.Native.Nat.{◌+◌, ◌-◌, ◌*◌, ◌≤◌, ◌<◌}
use native.Mathlib.Omega.{arith}
use lib.ListN.{length}
use Rattle.std.specs.Prelude.{Some}
use Rattle.tables.specs.Data.{point}
use Rattle.tables.specs.Rules.{rank}
use Rattle.nets.specs.Layout.{net_of}
use Rattle.wants.specs.Tries.{First}
use Rattle.flipping.proofs.Live.{left, Popped, live_start, live_end, live_pop, pop_same, pop_falls, live_stay, live_turn, turn_less, first_low, found_some, found_low, found_reborn, ready_range}
use Rattle.flipping.proofs.legalize_suspects.Goals as goal
use Rattle.flipping.proofs.legalize_suspects.Goals.{After-pop-t, In-Some}

pub loop-m-init : goal.loop-m-init
loop-m-init c = let x = c.args in
    live_start x.points.now x.work.now x.count x.many x.newest c.requires.figure.1 c.requires.suspects.0 c.requires.suspects.1

pub pop-t-requires : goal.pop-t-requires
pop-t-requires c = let o = c.loop-m.invariant in
    let a = o.ready.few in
    let b = o.ready.room in
    let d = c.requires.figure.0.few in
    (omega arith, omega arith, c.loop-m-test.true, o.suspects)

-- a suspect is taken
some : (c : After-pop-t) → 0 < c.loop-m.m
some c = c.loop-m-test.true

popped : (c : After-pop-t) → Popped c.args.points.now c.args.work.now c.args.count c.args.many c.args.newest c.pop-t.new.work (c.loop-m.m - 1) c.pop-t.result c.loop-m.z
popped c = live_pop c.loop-m.invariant (some c) c.pop-t.ensures.0 c.pop-t.ensures.1

same : (c : After-pop-t) → left c.args.points.now c.args.count c.pop-t.new.work (c.loop-m.m - 1 + 1) ≡ left c.args.points.now c.args.count c.loop-m.work c.loop-m.m
same c = pop_same c.loop-m.invariant (some c) c.pop-t.ensures.0 c.pop-t.ensures.1

fewer : (c : After-pop-t) → left c.args.points.now c.args.count c.pop-t.new.work (c.loop-m.m - 1) < left c.args.points.now c.args.count c.loop-m.work c.loop-m.m
fewer c = pop_falls c.loop-m.invariant (some c) c.pop-t.ensures.0 c.pop-t.ensures.1

-- its places are in the working area
room : (c : After-pop-t) → (16 * c.pop-t.result + 16 ≤ length c.pop-t.new.work) × (c.pop-t.result < 8192)
room c =
    let a = (popped c).slot in
    let b = (popped c).ready.few in
    let d = (popped c).ready.room in
    let e = c.requires.figure.0.few in
    (omega arith, omega arith)

pub first_edge-requires : goal.first_edge-requires
first_edge-requires c = (c.requires.figure.0, (popped (goal.at.first_edge-requires c).After-pop-t).ready, (popped (goal.at.first_edge-requires c).After-pop-t).slot)

-- an edge flips
edge : (c : In-Some) → First (point c.args.points.now) (rank c.args.points.now) (net_of c.pop-t.new.work c.args.count) c.pop-t.result (Some c.in-Some.e)
edge c = rw c.in-Some.is at c.first_edge.ensures

low : (c : In-Some) → c.in-Some.e < 3
low c = first_low (edge c)

pub bounds-work-t : goal.bounds-work-t
bounds-work-t c = let r = room (goal.at.bounds-work-t c).After-pop-t in let e = low (goal.at.bounds-work-t c).In-Some in omega arith

pub overflow_cast-g : goal.overflow_cast-g
overflow_cast-g c = omega (arith, c.type_inv.work (16 * c.pop-t.result + 3 + c.in-Some.e))

pub overflow_sub-g : goal.overflow_sub-g
overflow_sub-g c = found_some (popped (goal.at.overflow_sub-g c).After-pop-t) (edge (goal.at.overflow_sub-g c).In-Some)

pub flip-requires : goal.flip-requires
flip-requires c = let o = popped (goal.at.flip-requires c).After-pop-t in
    record { in_range = ready_range o.ready c.requires.figure.0; h_bound = found_low o (edge (goal.at.flip-requires c).In-Some) }

pub rebirth-m-requires : goal.rebirth-m-requires
rebirth-m-requires c = let the_clauses = found_reborn (popped (goal.at.rebirth-m-requires c).After-pop-t) (edge (goal.at.rebirth-m-requires c).In-Some) c.requires.figure.0 c.flip.ensures in record { count_in_bounds = the_clauses.0; suspects = the_clauses.1 }

pub loop-m-smaller-in-Some : goal.loop-m-smaller-in-Some
loop-m-smaller-in-Some c = let a = turn_less (popped (goal.at.loop-m-smaller-in-Some c).After-pop-t) (edge (goal.at.loop-m-smaller-in-Some c).In-Some) c.requires.figure.0 c.flip.ensures c.rebirth-m.ensures in
    let b = same (goal.at.loop-m-smaller-in-Some c).After-pop-t in
    omega arith

pub loop-m-preserved-in-Some : goal.loop-m-preserved-in-Some
loop-m-preserved-in-Some c = live_turn (popped (goal.at.loop-m-preserved-in-Some c).After-pop-t) (edge (goal.at.loop-m-preserved-in-Some c).In-Some) c.requires.figure.0 c.flip.ensures c.rebirth-m.ensures

pub loop-m-smaller : goal.loop-m-smaller
loop-m-smaller c = fewer (goal.at.loop-m-smaller c).After-pop-t

pub loop-m-preserved : goal.loop-m-preserved
loop-m-preserved c = live_stay (popped (goal.at.loop-m-preserved c).After-pop-t) (rw c.in_default.is at c.first_edge.ensures)

pub returns : goal.returns
returns c = live_end c.loop-m.invariant (let z = c.loop-m-test.false in omega arith)

pub overflow_mul-g : goal.overflow_mul-g
overflow_mul-g c = let r = room (goal.at.overflow_mul-g c).After-pop-t in omega arith

pub overflow_add-g : goal.overflow_add-g
overflow_add-g c = let r = room (goal.at.overflow_add-g c).After-pop-t in omega arith

pub overflow_add-g-in-Some : goal.overflow_add-g-in-Some
overflow_add-g-in-Some c = let r = room (goal.at.overflow_add-g-in-Some c).After-pop-t in let e = low (goal.at.overflow_add-g-in-Some c).In-Some in omega arith

pub offset_bounds-work-t : goal.offset_bounds-work-t
offset_bounds-work-t c = let r = room (goal.at.offset_bounds-work-t c).After-pop-t in let e = low (goal.at.offset_bounds-work-t c).In-Some in omega arith

pub overflow_mul-t : goal.overflow_mul-t
overflow_mul-t c = let r = room (goal.at.overflow_mul-t c).After-pop-t in omega arith

pub overflow_add-t : goal.overflow_add-t
overflow_add-t c = let r = room (goal.at.overflow_add-t c).After-pop-t in let e = low (goal.at.overflow_add-t c).In-Some in omega arith

pub shape_of-work : goal.shape_of-work
shape_of-work c = c.loop-m.invariant.kept.len
