use mathlib.Core.Path.{refl, sym, ap, ◌∙◌, subst}
use Prim.Native.Nat.{◌+◌, ◌<◌}
use native.Mathlib.Omega.{arith}
use Rattle.std.specs.Prelude.{Ok, Err}
use Rattle.std.proofs.lemmas.Result.{err_from_is_err_and}
use Rattle.tables.specs.Data.{point}
use Rattle.nets.specs.Layout.{Kept}
use Rattle.nets.proofs.Keeps.{kept_then}
use Rattle.chains.specs.Areas.{Room}
use Rattle.chains.specs.Walks.Walks.{far, stop, last}
use Rattle.chains.proofs.Entering.{arrive_room, arrive_kept}
use Rattle.corridors.proofs.Looks.{left_low, right_low, last_low}
use Rattle.corridors.proofs.Turns.{room_area, fits, some, live_left, live_right, stopped}
use Rattle.corridors.proofs.collect.Goals as goal

-- a corner on the left
pub turn_left-x-requires : goal.turn_left-x-requires
turn_left-x-requires c = let s = c.args in
    let o = c.loop-l.invariant in
    let m = c.loop-l-test.true in
    let h = left_low s.n s.count (point s.points.now) s.a s.b c.loop-l.work c.loop-l.x o.room c.in-Left.y c.in-Left.c (sym c.in_ok-beyond.ensures ∙ ap Ok c.in-Left.is) in
    let l = h.0 in
    let d = o.room.less in
    (room_area s.n s.count c.loop-l.work o.room, some o m, fits o m, omega arith, h.1)

pub loop-l-preserved-in-Left : goal.loop-l-preserved-in-Left
loop-l-preserved-in-Left c = live_left c.loop-l.invariant c.loop-l-test.true (sym c.in_ok-beyond.ensures ∙ ap Ok c.in-Left.is) c.turn_left-x.ensures.1 c.turn_left-x.ensures.0

-- a corner on the right
pub turn_right-x-requires : goal.turn_right-x-requires
turn_right-x-requires c = let s = c.args in
    let o = c.loop-l.invariant in
    let m = c.loop-l-test.true in
    let h = right_low s.n s.count (point s.points.now) s.a s.b c.loop-l.work c.loop-l.x o.room c.in-Right.y c.in-Right.c (sym c.in_ok-beyond.ensures ∙ ap Ok c.in-Right.is) in
    let l = h.0 in
    let d = o.room.less in
    (room_area s.n s.count c.loop-l.work o.room, some o m, fits o m, omega arith, h.1)

pub loop-l-preserved : goal.loop-l-preserved
loop-l-preserved c = live_right c.loop-l.invariant c.loop-l-test.true (sym c.in_ok-beyond.ensures ∙ ap Ok c.in-Right.is) c.turn_right-x.ensures.1 c.turn_right-x.ensures.0

-- b is met
pub arrive-requires : goal.arrive-requires
arrive-requires c = let s = c.args in
    let o = c.loop-l.invariant in
    let m = c.loop-l-test.true in
    let h = last_low s.n s.count (point s.points.now) s.a s.b c.loop-l.work c.loop-l.x o.room c.in-Last.y (sym c.in_ok-beyond.ensures ∙ ap Ok c.in-Last.is) in
    let d = o.room.less in
    (room_area s.n s.count c.loop-l.work o.room, some o m, fits o m, omega arith, c.requires.room.3)

pub returns-in-Last : goal.returns-in-Last
returns-in-Last c = let s = c.args in
    let o = c.loop-l.invariant in
    let m = c.loop-l-test.true in
    let e = sym c.in_ok-beyond.ensures ∙ ap Ok c.in-Last.is in
    let h = last_low s.n s.count (point s.points.now) s.a s.b c.loop-l.work c.loop-l.x o.room c.in-Last.y e in
    let d = c.requires.room.3 in
    record {
      walks = o.go _ _ (last m e c.arrive.ensures);
      bounded = (o.some_l, o.some_r, m);
      room = subst (Room s.n s.count) (sym c.arrive.ensures) (arrive_room s.n s.count c.loop-l.work c.loop-l.l c.loop-l.r c.in-Last.y s.b o.room (fits o m) (some o m) h d);
      kept = kept_then s.n s.work.now c.loop-l.work _ o.kept
          (subst (Kept s.n c.loop-l.work) (sym c.arrive.ensures) (arrive_kept s.n s.count c.loop-l.work c.loop-l.l c.loop-l.r c.in-Last.y s.b o.room (fits o m) (some o m) h d));
    }

-- the walk sticks
pub returns-in_err-beyond : goal.returns-in_err-beyond
returns-in_err-beyond c = let k = err_from_is_err_and c.from_residual.result c.from_residual.ensures.1 in
    stopped c.loop-l.invariant (stop c.loop-l-test.true (sym c.in_err-beyond.ensures)) c.from_residual.result (k.1 ∙ ap Err k.2)

pub returns : goal.returns
returns c = let o = c.loop-l.invariant in
    let q : c.args.count < c.loop-l.l + c.loop-l.r = omega (arith, c.loop-l-test.false) in
    stopped o (far q) _ refl
