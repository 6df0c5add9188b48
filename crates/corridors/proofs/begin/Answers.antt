use mathlib.Core.Path.{sym, subst}
use Prim.Native.Nat.{◌<◌}
use native.Mathlib.Omega.{arith}
use Rattle.plane.specs.Halfedges.{nxt}
use Rattle.nets.specs.Layout.{Kept}
use Rattle.nets.proofs.Slot.{nxt_in}
use Rattle.chains.specs.Areas.{Room}
use Rattle.chains.proofs.Entering.{begin_room, begin_kept}
use Rattle.corridors.specs.Collected.{Area}
use Rattle.corridors.proofs.Looks.{prv_in}
use Rattle.corridors.proofs.Turns.{room_area, enter_area, begun}
use Rattle.corridors.proofs.begin.Goals as goal

pub start-v-requires : goal.start-v-requires
start-v-requires c = let s = c.args in
    let p = c.requires in
    let rm = p.0 in
    let lg = rm.long in
    let fw = rm.few in
    let ls = rm.less in
    let e = c.next-g.ensures in
    let h = nxt_in s.x s.count p.2 in
    (omega arith, omega arith)

pub enter-requires : goal.enter-requires
enter-requires c = let s = c.args in
    let p = c.requires in
    let rm = p.0 in
    let lg = rm.long in
    let fw = rm.few in
    let ls = rm.less in
    let so = rm.some in
    let e = c.next-g.ensures in
    let h = nxt_in s.x s.count p.2 in
    let v : c.start-v.result < s.n =
    (rw (c.start-v.ensures, e) (rm.low (nxt s.x) h)) in
    (room_area s.n s.count s.work.now rm, omega arith, omega arith, omega arith, omega arith, omega arith, v)

pub enter-requires-2 : goal.enter-requires-2
enter-requires-2 c = let s = c.args in
    let p = c.requires in
    let rm = p.0 in
    let lg = rm.long in
    let fw = rm.few in
    let ls = rm.less in
    let so = rm.some in
    let e = c.next-g.ensures in
    let f = c.previous-f.ensures in
    let h = nxt_in s.x s.count p.2 in
    let k = prv_in s.x s.count p.2 in
    let u : c.start-u.result < s.n =
    (rw c.start-u.ensures (rm.low s.x p.2)) in
    let r1 : Area s.n c.enter.new.work =
    subst (Area s.n) (sym c.enter.ensures)
    (enter_area s.n s.work.now 0 s.x c.next-g.result 0 1
    c.start-v.result (room_area s.n s.count s.work.now rm) (omega arith) (omega arith)) in
    (r1, omega arith, omega arith, omega arith, omega arith, omega arith, u)

pub returns : goal.returns
returns c = let s = c.args in
    let p = c.requires in
    let e = begun s.n s.work.now s.a s.x
    c.next-g.ensures c.previous-f.ensures c.start-v.ensures c.start-u.ensures c.enter.ensures c.enter-2.ensures c.stand.ensures c.stand-2.ensures in (
      e,
      subst (Room s.n s.count) (sym e) (begin_room s.n s.count s.work.now s.a s.x p.0 p.1 p.2),
      subst (Kept s.n s.work.now) (sym e) (begin_kept s.n s.count s.work.now s.a s.x p.0 p.1 p.2),
    )
