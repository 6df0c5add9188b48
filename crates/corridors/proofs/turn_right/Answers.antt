use Prim.Native.Nat.{◌*◌, ◌<◌}
use native.Mathlib.Omega.{arith}
use Rattle.plane.specs.Halfedges.{nxt}
use Rattle.nets.proofs.Slot.{nxt_in}
use Rattle.corridors.proofs.turn_right.Goals as goal

pub enter-requires : goal.enter-requires
enter-requires c = let s = c.args in
    let p = c.requires in
    let e = c.next-o.ensures in
    let q : nxt s.y < 3 * (2 * s.n) = nxt_in s.y (2 * s.n) (omega arith) in
    (p.0, omega arith, p.3, omega arith, omega arith, omega arith, p.4)
