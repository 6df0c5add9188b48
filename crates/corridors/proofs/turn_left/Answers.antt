use Prim.Native.Nat.{◌*◌, ◌<◌}
use native.Mathlib.Omega.{arith}
use Rattle.nets.specs.Nets.{prv}
use Rattle.corridors.proofs.Looks.{prv_in}
use Rattle.corridors.proofs.turn_left.Goals as goal

pub enter-requires : goal.enter-requires
enter-requires c = let s = c.args in
    let p = c.requires in
    let e = c.previous-o.ensures in
    let q : prv s.y < 3 * (2 * s.n) = prv_in s.y (2 * s.n) (omega arith) in
    (p.0, omega arith, p.3, omega arith, omega arith, omega arith, p.4)
