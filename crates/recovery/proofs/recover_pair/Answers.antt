use Prim.Native.Nat.{◌+◌, ◌*◌}
use native.Mathlib.Omega.{arith}
use Rattle.std.proofs.Common.{rules}
use Rattle.tables.specs.Data.{point, end_a, end_b}
use Rattle.nets.specs.Layout.{net_of}
use Rattle.looks.specs.Around.{Names, Between}
use Rattle.recovery.proofs.Lines.{search_asked, marked_edge}
use Rattle.recovery.proofs.recover_pair.Goals as goal

pub look_around-met-requires-clause-ranged : goal.look_around-met-requires-clause-ranged
look_around-met-requires-clause-ranged c = search_asked c.requires.0

-- an edge
pub returns : goal.returns
unfolding net_of
returns c =
    let P = point c.args.points.now in
    let m = net_of c.args.work.now c.args.count in
    let a = end_a c.args.pairs.now c.args.k in
    let b = end_b c.args.pairs.now c.args.k in
    let t = c.in-Some-Edge.t in
    let e = c.in-Some-Edge.e in
    let h : Names m (Between m a b) t e = search rules in
    let low = h.0 in
    let side = h.1 in
    marked_edge c.requires.0 (3 * t + e) (omega arith) h.2 c.mark.ensures
