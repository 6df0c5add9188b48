use Rattle.std.proofs.Common.{arith}
use Rattle.frames.proofs.Edges.{kept, negated, least_of, most_of}
use Rattle.frames.proofs.Frame.of.Goals as goal

pub edge-requires : goal.edge-requires
edge-requires c =
    let a = c.of-a.result in
    let b = c.of-b.result in
    let d = c.of-c.result in
    let l =
    kept _ (least_of a.x b.x d.x _ _ (record { low = a.near_x.0; high = a.near_x.1 }) (record { low = b.near_x.0; high = b.near_x.1 })
    (record { low = d.near_x.0; high = d.near_x.1 }) c.min.ensures.value c.min-left.ensures.value) in
    (l.low, l.high, omega arith, omega arith)

pub overflow_sub-high : goal.overflow_sub-high
overflow_sub-high c =
    let a = c.of-a.result in
    let b = c.of-b.result in
    let d = c.of-c.result in
    (negated _ (most_of a.y b.y d.y _ _ (record { low = a.near_y.0; high = a.near_y.1 }) (record { low = b.near_y.0; high = b.near_y.1 })
    (record { low = d.near_y.0; high = d.near_y.1 }) c.max-2.ensures.value c.max-high.ensures.value)).0

pub edge-requires-2 : goal.edge-requires-2
edge-requires-2 c =
    let a = c.of-a.result in
    let b = c.of-b.result in
    let d = c.of-c.result in
    let l =
    (negated _ (most_of a.y b.y d.y _ _ (record { low = a.near_y.0; high = a.near_y.1 }) (record { low = b.near_y.0; high = b.near_y.1 })
    (record { low = d.near_y.0; high = d.near_y.1 }) c.max-2.ensures.value c.max-high.ensures.value)).1 in
    (l.low, l.high, omega arith, omega arith)
