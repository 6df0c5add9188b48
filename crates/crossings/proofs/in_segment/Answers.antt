use Rattle.std.proofs.Common.{[], ◌∷◌, refl}
use Rattle.segments.proofs.Points.{also, near_read}
use Rattle.crossings.proofs.in_segment.Goals as goal

pub in_segment_xy-requires : goal.in_segment_xy-requires
in_segment_xy-requires c =
    let ps = c.args.points.now in
    near_read ps c.requires.near (c.args.a ∷ c.args.b ∷ c.args.p ∷ [])
    (also ps c.args.a (c.args.b ∷ c.args.p ∷ []) c.point_at-a.ensures
    (also ps c.args.b (c.args.p ∷ []) c.point_at-b.ensures
    (also ps c.args.p [] c.point_at-p.ensures refl)))
