use Rattle.std.proofs.Common.{[], ◌∷◌, refl}
use Rattle.segments.proofs.Points.{also, near_read}
use Rattle.segments.proofs.orient_at.Goals as goal

pub orient_xy-requires : goal.orient_xy-requires
orient_xy-requires c =
    let ps = c.args.points.now in
    near_read ps c.requires.near (c.args.a ∷ c.args.b ∷ c.args.c ∷ [])
    (also ps c.args.a (c.args.b ∷ c.args.c ∷ []) c.point_at-a.ensures
    (also ps c.args.b (c.args.c ∷ []) c.point_at-b.ensures
    (also ps c.args.c [] c.point_at-c.ensures refl)))
