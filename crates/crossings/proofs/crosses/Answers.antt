use Rattle.std.proofs.Common.{[], ◌∷◌, refl}
use Rattle.segments.proofs.Points.{also, near_read}
use Rattle.crossings.proofs.crosses.Goals as goal

pub crosses_xy-requires : goal.crosses_xy-requires
crosses_xy-requires c =
    let ps = c.args.points.now in
    near_read ps c.requires.near (c.args.a ∷ c.args.b ∷ c.args.c ∷ c.args.d ∷ [])
    (also ps c.args.a (c.args.b ∷ c.args.c ∷ c.args.d ∷ []) c.point_at-a.ensures
    (also ps c.args.b (c.args.c ∷ c.args.d ∷ []) c.point_at-b.ensures
    (also ps c.args.c (c.args.d ∷ []) c.point_at-c.ensures
    (also ps c.args.d [] c.point_at-d.ensures refl))))
