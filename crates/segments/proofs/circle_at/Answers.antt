use Rattle.std.proofs.Common.{◌≡◌, sym, ◌∙◌, Some}
use Rattle.plane.specs.Determinants.{incircle}
use Rattle.signs.specs.Signs.{sign_z}
use Rattle.tables.specs.Data.{point}
use Rattle.segments.proofs.Points.{circle_known}
use Rattle.segments.proofs.circle_at.Goals as goal
use Rattle.segments.proofs.circle_at.Goals.{After-circle_sign}

-- Points within the limit have a circle sign.
known : (c : After-circle_sign) → let ps = c.args.points.now in
    c.circle_sign.result ≡ Some (sign_z (incircle (point ps c.args.a) (point ps c.args.b) (point ps c.args.c) (point ps c.args.d)))
known c = rw (c.circle_sign.ensures, c.point_at-a.ensures, c.point_at-b.ensures, c.point_at-c.ensures, c.point_at-d.ensures)
    (circle_known c.args.points.now c.requires.near c.args.a c.args.b c.args.c c.args.d)

pub unwrap-requires : goal.unwrap-requires
unwrap-requires c = rw (known (goal.at.unwrap-requires c).After-circle_sign)

pub returns : goal.returns
returns c = let e = sym c.unwrap.ensures ∙ known (goal.at.returns c).After-circle_sign in cc e
