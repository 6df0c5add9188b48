-- The base of Check.antt, cut in three: a place lies strictly inside one of the three. Assumes nothing.
use lib.IntN.{ℤ, pos}
use lib.Signed.{lt_z_yes}
use Rattle.algebra.specs.Tests.{all_to}
use Rattle.plane.specs.Determinants.{orient}
use Rattle.plane.specs.Places.{Place, line}
use Rattle.plane.specs.Base.{s0, s1, s2, Within}
use Rattle.plane.specs.Halfedges.{nxt}
use Rattle.plane.specs.Cover.{StrictlyIn, One}
use Rattle.plane.proofs.Check.{of_clear, points, base, triples, three_tiles}
use Rattle.plane.proofs.Tiles.{tiles_one}

-- The place (5/2, 2) lies strictly inside one of the three and no other.
here : Place ℤ
here = record { qx = pos 5; qy = pos 4; qw = pos 2 }

within : Within base here
unfolding base points here line
within s0 = lt_z_yes tt
within s1 = lt_z_yes tt
within s2 = lt_z_yes tt

three_here : One 3 (StrictlyIn (λ h. points (triples h)) here)
unfolding all_to line orient nxt points base triples here
three_here = tiles_one three_tiles (lt_z_yes tt) here (lt_z_yes tt) within (of_clear 3 (λ h. points (triples h)) here tt)
