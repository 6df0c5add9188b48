-- A point in a segment and a crossing are told by the answers of their parts. An answer that settles the test leaves the later ones
-- open. Assumes nothing.
use mathlib.Core.Path.{◌≡◌, refl, ap, ap₂}
use mathlib.Core.Bool.{Bool, true, false, not, ◌&&◌}
use lib.IntN.{ℤ, pos}
use Rattle.std.proofs.Common.{int_eq}
use Rattle.algebra.specs.Tests.{eq_z}
use Rattle.plane.specs.Points.{Pt}
use Rattle.plane.specs.Determinants.{orient}
use Rattle.signs.specs.Points.{pt_of}
use Rattle.signs.specs.declared.Point.{Point}
use Rattle.segments.proofs.Compare.{int_eq_is}
use Rattle.tables.specs.Data.{same}
use Rattle.tables.specs.Refusals.{between, in_segment, opposed, crosses}

pub inside : (a b p : Pt ℤ) {x y f s t : Bool} → between a.x b.x p.x ≡ x → between a.y b.y p.y ≡ y → eq_z (orient a b p) (pos 0) ≡ f → same p a ≡ s → same p b ≡ t →
    in_segment a b p ≡ x && y && f && not s && not t
unfolding in_segment
inside a b p h i j k l = rw (h, i, j, k, l)

-- A point that is not on the line is not in the segment.
pub off : (a b p : Pt ℤ) → eq_z (orient a b p) (pos 0) ≡ false → in_segment a b p ≡ false
unfolding in_segment
off a b p h = rw h (no (between a.x b.x p.x) (between a.y b.y p.y) (not (same p a)) (not (same p b)))
  where
    no : (x y s t : Bool) → x && y && false && s && t ≡ false
    no true true s t = refl
    no true false s t = refl
    no false y s t = refl

-- The comparison of two points with whole coordinates is the test that they are one.
pub same_is : (p q : Point) → (int_eq p.x q.x && int_eq p.y q.y) ≡ same (pt_of p) (pt_of q)
same_is p q = ap₂ (λ (x y : Bool). x && y) (int_eq_is p.x q.x) (int_eq_is p.y q.y)

pub not_told : (b : Bool) {v : Bool} → not b ≡ v → b ≡ not v
not_told true e = ap not e
not_told false e = ap not e

pub crossing : (a b c d : Pt ℤ) {x y : Bool} → opposed (orient a b c) (orient a b d) ≡ x → opposed (orient c d a) (orient c d b) ≡ y → crosses a b c d ≡ x && y
unfolding crosses
crossing a b c d h i = ap₂ (λ (x y : Bool). x && y) h i
