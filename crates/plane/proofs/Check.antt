-- This test computes whether a list of triples tiles the base, and holds exactly where it does. An example follows it: a base is cut in
-- three. Assumes nothing.
use mathlib.Core.Path.{◌≡◌}
use mathlib.Core.Bool.{Bool, not, ◌&&◌, ◌||◌}
use mathlib.Core.List.{[], ◌∷◌}
use mathlib.Core.Logic.{◌⊎◌, inl, inr}
use Prim.Native.Nat.{ℕ, ◌*◌, ◌<◌}
use lib.Dec.{T, eqb}
use lib.IntN.{ℤ, pos}
use lib.ListN.{get_or}
use Rattle.algebra.specs.Sum.{sum_to}
use Rattle.plane.specs.Points.{Pt, at}
use Rattle.plane.specs.Determinants.{orient}
use Rattle.plane.specs.Places.{Place, line}
use Rattle.plane.specs.Base.{Side, s0, s1, s2, next, On, area_of_base}
use Rattle.plane.specs.Halfedges.{nxt}
use Rattle.plane.specs.Cover.{Clear}
use Rattle.plane.specs.Tiles.{OnSide, triple_area, Tiles}
use Rattle.algebra.specs.Tests.{posb, eq_z}
use Rattle.algebra.specs.Tests.{all_to, any_to}
use Rattle.plane.proofs.Test.{Reads, reads_as, reads_eq, reads_eq_z, reads_pos, reads_and, reads_or, reads_if, reads_not, reads_all}
use Rattle.plane.proofs.Tiles.{reverseb, reads_reverse}

-- ---- rule 2

abbrev pub same_edge : (ℕ → ℕ) → ℕ → ℕ → Bool
same_edge org h g = eqb (org g) (org h) && eqb (org (nxt g)) (org (nxt h))

abbrev pub onceb : ℕ → (ℕ → ℕ) → Bool
onceb k org = all_to (3 * k) (λ h. all_to (3 * k) (λ g. not (same_edge org h g) || eqb g h))

pub reads_once : (k : ℕ) (org : ℕ → ℕ) →
    Reads (onceb k org) ((h g : ℕ) → h < 3 * k → g < 3 * k → org g ≡ org h → org (nxt g) ≡ org (nxt h) → g ≡ h)
reads_once k org =
    reads_as
    (reads_all (3 * k) (λ h. reads_all (3 * k) (λ g. reads_if (reads_and (reads_eq (org g) (org h)) (reads_eq (org (nxt g)) (org (nxt h)))) (reads_eq g h))))
    (λ f h g l m e d. f h l g m (e, d)) (λ f h l g m p. f h g l m p.0 p.1)

-- ---- rule 3

module _ (P : ℕ → Pt ℤ) (B : Side → Pt ℤ) where
  abbrev pub onb : Side → ℕ → Bool
  onb i u = eq_z (orient (B i) (B (next i)) (P u)) (pos 0)

  abbrev pub on_sideb : ℕ → ℕ → Bool
  on_sideb u v = (onb s0 u && onb s0 v) || ((onb s1 u && onb s1 v) || (onb s2 u && onb s2 v))

  reads_both : (i : Side) (u v : ℕ) → Reads (onb i u && onb i v) (On B i (P u) × On B i (P v))
  reads_both i u v = reads_and (reads_eq_z (orient (B i) (B (next i)) (P u)) (pos 0)) (reads_eq_z (orient (B i) (B (next i)) (P v)) (pos 0))

  pub reads_side : (u v : ℕ) → Reads (on_sideb u v) (OnSide P B u v)
  reads_side u v = reads_as (reads_or (reads_both s0 u v) (reads_or (reads_both s1 u v) (reads_both s2 u v))) into (λ o. from o.0 o.1 o.2)
    where
      Each : Type 0
      Each = (On B s0 (P u) × On B s0 (P v)) ⊎ ((On B s1 (P u) × On B s1 (P v)) ⊎ (On B s2 (P u) × On B s2 (P v)))

      into : Each → OnSide P B u v
      into (inl p) = (s0, p.0, p.1)
      into (inr (inl p)) = (s1, p.0, p.1)
      into (inr (inr p)) = (s2, p.0, p.1)

      from : (i : Side) → On B i (P u) → On B i (P v) → Each
      from s0 e k = inl (e, k)
      from s1 e k = inr (inl (e, k))
      from s2 e k = inr (inr (e, k))

  -- ---- the four rules

  unfoldable pub tilesb : ℕ → (ℕ → ℕ) → Bool
  tilesb k org =
      all_to k (λ t. posb (triple_area P org t)) &&
      (onceb k org &&
      (all_to (3 * k) (λ h. any_to (3 * k) (reverseb org h) || on_sideb (org h) (org (nxt h))) && eq_z (sum_to k (triple_area P org)) (area_of_base B)))

  pub reads_tiles : (k : ℕ) (org : ℕ → ℕ) → Reads (tilesb k org) (Tiles P B k org)
  unfolding tilesb
  reads_tiles k org =
      reads_as
      (reads_and (reads_all k (λ t. reads_pos (triple_area P org t)))
      (reads_and (reads_once k org)
      (reads_and (reads_all (3 * k) (λ h. reads_or (reads_reverse k org h) (reads_side (org h) (org (nxt h)))))
      (reads_eq_z (sum_to k (triple_area P org)) (area_of_base B)))))
      (λ p. record { ccw = p.0; once = p.1.0; met = p.1.1.0; areas = p.1.1.1 }) (λ r. (r.ccw, (r.once, (r.met, r.areas))))

-- A place on no line of an edge is on no edge.
abbrev pub clearb : ℕ → (ℕ → Pt ℤ) → Place ℤ → Bool
clearb n o q = all_to (3 * n) (λ h. not (eq_z (line (o h) (o (nxt h)) q) (pos 0)))

pub of_clear : (n : ℕ) (o : ℕ → Pt ℤ) (q : Place ℤ) → T (clearb n o q) → Clear n o q
of_clear n o q t h l e = (reads_all (3 * n) (λ h. reads_not (reads_eq_z (line (o h) (o (nxt h)) q) (pos 0)))).says t h l e.on_line

-- ---- a base cut in three

unfoldable pub points : ℕ → Pt ℤ
points u = get_or (at (pos 0) (pos 0) ∷ at (pos 9) (pos 0) ∷ at (pos 0) (pos 9) ∷ at (pos 2) (pos 3) ∷ []) u (at (pos 0) (pos 0))

unfoldable pub base : Side → Pt ℤ
base s0 = points 0
base s1 = points 1
base s2 = points 2

unfoldable pub triples : ℕ → ℕ
triples h = get_or (0 ∷ 1 ∷ 3 ∷ 0 ∷ 3 ∷ 2 ∷ 1 ∷ 2 ∷ 3 ∷ []) h 0

pub three_tiles : Tiles points base 3 triples
unfolding tilesb all_to any_to sum_to orient nxt points base triples
three_tiles = (reads_tiles points base 3 triples).says tt
