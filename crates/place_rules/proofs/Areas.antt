-- The sum of the areas in 64 bits: twice an area is at most 8 · 8,192² in size, and there are at most 8,187 of them. Assumes nothing.
use mathlib.Core.Path.{◌≡◌, sym, ap, ap₂, ◌∙◌, subst}
use mathlib.Core.List.{List, [], ◌∷◌}
use Prim.Native.Nat.{ℕ, zero, suc, ◌+◌, ◌*◌, ◌≤◌, ◌<◌}
use native.Mathlib.Numerals.{add-one}
use native.Mathlib.Omega.{arith}
use lib.Dec.{eqb}
use lib.IntN.{ℤ, ◌+ℤ◌, nat_abs}
use mir.Syntax.{w64}
use mir.Val.{Fits, SFits, of_z, to_z}
use mir.Facts.{to_z-of_z, of_z-to_z}
use Rattle.algebra.specs.Sum.{sum_to}
use Rattle.algebra.specs.Tests.{eq_z}
use Rattle.algebra.proofs.Machine.{back}
use Rattle.algebra.proofs.Size.{all, size_le, small_within, fits, abs_add, mag_abs}
use Rattle.plane.specs.Determinants.{orient}
use Rattle.plane.specs.Base.{area_of_base}
use Rattle.plane.proofs.Polynomials.{orient_e, on3}
use Rattle.plane.specs.Points.{Pt}
use Rattle.signs.specs.Answers.{limit}
use Rattle.signs.specs.Points.{pt_of}
use Rattle.signs.specs.declared.Point.{Point}
use Rattle.tables.specs.Data.{point, base}
use Rattle.tables.specs.Rules.{triples, corner, triple_area, rule5}
use Rattle.segments.specs.Near.{Near}
use Rattle.segments.proofs.Points.{row, near_row}
use Rattle.segments.proofs.Compare.{eq_bits}

module _ (ps : List ℤ) (near : Near ps) where
  -- a coordinate of a point that was read is within the limit
  pub near_x : (i : ℕ) {p : Point} → pt_of p ≡ point ps i → nat_abs p.x ≤ limit
  near_x i e = subst (λ (q : Pt ℤ). nat_abs q.x ≤ limit) (sym e) (near_row ps near (i ∷ [])).0

  pub near_y : (i : ℕ) {p : Point} → pt_of p ≡ point ps i → nat_abs p.y ≤ limit
  near_y i e = subst (λ (q : Pt ℤ). nat_abs q.y ≤ limit) (sym e) (near_row ps near (i ∷ [])).1.0

  module _ (a b c : ℕ) where
    abbrev ρ : List ℤ
    ρ = row ps (a ∷ b ∷ c ∷ [])

    area_size : nat_abs (orient (point ps a) (point ps b) (point ps c)) ≤ 536870912
    unfolding orient point
    area_size = size_le (on3 orient_e) ρ (all limit ρ) (small_within limit ρ (near_row ps near (a ∷ b ∷ c ∷ [])))

    area_fits : SFits w64 (orient (point ps a) (point ps b) (point ps c))
    unfolding orient point
    area_fits = fits w64 (on3 orient_e) ρ (all limit ρ) (small_within limit ρ (near_row ps near (a ∷ b ∷ c ∷ []))) tt

  module _ (xs : List ℕ) where
    sum_size : (t : ℕ) → nat_abs (sum_to t (triple_area ps xs)) ≤ t * 536870912
    unfolding sum_to triple_area
    sum_size zero = omega arith
    sum_size (suc t) =
        omega
        (arith, sum_size t, area_size (corner xs (3 * t)) (corner xs (3 * t + 1)) (corner xs (3 * t + 2)), abs_add (sum_to t (triple_area ps xs)) (triple_area ps xs t))

    sum_fits : (t : ℕ) → t ≤ 8187 → SFits w64 (sum_to t (triple_area ps xs))
    sum_fits t l = record { sfits = omega (arith, sum_size t, mag_abs (sum_to t (triple_area ps xs))) }

    -- the bits s of the sum so far, and what a call told of the next area
    module _ (t : ℕ) (l : t < 8187) (s : ℕ) (e : to_z w64 s ≡ sum_to t (triple_area ps xs))
        {r : ℤ} (h : r ≡ orient (point ps (corner xs (3 * t))) (point ps (corner xs (3 * t + 1))) (point ps (corner xs (3 * t + 2)))) where
      sum_more : to_z w64 s +ℤ back w64 r ≡ sum_to (t + 1) (triple_area ps xs)
      unfolding sum_to triple_area
      sum_more =
          ap₂ (λ (x y : ℤ). x +ℤ y) e (ap (back w64) h ∙ to_z-of_z (area_fits (corner xs (3 * t)) (corner xs (3 * t + 1)) (corner xs (3 * t + 2)))) ∙
          ap (λ (k : ℕ). sum_to k (triple_area ps xs)) (sym (add-one t))

      pub more_fits : SFits w64 (to_z w64 s +ℤ back w64 r)
      more_fits = subst (λ (z : ℤ). SFits w64 z) (sym sum_more) (sum_fits (t + 1) (omega arith))

      pub more_is : to_z w64 (of_z w64 (to_z w64 s +ℤ back w64 r)) ≡ sum_to (t + 1) (triple_area ps xs)
      more_is = to_z-of_z more_fits ∙ sum_more

    -- the bits of the whole sum against what a call told of the base
    pub sum_test : triples xs ≤ 8187 → (s : ℕ) → Fits w64 s → to_z w64 s ≡ sum_to (triples xs) (triple_area ps xs) → (b c : ℕ) → area_of_base (base ps) ≡ orient (point ps 0) (point ps b) (point ps c) →
        {r : ℤ} → r ≡ orient (point ps 0) (point ps b) (point ps c) → eqb s (of_z w64 r) ≡ rule5 ps xs
    unfolding rule5
    sum_test l s f e b c i h =
        ap₂ eqb (sym (of_z-to_z f) ∙ ap (of_z w64) e) (ap (of_z w64) h) ∙ eq_bits w64 (sum_to (triples xs) (triple_area ps xs)) (orient (point ps 0) (point ps b) (point ps c)) (sum_fits (triples xs) l) (area_fits 0 b c) ∙
        ap (eq_z (sum_to (triples xs) (triple_area ps xs))) (sym i)
