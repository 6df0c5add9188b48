-- Step 3 as the code tries it: points compared by their coordinates, rank pairs by the points alone, and the circle sign by cases.
-- Assumes nothing.
use mathlib.Core.Path.{◌≡◌, refl, sym, ap, ap₂, ◌∙◌, subst}
use mathlib.Core.Logic.{inl, inr}
use mathlib.Core.Bool.{Bool, true, false, cond, ◌&&◌, ◌||◌}
use mathlib.Core.List.{List}
use Prim.Native.Nat.{ℕ, ◌<◌}
use lib.Dec.{T}
use lib.IntN.{ℤ}
use lib.Signed.{◌<ℤ◌}
use Rattle.std.specs.Prelude.{Option, Some}
use Rattle.std.proofs.Common.{Ordering, Less, Equal, Greater, is_lt, int_cmp}
use Rattle.std.specs.Ordering.{MatchOrdering, is_some_and, partial_ordering_then}
use Rattle.std.proofs.lemmas.Cmp.{int_ranked}
use Rattle.algebra.specs.Tests.{posb}
use Rattle.plane.specs.Points.{Pt}
use Rattle.plane.specs.Determinants.{orient, incircle}
use Rattle.signs.specs.Signs.{sign_z}
use Rattle.signs.specs.declared.Sign.{Sign}
use Rattle.signs.specs.declared.Sign.TheVariants.{Neg, Zero, Pos}
use Rattle.tables.specs.Data.{point_count, point, same}
use Rattle.tables.specs.Rules.{before, rank, pair_below, wins, flips}
use Rattle.tables.proofs.Table.{T_true, not_t_false, same_point, point_same}
use Rattle.tables.proofs.Ranks.{Order, less, equal, more, order, Before, reads_before, before_irrefl, before_not, low_of, high_of, pair_below_lem}
use Rattle.segments.specs.Tests.{is_pos, is_zero}
use Rattle.segments.proofs.SignTests.{pos_told, zero_told}

-- ---- two places, as the code compares them: by x, then by y

abbrev told : Bool → Bool → Option Ordering
told a b = cond a (Some Less) (cond b (Some Greater) (Some Equal))

told_lt : (a b : Bool) → is_some_and is_lt (told a b) ≡ a
told_lt true b = refl
told_lt false true = refl
told_lt false false = refl

abbrev place_cmp : Pt ℤ → Pt ℤ → Option Ordering
place_cmp p q = partial_ordering_then (Some (int_cmp p.x q.x)) (Some (int_cmp p.y q.y))

module _ (p q : Pt ℤ) where
  equal_not : p ≡ q → (before p q ≡ false) × (before q p ≡ false)
  equal_not e = (
    not_t_false (before p q) (λ s. before_irrefl q (subst (λ (z : Pt ℤ). T (before z q)) e s)),
    not_t_false (before q p) (λ s. before_irrefl q (subst (λ (z : Pt ℤ). T (before q z)) e s)),
  )

  place_told : place_cmp p q ≡ told (before p q) (before q p)
  place_told = go (int_cmp p.x q.x) (int_cmp p.y q.y) (int_ranked p.x q.x (int_cmp p.x q.x) refl) (int_ranked p.y q.y (int_cmp p.y q.y) refl)
    where
      is_less : Before p q → Some Less ≡ told (before p q) (before q p)
      is_less h = rw (T_true (before p q) ((reads_before p q).shows h))

      is_more : Before q p → Some Greater ≡ told (before p q) (before q p)
      is_more h = let t = (reads_before q p).shows h in rw (before_not q p t, T_true (before q p) t)

      is_equal : p ≡ q → Some Equal ≡ told (before p q) (before q p)
      is_equal e = let n = equal_not e in rw (n.0, n.1)

      go : (o o' : Ordering) → MatchOrdering o (p.x <ℤ q.x) (p.x ≡ q.x) (q.x <ℤ p.x) → MatchOrdering o' (p.y <ℤ q.y) (p.y ≡ q.y) (q.y <ℤ p.y)
          → partial_ordering_then (Some o) (Some o') ≡ told (before p q) (before q p)
      go Less o' h k = is_less (inl h)
      go Greater o' h k = is_more (inl h)
      go Equal Less e k = is_less (inr (e, k))
      go Equal Greater e k = is_more (inr (sym e, k))
      go Equal Equal e k = is_equal (λ i. record { x = e i; y = k i })

  pub place_lt : is_some_and is_lt (place_cmp p q) ≡ before p q
  place_lt = ap (is_some_and is_lt) place_told ∙ told_lt (before p q) (before q p)

-- two pairs of places, where the first are one place by the second
module _ (p q : Pt ℤ) where
  pub places_lt : (p' q' : Pt ℤ) → is_some_and is_lt (partial_ordering_then (place_cmp p q) (place_cmp p' q')) ≡ (before p q || (same p q && before p' q'))
  places_lt p' q' = ap₂ (λ (o o' : Option Ordering). is_some_and is_lt (partial_ordering_then o o')) (place_told p q) (place_told p' q') ∙ go (order p q)
    where
      go : Order p q → is_some_and is_lt (partial_ordering_then (told (before p q) (before q p)) (told (before p' q') (before q' p'))) ≡ (before p q || (same p q && before p' q'))
      go (less t) = rw (T_true (before p q) t)
      go (equal e) = let n = equal_not p q e in rw (n.0, n.1, point_same p q e) (told_lt (before p' q') (before q' p'))
      go (more t) = rw (before_not q p t, T_true (before q p) t, not_t_false (same p q) (λ s. before_irrefl q (subst (λ (z : Pt ℤ). T (before q z)) (same_point p q (T_true (same p q) s)) t)))

-- ---- rank pairs by the points alone
module _ (ps : List ℤ) (a b c d : ℕ) (la : a < point_count ps) (lb : b < point_count ps) (lc : c < point_count ps) (ld : d < point_count ps) where
  pub below_by : {p p' q q' : Pt ℤ} → p ≡ low_of (point ps c) (point ps d) → p' ≡ high_of (point ps c) (point ps d) → q ≡ low_of (point ps a) (point ps b) → q' ≡ high_of (point ps a) (point ps b)
      → (before p q || (same p q && before p' q')) ≡ pair_below (rank ps c) (rank ps d) (rank ps a) (rank ps b)
  below_by e f g h = rw (e, f, g, h) (sym (pair_below_lem ps a b c d la lb lc ld))

-- ---- the circle sign by cases

module _ (ps : List ℤ) (a b c d : ℕ) {s : Sign} (e : s ≡ sign_z (incircle (point ps a) (point ps b) (point ps c) (point ps d))) where
  abbrev below' : Bool
  below' = pair_below (rank ps c) (rank ps d) (rank ps a) (rank ps b)

  abbrev turns : Bool
  turns = posb (orient (point ps a) (point ps d) (point ps c)) && posb (orient (point ps d) (point ps b) (point ps c))

  flips_by : flips ps a b c d ≡ ((is_pos s || (is_zero s && below')) && posb (orient (point ps a) (point ps d) (point ps c)) && posb (orient (point ps d) (point ps b) (point ps c)))
  unfolding flips wins
  flips_by = let z = incircle (point ps a) (point ps b) (point ps c) (point ps d) in rw (pos_told z e refl, zero_told z e refl)

  pub inside : s ≡ Pos → {r : Bool} → r ≡ turns → r ≡ flips ps a b c d
  inside h t = rw (flips_by, h) t

  pub outside : s ≡ Neg → false ≡ flips ps a b c d
  outside h = rw (flips_by, h)

  pub tie_lost : s ≡ Zero → {r : Bool} → r ≡ below' → r ≡ false → r ≡ flips ps a b c d
  tie_lost h t f = rw (flips_by, h, ← t, f)

  pub tie_won : s ≡ Zero → {r r' : Bool} → r ≡ below' → r ≡ true → r' ≡ turns → r' ≡ flips ps a b c d
  tie_won h t f u = rw (flips_by, h, ← t, f) u
