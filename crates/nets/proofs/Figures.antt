-- The building steps on points that pass checks 1 to 7. Assumes nothing.
use mathlib.Core.Bool.{Bool, true, false, cond}
use mathlib.Core.List.{List}
use mathlib.Core.Logic.{◌⊎◌, inl, inr}
use mathlib.Core.Path.{◌≡◌, refl, sym, ap, ◌∙◌, subst, fun_ext}
use Prim.Native.Nat.{ℕ, zero, suc, ◌+◌, ◌<◌, ◌≤◌}
use native.Mathlib.Omega.{arith}
use lib.IntN.{ℤ}
use Rattle.algebra.specs.Order.{Pos, NonNeg}
use Rattle.plane.specs.Base.{Side, s0, s1, s2, next}
use Rattle.plane.specs.Determinants.{orient}
use Rattle.plane.specs.Points.{Pt}
use Rattle.tables.specs.Data.{point_count, point, clockwise, base}
use Rattle.tables.specs.Figures.{Figure}
use Rattle.tables.specs.Rules.{rank, count_to, before}
use Rattle.tables.proofs.Table.{area_turns, not_outside, all_differ, not_t_false}
use Rattle.tables.proofs.Ranks.{count_lt, before_irrefl}
use Rattle.nets.specs.Building.{base_of, second_corner, third_corner, BuildsTo, BuiltFrom, Built}
use Rattle.nets.specs.Location.{inserted}
use Rattle.nets.specs.Nets.{Net}
use Rattle.nets.proofs.Built.{built, build, goes_in}
use Rattle.nets.proofs.Insert.{Inserted}

-- ---- a rank is below n

count_all : (n : ℕ) → count_to n (λ j. true) ≡ n
unfolding count_to
count_all zero = refl
count_all (suc n) = ap (λ (x : ℕ). x + 1) (count_all n) ∙ (let e : n + 1 ≡ suc n = omega arith in e)

pub rank_below : (ps : List ℤ) (u : ℕ) → u < point_count ps → rank ps u < point_count ps
unfolding rank
rank_below ps u l =
    let z = count_lt (point_count ps) (λ j. before (point ps j) (point ps u)) (λ j. true) (λ i b t. tt) u l (not_t_false (before (point ps u) (point ps u)) (before_irrefl (point ps u))) refl in
    let e = count_all (point_count ps) in omega arith

-- ---- the base

module _ (ps : List ℤ) where
  abbrev b : ℕ
  b = second_corner ps

  abbrev c : ℕ
  c = third_corner ps

  pub base_is : base_of (point ps) 0 b c ≡ base ps
  unfolding base
  base_is = fun_ext each
    where
      each : (s : Side) → base_of (point ps) 0 b c s ≡ base ps s
      each s0 = refl
      each s1 = refl
      each s2 = refl

  below : (t : Bool) → (cond t 2 1 < 3) × (cond t 1 2 < 3)
  below true = (omega arith, omega arith)
  below false = (omega arith, omega arith)

  corners : (t : Bool) (u : ℕ) → u < 3 → (u ≡ 0) ⊎ ((u ≡ cond t 2 1) ⊎ (u ≡ cond t 1 2))
  corners t zero l = inl refl
  corners true (suc zero) l = inr (inr refl)
  corners false (suc zero) l = inr (inl refl)
  corners true (suc (suc zero)) l = inr (inl refl)
  corners false (suc (suc zero)) l = inr (inr refl)
  corners t (suc (suc (suc u))) l = absurd (let f : ⊥ = omega arith in f)

  module _ (f : Figure ps) where
    abbrev n : ℕ
    n = point_count ps

    turns : Pos (orient (point ps 0) (point ps b) (point ps c))
    turns = subst (λ (B : Side → Pt ℤ). Pos (orient (B s0) (B s1) (B s2))) (sym base_is) (area_turns ps f.area)

    in_base : (u : ℕ) → u < n → (i : Side) → NonNeg (orient (base_of (point ps) 0 b c i) (base_of (point ps) 0 b c (next i)) (point ps u))
    in_base u l i = subst (λ (B : Side → Pt ℤ). NonNeg (orient (B i) (B (next i)) (point ps u))) (sym base_is) (not_outside ps u (f.within u l) i)

    differ : (u v : ℕ) → u < v → v < n → ¬ (point ps v ≡ point ps u)
    differ u v l m e = let q : v ≡ u = all_differ ps n f.distinct v u m (omega arith) e in let z : ⊥ = omega arith in z

    -- the building steps end, and make a tiling at rest
    pub figure_built : {k : ℕ} {o m : Net} {z : ℕ} → k ≤ n → BuildsTo ps o k m z → BuiltFrom ps k m z
    figure_built {k} {o} {m} {z} l s =
        subst (λ (B : Side → Pt ℤ). Built (point ps) B (rank ps) k m z) base_is
        (built (point ps) (rank ps) 0 b c n (omega arith) (below (clockwise ps)).0 (below (clockwise ps)).1 (corners (clockwise ps)) turns in_base differ l s)

    pub figure_builds : (o : Net) → (m : Net) × (z : ℕ) × BuildsTo ps o n m z
    figure_builds o =
        build (point ps) (rank ps) 0 b c n (omega arith) (below (clockwise ps)).0 (below (clockwise ps)).1 (corners (clockwise ps)) turns in_base differ
        (rank_below ps) o f.enough

    -- point k goes in
    pub figure_inserts : (k : ℕ) → k < n → {o m : Net} {z : ℕ} → BuildsTo ps o k m z → Inserted (point ps) (base ps) (rank ps) k m (inserted (point ps) m z k)
    figure_inserts k l {o} {m} {z} s =
        subst (λ (B : Side → Pt ℤ). Inserted (point ps) B (rank ps) k m (inserted (point ps) m z k)) base_is
        (goes_in (point ps) (rank ps) 0 b c n (omega arith) (below (clockwise ps)).0 (below (clockwise ps)).1 (corners (clockwise ps)) turns in_base differ k l
        (built (point ps) (rank ps) 0 b c n (omega arith) (below (clockwise ps)).0 (below (clockwise ps)).1 (corners (clockwise ps)) turns in_base differ (omega arith) s))
