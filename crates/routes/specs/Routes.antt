-- A route: the gates of a walk, each of which follows from the one before by a new corner on the left or on the right. Definitions only.
use Rattle.std.specs.Prelude.{ℕ, suc, ℤ}
use Rattle.algebra.specs.Order.{Pos}
use Rattle.plane.specs.Determinants.{orient}
use Rattle.plane.specs.Points.{Pt}
use Rattle.routes.specs.Gates.{Between, Cross}
use Rattle.routes.specs.Needles.{Pierce}

-- what the tiling says of its edges, whichever way they run
pub record Tidy (pts : ℕ → Pt ℤ) (Edge : ℕ → ℕ → Type 0) : Type 0 where
  pub turned : (p q : ℕ) → Edge p q → Edge q p
  pub free : (p q s t : ℕ) → Edge p q → Edge s t → ¬ Cross (pts p) (pts q) (pts s) (pts t)
  pub thin : (p q s t : ℕ) → Edge p q → Edge s t → ¬ Between (pts p) (pts q) (pts s)

-- an edge that the segment from a to b pierces
pub record Gate (pts : ℕ → Pt ℤ) (Edge : ℕ → ℕ → Type 0) (a b : Pt ℤ) (p q : ℕ) : Type 0 where
  pub edge : Edge p q
  pub pierce : Pierce a b (pts p) (pts q)

-- Route pts Edge cl cr a b m l r: m gates, with l corners on the left and r on the right
pub data Route (pts : ℕ → Pt ℤ) (Edge : ℕ → ℕ → Type 0) (cl cr : ℕ → ℕ) (a b : Pt ℤ) : ℕ → ℕ → ℕ → Type 0 where
  first : Gate pts Edge a b (cl 1) (cr 1) → Route pts Edge cl cr a b 1 1 1
  more_left : {m l r : ℕ} → Route pts Edge cl cr a b m l r → Pos (orient (pts (cl l)) (pts (cr r)) (pts (cl (suc l)))) →
      Gate pts Edge a b (cl (suc l)) (cr r) → Route pts Edge cl cr a b (suc m) (suc l) r
  more_right : {m l r : ℕ} → Route pts Edge cl cr a b m l r → Pos (orient (pts (cl l)) (pts (cr r)) (pts (cr (suc r)))) →
      Gate pts Edge a b (cl l) (cr (suc r)) → Route pts Edge cl cr a b (suc m) l (suc r)
