-- The gates of a corridor: the edges that the segment from a to b crosses, in their order along the segment. Definitions only.
use Rattle.std.specs.Prelude.{◌≡◌, ℕ, suc, ◌<◌, ℤ, pos, ◌-ℤ◌, ◌*ℤ◌, neg_ℤ}
use Rattle.algebra.specs.Order.{Pos, NonNeg}
use Rattle.plane.specs.Determinants.{orient}
use Rattle.plane.specs.Points.{Pt}
use Rattle.cavities.specs.Choices.{dot}
use Rattle.routes.specs.Needles.{Pierce}

-- positive where the gate v r crosses a b before the gate c R does
unfoldable pub lead : Pt ℤ → Pt ℤ → Pt ℤ → Pt ℤ → Pt ℤ → Pt ℤ → ℤ
lead a b v r c R = orient R c a *ℤ orient v r b -ℤ orient r v a *ℤ orient c R b

-- it does
abbrev pub Before : Pt ℤ → Pt ℤ → Pt ℤ → Pt ℤ → Pt ℤ → Pt ℤ → Type 0
Before a b v r c R = Pos (lead a b v r c R)

-- p lies strictly inside the segment u v
pub record Between (u v p : Pt ℤ) : Type 0 where
  pub on : orient u v p ≡ pos 0
  pub inner : Pos (neg_ℤ (dot u v p))

-- the segments v r and c R cross properly, c on the right of v r
pub record Cross (v r c R : Pt ℤ) : Type 0 where
  pub right : Pos (orient r v c)
  pub left : Pos (orient v r R)
  pub right' : Pos (orient R c r)
  pub left' : Pos (orient c R v)

-- n gates from a to b
pub record Corridor (a b : Pt ℤ) (gl gr : ℕ → Pt ℤ) (n : ℕ) : Type 0 where
  pub pierce : (g : ℕ) → g < n → Pierce a b (gl g) (gr g)
  pub rise : (g : ℕ) → suc g < n → Before a b (gl g) (gr g) (gl (suc g)) (gr (suc g))
  pub cross : (g h : ℕ) → g < n → h < n → ¬ Cross (gl g) (gr g) (gl h) (gr h)
  pub cross' : (g h : ℕ) → g < n → h < n → ¬ Cross (gr g) (gl g) (gr h) (gl h)
  pub clear_left : (g h : ℕ) → g < n → h < n → ¬ Between (gl g) (gr g) (gl h)
  pub clear_right : (g h : ℕ) → g < n → h < n → ¬ Between (gl g) (gr g) (gr h)

-- the corners i .. j of a chain and their gates
pub record Witness (z w el er : ℕ → Pt ℤ) (a b : Pt ℤ) (n i j : ℕ) (at : ℕ → ℕ) : Type 0 where
  pub from : z i ≡ a
  pub to : z j ≡ b
  pub corner : (k : ℕ) → i < k → k < j → z k ≡ el (at k)
  pub needle : (k : ℕ) → i < k → k < j → w k ≡ er (at k)
  pub real : (k : ℕ) → i < k → k < j → at k < n
  pub differ : (k : ℕ) → i < k → suc k < j → ¬ (z k ≡ z (suc k))

-- b is not in the closed triangle p q w
abbrev pub Beyond : Pt ℤ → Pt ℤ → Pt ℤ → Pt ℤ → Type 0
Beyond p q w b = NonNeg (orient q w b) → NonNeg (orient w p b) → ⊥

-- behind the gate p q with apex w there is a gate again, on the side where w is not
pub data Next (a b p q w : Pt ℤ) : Type 0 where
  to_left : Pos (orient a b w) → Pierce a b w q → Next a b p q w
  to_right : Pos (orient b a w) → Pierce a b p w → Next a b p q w
