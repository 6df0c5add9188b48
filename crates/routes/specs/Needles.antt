-- Needles through a base. The corners of one side of a cavity lie left of the base from z i to z j; the needle of corner k leads from it
-- across the base to w k. And the choice of the apex by the scan of document 01, step 4. Definitions only.
use Rattle.std.specs.Prelude.{◌≡◌, ℕ, suc, ◌-◌, ◌<◌, ℤ, pos}
use Rattle.algebra.specs.Order.{Pos, NonNeg}
use Rattle.plane.specs.Determinants.{orient}
use Rattle.plane.specs.Points.{Pt}
use Rattle.cavities.specs.Choices.{Clear, choice}

-- the needle from v to r pierces x y, v on the left
pub record Pierce (x y v r : Pt ℤ) : Type 0 where
  pub left : Pos (orient x y v)
  pub right : Pos (orient y x r)
  pub before : Pos (orient r v x)
  pub after : Pos (orient v r y)

-- the needle v r stands before the needle c R: they neither cross nor touch from the wrong side
pub record Apart (v r c R : Pt ℤ) : Type 0 where
  pub q1 : NonNeg (orient c R v) → Pos (orient R c r)
  pub q2 : NonNeg (orient r v c) → Pos (orient v r R)
  pub qa : Pos (orient r v c) → Pos (orient v r R) → Pos (orient R c r) → Pos (orient c R v) → ⊥
  pub qb : orient r v c ≡ pos 0 → Pos (orient R c r) → Pos (orient c R v) → ⊥
  pub qc : orient c R v ≡ pos 0 → Pos (orient r v c) → Pos (orient v r R) → ⊥

-- the apex c with its needle
pub record Over (x y c R : Pt ℤ) : Type 0 where
  pub left : Pos (orient x y c)
  pub before : Pos (orient R c x)
  pub after : Pos (orient c R y)

-- the chain z i .. z j over the base from z i to z j; w k is the other end of the needle of corner k
pub record Needles (z w : ℕ → Pt ℤ) (i j : ℕ) : Type 0 where
  pub pierce : (k : ℕ) → i < k → k < j → Pierce (z i) (z j) (z k) (w k)
  pub apart : (k l : ℕ) → i < k → k < l → l < j → Apart (z k) (w k) (z l) (w l)
  pub differ : (k : ℕ) → i < k → suc k < j → ¬ (z k ≡ z (suc k))

-- an apex whose circle is clear of the chain
pub record Apex (z : ℕ → Pt ℤ) (i j k : ℕ) : Type 0 where
  pub low : i < k
  pub high : k < j
  pub clear : (x : ℕ) → i < x → x < j → Clear (z i) (z j) (z k) (z x)

-- the scan over the corners between i and j
abbrev pub scan : (ℕ → Pt ℤ) → ℕ → ℕ → ℕ
scan z i j = choice (z i) (z j) z (suc i) (j - suc (suc i))
