-- When the recovery of a pair sticks, in document 01's words, told of the net as it is before the recovery. Definitions only.
use Rattle.std.specs.Prelude.{◌≡◌, ◌⊎◌, ℕ, suc, ◌+◌, ◌-◌, ◌*◌, ◌/◌, ◌<◌, ℤ, pos, neg_ℤ}
use Rattle.algebra.specs.Order.{Pos}
use Rattle.plane.specs.Determinants.{orient}
use Rattle.plane.specs.Halfedges.{nxt}
use Rattle.plane.specs.Points.{Pt}
use Rattle.nets.specs.Nets.{Net, dst, prv}
use Rattle.chains.specs.Fillings.{NoApex}

-- The entry edge: the segment from a to b leaves a triangle with the corner a through the half-edge x across from it, whose start lies
-- strictly right of the segment's line and whose end strictly left.
pub record Leaves (P : ℕ → Pt ℤ) (m : Net) (a b x : ℕ) : Type 0 where
  pub low : x < 3 * m.tris
  pub far : m.org (prv x) ≡ a
  pub right : Pos (neg_ℤ (orient (P a) (P b) (P (m.org x))))
  pub left : Pos (orient (P a) (P b) (P (dst m x)))

-- no crossed slot up to now is s
abbrev pub New : (ℕ → ℕ) → ℕ → ℕ → Type 0
New slot k s = (i : ℕ) → i < k → ¬ (slot i ≡ s)

-- The triangles crossed so far, slot 0, slot 1 and so on, with the corners on the left, cl 0 to cl l, and on the right, cr 0 to cr r; both
-- start with a. The half-edge x is the edge to leave by, the exit edge. An unmarked edge with a neighbour that was not entered before leads on:
-- the neighbour's far corner stands on the left or on the right, and the exit edge is the one across.
pub data Way (P : ℕ → Pt ℤ) (m : Net) (a b : ℕ) (slot cl cr : ℕ → ℕ) : ℕ → ℕ → ℕ → Type 0 where
  first : {x : ℕ} → Leaves P m a b x → slot 0 ≡ x / 3 → cl 0 ≡ a → cr 0 ≡ a → cl 1 ≡ dst m x → cr 1 ≡ m.org x → Way P m a b slot cl cr 1 1 x
  left : {l r x y : ℕ} → Way P m a b slot cl cr l r x → m.adj x ≡ suc y → m.con x ≡ 0 → New slot (l + r - 1) (y / 3) → slot (l + r - 1) ≡ y / 3
      → Pos (orient (P a) (P b) (P (m.org (prv y)))) → cl (suc l) ≡ m.org (prv y) → Way P m a b slot cl cr (suc l) r (nxt y)
  right : {l r x y : ℕ} → Way P m a b slot cl cr l r x → m.adj x ≡ suc y → m.con x ≡ 0 → New slot (l + r - 1) (y / 3) → slot (l + r - 1) ≡ y / 3
      → Pos (neg_ℤ (orient (P a) (P b) (P (m.org (prv y))))) → cr (suc r) ≡ m.org (prv y) → Way P m a b slot cl cr l (suc r) (prv y)

-- A condition of document 01 on which the recovery sticks, met behind the exit edge x.
pub data Bars (P : ℕ → Pt ℤ) (m : Net) (a b : ℕ) (slot cl cr : ℕ → ℕ) (l r x : ℕ) : Type 0 where
  -- no neighbour
  no_neighbour : m.adj x ≡ 0 → Bars P m a b slot cl cr l r x
  -- a marked edge would be absent after filling, for it is crossed
  marked_edge : ¬ (m.con x ≡ 0) → Bars P m a b slot cl cr l r x
  -- a triangle is entered twice
  twice : (y i : ℕ) → m.adj x ≡ suc y → i < l + r - 1 → slot i ≡ y / 3 → Bars P m a b slot cl cr l r x
  -- a corner other than b is met on the line
  on_line : (y : ℕ) → m.adj x ≡ suc y → ¬ (m.org (prv y) ≡ b) → orient (P a) (P b) (P (m.org (prv y))) ≡ pos 0 → Bars P m a b slot cl cr l r x
  -- b is met, and over the left corners from a to b, or over the right ones from b to a, an apex is not strictly left of its base
  apex : (y : ℕ) → m.adj x ≡ suc y → m.org (prv y) ≡ b → cl (suc l) ≡ b → cr (suc r) ≡ b
      → NoApex P cl 0 (suc l) ⊎ NoApex P (λ z. cr (suc r - z)) 0 (suc r) → Bars P m a b slot cl cr l r x

-- The recovery of the pair a b sticks in the net m.
pub data Sticks (P : ℕ → Pt ℤ) (m : Net) (a b : ℕ) : Type 0 where
  no_entry : ((x : ℕ) → ¬ Leaves P m a b x) → Sticks P m a b
  on_the_way : (slot cl cr : ℕ → ℕ) {l r x : ℕ} → Way P m a b slot cl cr l r x → Bars P m a b slot cl cr l r x → Sticks P m a b
