-- The filling of one side of a cavity, document 01, step 4: what it finds, what it does and what it leaves. The chain has the corners c i
-- to c j, the gap x is a half-edge from c (x + 1) to c x, and each new triangle takes a free slot. Definitions only.
use Rattle.std.specs.Prelude.{◌≡◌, ℕ, suc, ◌+◌, ◌*◌, ◌≤◌, ◌<◌}
use Rattle.cavities.specs.Changes.{Wrote, Joined, Moved}
use Rattle.cavities.specs.Nets.{Net, Live, Dead, World, Inv}

-- triangle s has the corners a, b, c
pub record Corners (σ : Net) (s a b c : ℕ) : Type 0 where
  pub org0 : σ.org (3 * s) ≡ a
  pub dst0 : σ.dst (3 * s) ≡ b
  pub org1 : σ.org (3 * s + 1) ≡ b
  pub dst1 : σ.dst (3 * s + 1) ≡ c
  pub org2 : σ.org (3 * s + 2) ≡ c
  pub dst2 : σ.dst (3 * s + 2) ≡ a

-- h is one of the half-edges of the slots p .. q
pub record Slots (slot : ℕ → ℕ) (p q h : ℕ) : Type 0 where
  pub at : ℕ
  pub k : ℕ
  pub low : p ≤ at
  pub high : at < q
  pub three : k < 3
  pub is : h ≡ 3 * slot at + k

-- h is one of the gaps i .. j
pub record Gaps (gp : ℕ → ℕ) (i j h : ℕ) : Type 0 where
  pub at : ℕ
  pub low : i ≤ at
  pub high : at < j
  pub is : h ≡ gp at

-- the corners of slot s are written, and nothing else
pub record Cut (σ σ' : Net) (s a b c : ℕ) : Type 0 where
  pub wrote : Wrote σ σ'
  pub corners : Corners σ' s a b c
  pub org : (h : ℕ) → ((k : ℕ) → k < 3 → ¬ (h ≡ 3 * s + k)) → σ'.org h ≡ σ.org h
  pub dst : (h : ℕ) → ((k : ℕ) → k < 3 → ¬ (h ≡ 3 * s + k)) → σ'.dst h ≡ σ.dst h

-- triangle s closes and turns counterclockwise
pub record Tri (Ccw : ℕ → ℕ → ℕ → Type 0) (σ : Net) (s : ℕ) : Type 0 where
  pub dst0 : σ.dst (3 * s) ≡ σ.org (3 * s + 1)
  pub dst1 : σ.dst (3 * s + 1) ≡ σ.org (3 * s + 2)
  pub dst2 : σ.dst (3 * s + 2) ≡ σ.org (3 * s)
  pub ccw : Ccw (σ.org (3 * s)) (σ.org (3 * s + 1)) (σ.org (3 * s + 2))

-- Fill Ccw c gp slot i j p q P σ σ': the part i .. j is filled with the slots p .. q under the half-edge P. A node over i .. j takes the
-- corner k for its apex, fills i .. k and k .. j, and becomes the partner of P; at a gap, the gap's half-edge moves to P.
pub data Fill (Ccw : ℕ → ℕ → ℕ → Type 0) (c gp slot : ℕ → ℕ) : ℕ → ℕ → ℕ → ℕ → ℕ → Net → Net → Type 0 where
  gap : {i p P : ℕ} {σ σ' : Net} → Moved σ σ' (gp i) P → Fill Ccw c gp slot i (suc i) p p P σ σ'
  node : {i k j p q r P : ℕ} {σ σ0 σ1 σ2 σ3 : Net} → Ccw (c i) (c j) (c k) → Cut σ σ0 (slot r) (c i) (c j) (c k) →
      Fill Ccw c gp slot i k p q (3 * slot r + 2) σ0 σ1 → Fill Ccw c gp slot k j q r (3 * slot r + 1) σ1 σ2 → Joined σ2 σ3 (3 * slot r) P → Fill Ccw c gp slot i j p (suc r) P σ σ3

-- what a part's filling finds
pub record Ready (W : World) (c gp slot : ℕ → ℕ) (i j p q P : ℕ) (σ : Net) : Type 0 where
  pub inv : Inv W σ
  pub gap_live : (h : ℕ) → Gaps gp i j h → Live σ h
  pub gap_apart : (x y : ℕ) → i ≤ x → x < j → i ≤ y → y < j → gp x ≡ gp y → x ≡ y
  pub gap_org : (x : ℕ) → i ≤ x → x < j → σ.org (gp x) ≡ c (suc x)
  pub gap_dst : (x : ℕ) → i ≤ x → x < j → σ.dst (gp x) ≡ c x
  pub slot_dead : (h : ℕ) → Slots slot p q h → Dead σ h
  pub slot_low : (h : ℕ) → Slots slot p q h → h < W.bound
  pub slot_apart : (y z : ℕ) → p ≤ y → y < q → p ≤ z → z < q → slot y ≡ slot z → y ≡ z
  pub top_dead : Dead σ P
  pub top_low : P < W.bound
  pub top_org : σ.org P ≡ c j
  pub top_dst : σ.dst P ≡ c i
  pub top_out : ¬ Slots slot p q P

-- what it leaves
pub record Done (W : World) (Ccw : ℕ → ℕ → ℕ → Type 0) (gp slot : ℕ → ℕ) (i j p q P : ℕ) (σ σ' : Net) : Type 0 where
  pub inv : Inv W σ'
  pub top_live : Live σ' P
  pub gap_dead : (h : ℕ) → Gaps gp i j h → Dead σ' h
  pub slot_live : (h : ℕ) → Slots slot p q h → Live σ' h
  pub live : (h : ℕ) → ¬ (h ≡ P) → ¬ Gaps gp i j h → ¬ Slots slot p q h → σ'.live h ≡ σ.live h
  pub org : (h : ℕ) → ¬ Slots slot p q h → σ'.org h ≡ σ.org h
  pub dst : (h : ℕ) → ¬ Slots slot p q h → σ'.dst h ≡ σ.dst h
  pub tri : (y : ℕ) → p ≤ y → y < q → Tri Ccw σ' (slot y)
