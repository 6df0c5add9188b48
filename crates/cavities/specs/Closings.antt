-- The filling of both sides of a cavity. Its boundary is one closed chain: c 0 = a, the corners on the left, c n = b, those on the right,
-- c m = a. The part 0 .. n is filled under PL and n .. m under PR, and then the right root takes PL's place. Definitions only.
use Rattle.std.specs.Prelude.{◌≡◌, ℕ, suc, ◌*◌, ◌≤◌, ◌<◌}
use Rattle.cavities.specs.Changes.{Dropped, Moved}
use Rattle.cavities.specs.Fillings.{Slots, Gaps, Fill, Tri}
use Rattle.cavities.specs.Nets.{Net, Live, Dead, World, Inv}

-- the cavity, open: its gaps live, its slots dead
pub record Opened (W : World) (c gp slot : ℕ → ℕ) (n m r PL PR : ℕ) (σ : Net) : Type 0 where
  pub inv : Inv W σ
  pub gap_live : (h : ℕ) → Gaps gp 0 m h → Live σ h
  pub gap_apart : (x y : ℕ) → x < m → y < m → gp x ≡ gp y → x ≡ y
  pub gap_org : (x : ℕ) → x < m → σ.org (gp x) ≡ c (suc x)
  pub gap_dst : (x : ℕ) → x < m → σ.dst (gp x) ≡ c x
  pub slot_dead : (h : ℕ) → Slots slot 0 (suc r) h → Dead σ h
  pub slot_low : (h : ℕ) → Slots slot 0 (suc r) h → h < W.bound
  pub slot_apart : (y z : ℕ) → y < suc r → z < suc r → slot y ≡ slot z → y ≡ z
  pub left_dead : Dead σ PL
  pub left_low : PL < W.bound
  pub left_org : σ.org PL ≡ c n
  pub left_dst : σ.dst PL ≡ c 0
  pub left_out : ¬ Slots slot 0 (suc r) PL
  pub right_dead : Dead σ PR
  pub right_low : PR < W.bound
  pub right_org : σ.org PR ≡ c m
  pub right_dst : σ.dst PR ≡ c n
  pub right_out : ¬ Slots slot 0 (suc r) PR
  pub two : ¬ (PL ≡ PR)
  pub closed : c m ≡ c 0

-- what is done to it
pub record Closing (Ccw : ℕ → ℕ → ℕ → Type 0) (c gp slot : ℕ → ℕ) (n m q r PL PR : ℕ) (σ σ1 σ2 σ3 σ4 : Net) : Type 0 where
  pub left : Fill Ccw c gp slot 0 n 0 q PL σ σ1
  pub right : Fill Ccw c gp slot n m q (suc r) PR σ1 σ2
  pub some : q ≤ r
  pub drop : Dropped σ2 σ3 PR (3 * slot r)
  pub move : Moved σ3 σ4 PL (3 * slot r)

-- and what it is then
pub record Closed (W : World) (Ccw : ℕ → ℕ → ℕ → Type 0) (gp slot : ℕ → ℕ) (m r PL PR : ℕ) (σ σ' : Net) : Type 0 where
  pub inv : Inv W σ'
  pub slot_live : (h : ℕ) → Slots slot 0 (suc r) h → Live σ' h
  pub gap_dead : (h : ℕ) → Gaps gp 0 m h → Dead σ' h
  pub left_dead : Dead σ' PL
  pub right_dead : Dead σ' PR
  pub live : (h : ℕ) → ¬ (h ≡ PL) → ¬ (h ≡ PR) → ¬ Gaps gp 0 m h → ¬ Slots slot 0 (suc r) h → σ'.live h ≡ σ.live h
  pub org : (h : ℕ) → ¬ Slots slot 0 (suc r) h → σ'.org h ≡ σ.org h
  pub dst : (h : ℕ) → ¬ Slots slot 0 (suc r) h → σ'.dst h ≡ σ.dst h
  pub tri : (y : ℕ) → y < suc r → Tri Ccw σ' (slot y)
