-- A recovery that does not stick: a walk along the corridor that meets b, and the filling of both sides. Definitions only.
use Rattle.std.specs.Prelude.{◌≡◌, ℕ, suc, ◌+◌, ◌-◌, ◌<◌}
use Rattle.std.proofs.Math.Decide.{dec_lt}
use Rattle.cavities.specs.Changes.{Wrote}
use Rattle.cavities.specs.Closings.{Closing}
use Rattle.cavities.specs.Corridors.{Figure, Walk, Arrive}
use Rattle.cavities.specs.Fillings.{Gaps}
use Rattle.cavities.specs.Nets.{Net, Dead, World}

-- a where the test holds, and b where it does not
unfoldable pub pick : {A : Type 0} → Dec A → ℕ → ℕ → ℕ
pick (yes l) a b = a
pick (no l) a b = b

-- the closed chain of the cavity's corners, and its gaps: up the left, down the right
unfoldable pub chain : Figure → ℕ → ℕ → ℕ → ℕ
chain F l r x = pick (dec_lt x (suc l)) (F.cl x) (F.cr (suc l + suc r - x))

unfoldable pub gaps : Figure → ℕ → ℕ → ℕ → ℕ
gaps F l r x = pick (dec_lt x (suc l)) (F.gl x) (F.gr (l + suc r - x))

-- the corners of the two half-edges above the roots are written
pub record Tops (σ σ' : Net) (PL PR a b : ℕ) : Type 0 where
  pub wrote : Wrote σ σ'
  pub left_org : σ'.org PL ≡ b
  pub left_dst : σ'.dst PL ≡ a
  pub right_org : σ'.org PR ≡ a
  pub right_dst : σ'.dst PR ≡ b
  pub org : (h : ℕ) → ¬ (h ≡ PL) → ¬ (h ≡ PR) → σ'.org h ≡ σ.org h
  pub dst : (h : ℕ) → ¬ (h ≡ PL) → ¬ (h ≡ PR) → σ'.dst h ≡ σ.dst h

-- From the net σ, by the walk over n triangles, the last one, the two above the roots, and the filling of both sides, to σ'.
pub record Recovery (Ccw : ℕ → ℕ → ℕ → Type 0) (F : Figure) (t n l r PL PR : ℕ) (σ σ' : Net) : Type 0 where
  pub x : ℕ
  pub f : ℕ
  pub g : ℕ
  pub q : ℕ
  pub σ1 : Net
  pub σ2 : Net
  pub σ3 : Net
  pub σ4 : Net
  pub σ5 : Net
  pub σ6 : Net
  pub σ7 : Net
  pub σ8 : Net
  pub walk : Walk F t n l r x σ σ1
  pub arrive : Arrive F t n l r x f g σ1 σ2 σ3 σ4
  pub tops : Tops σ4 σ5 PL PR (F.cl 0) (F.cl (suc l))
  pub closing : Closing Ccw (chain F l r) (gaps F l r) F.slot (suc l) (suc l + suc r) q n PL PR σ5 σ6 σ7 σ8 σ'

-- places for n + 3 gaps and the two above the roots
pub record Room (W : World) (vt : ℕ → ℕ) (n PL PR : ℕ) (σ : Net) : Type 0 where
  pub PL_dead : Dead σ PL
  pub PR_dead : Dead σ PR
  pub PL_vt : ¬ Gaps vt 0 (suc (suc (suc n))) PL
  pub PR_vt : ¬ Gaps vt 0 (suc (suc (suc n))) PR
  pub PL_low : PL < W.bound
  pub PR_low : PR < W.bound
  pub two : ¬ (PL ≡ PR)
