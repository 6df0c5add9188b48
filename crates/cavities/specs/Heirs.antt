-- When a net is a step from another: each live half-edge of the new net is the heir of an old one, or one of a new pair of partners, and
-- heirs keep their ends, mark, side and partner. The cavity lemma is about such steps. Definitions only.
use Rattle.std.specs.Prelude.{true, false, ◌≡◌, ℕ}
use Rattle.cavities.specs.Nets.{Net, Live, Mated}

-- h lives on as heir h
pub record Lives (σ σ' : Net) (heir : ℕ → ℕ) (h : ℕ) : Type 0 where
  pub live : Live σ' (heir h)
  pub org : σ'.org (heir h) ≡ σ.org h
  pub dst : σ'.dst (heir h) ≡ σ.dst h
  pub mark : σ'.mark (heir h) ≡ σ.mark h
  pub has : σ'.has (heir h) ≡ σ.has h
  pub mate : σ.has h ≡ true → σ'.mate (heir h) ≡ heir (σ.mate h)
  pub side : σ'.side (heir h) ≡ σ.side h

-- a live half-edge of the new net
pub data Each (σ σ' : Net) (heir : ℕ → ℕ) (Keep : ℕ → Type 0) (g : ℕ) : Type 0 where
  heir_of : (h : ℕ) → Live σ h → Keep h → heir h ≡ g → Each σ σ' heir Keep g
  fresh : σ'.has g ≡ true → Mated σ' g (σ'.mate g) → Each σ σ' heir Keep g

-- a half-edge that is kept and starts at p
pub record Kept (σ : Net) (Keep : ℕ → Type 0) (p : ℕ) : Type 0 where
  pub at : ℕ
  pub live : Live σ at
  pub keep : Keep at
  pub org : σ.org at ≡ p

-- Half-edges with no partner and marked ones are kept, so are partners together, and each point that starts a half-edge starts a kept one.
pub record Step (σ σ' : Net) (heir : ℕ → ℕ) (Keep : ℕ → Type 0) : Type 0 where
  pub keep_mate : (h : ℕ) → Live σ h → Keep h → σ.has h ≡ true → Keep (σ.mate h)
  pub keep_bare : (h : ℕ) → Live σ h → σ.has h ≡ false → Keep h
  pub keep_mark : (h : ℕ) → Live σ h → ¬ (σ.mark h ≡ 0) → Keep h
  pub keep_org : (h : ℕ) → Live σ h → Kept σ Keep (σ.org h)
  pub lives : (h : ℕ) → Live σ h → Keep h → Lives σ σ' heir h
  pub apart : (h k : ℕ) → Live σ h → Live σ k → heir h ≡ heir k → h ≡ k
  pub each : (g : ℕ) → Live σ' g → Each σ σ' heir Keep g
