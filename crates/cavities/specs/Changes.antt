-- The small changes of which recovery is made, each as a relation of the net before and the net after: dead half-edges are written, two
-- dead ones become partners, two partners are dropped, a half-edge moves to a dead number. Definitions only.
use Rattle.std.specs.Prelude.{true, cond, ◌≡◌, ℕ, eqb}
use Rattle.cavities.specs.Nets.{Net, Live, Dead}

-- half-edge h is as it was
pub record Same (σ σ' : Net) (h : ℕ) : Type 0 where
  pub org : σ'.org h ≡ σ.org h
  pub dst : σ'.dst h ≡ σ.dst h
  pub mark : σ'.mark h ≡ σ.mark h
  pub has : σ'.has h ≡ σ.has h
  pub mate : σ'.mate h ≡ σ.mate h
  pub side : σ'.side h ≡ σ.side h

-- only dead half-edges change
pub record Wrote (σ σ' : Net) : Type 0 where
  pub live : (h : ℕ) → σ'.live h ≡ σ.live h
  pub same : (h : ℕ) → Live σ h → Same σ σ' h

-- the dead half-edges x and y become partners, and unmarked
pub record Joined (σ σ' : Net) (x y : ℕ) : Type 0 where
  pub live_x : Live σ' x
  pub live_y : Live σ' y
  pub live : (h : ℕ) → ¬ (h ≡ x) → ¬ (h ≡ y) → σ'.live h ≡ σ.live h
  pub org : (h : ℕ) → σ'.org h ≡ σ.org h
  pub dst : (h : ℕ) → σ'.dst h ≡ σ.dst h
  pub mark_x : σ'.mark x ≡ 0
  pub mark_y : σ'.mark y ≡ 0
  pub has_x : σ'.has x ≡ true
  pub has_y : σ'.has y ≡ true
  pub mate_x : σ'.mate x ≡ y
  pub mate_y : σ'.mate y ≡ x
  pub same : (h : ℕ) → ¬ (h ≡ x) → ¬ (h ≡ y) → Same σ σ' h

-- the partners x and y die
pub record Dropped (σ σ' : Net) (x y : ℕ) : Type 0 where
  pub dead_x : Dead σ' x
  pub dead_y : Dead σ' y
  pub live : (h : ℕ) → ¬ (h ≡ x) → ¬ (h ≡ y) → σ'.live h ≡ σ.live h
  pub same : (h : ℕ) → Same σ σ' h

-- h is neither x nor y
abbrev pub But : ℕ → ℕ → ℕ → Type 0
But x y h = (¬ (h ≡ x)) × (¬ (h ≡ y))

-- h, but v in place of o
unfoldable pub ren : ℕ → ℕ → ℕ → ℕ
ren o v h = cond (eqb h o) v h

-- the half-edge o moves to the dead number v
pub record Parked (σ σ' : Net) (o v : ℕ) : Type 0 where
  pub dead_o : Dead σ' o
  pub live_v : Live σ' v
  pub live : (h : ℕ) → ¬ (h ≡ o) → ¬ (h ≡ v) → σ'.live h ≡ σ.live h
  pub org_v : σ'.org v ≡ σ.org o
  pub org : (h : ℕ) → ¬ (h ≡ v) → σ'.org h ≡ σ.org h
  pub dst_v : σ'.dst v ≡ σ.dst o
  pub dst : (h : ℕ) → ¬ (h ≡ v) → σ'.dst h ≡ σ.dst h
  pub mark_v : σ'.mark v ≡ σ.mark o
  pub mark : (h : ℕ) → ¬ (h ≡ v) → σ'.mark h ≡ σ.mark h
  pub side_v : σ'.side v ≡ σ.side o
  pub side : (h : ℕ) → ¬ (h ≡ v) → σ'.side h ≡ σ.side h
  pub has_v : σ'.has v ≡ σ.has o
  pub has : (h : ℕ) → ¬ (h ≡ v) → σ'.has h ≡ σ.has h
  pub mate_v : σ.has o ≡ true → σ'.mate v ≡ ren o v (σ.mate o)
  pub mate : (h : ℕ) → Live σ h → ¬ (h ≡ v) → σ.has h ≡ true → σ'.mate h ≡ ren o v (σ.mate h)

-- the same, to a number whose ends are already right
pub record Moved (σ σ' : Net) (o v : ℕ) : Type 0 where
  pub dead_o : Dead σ' o
  pub live_v : Live σ' v
  pub live : (h : ℕ) → ¬ (h ≡ o) → ¬ (h ≡ v) → σ'.live h ≡ σ.live h
  pub org : (h : ℕ) → σ'.org h ≡ σ.org h
  pub dst : (h : ℕ) → σ'.dst h ≡ σ.dst h
  pub mark_v : σ'.mark v ≡ σ.mark o
  pub mark : (h : ℕ) → ¬ (h ≡ v) → σ'.mark h ≡ σ.mark h
  pub side_v : σ'.side v ≡ σ.side o
  pub side : (h : ℕ) → ¬ (h ≡ v) → σ'.side h ≡ σ.side h
  pub has_v : σ'.has v ≡ σ.has o
  pub has : (h : ℕ) → ¬ (h ≡ v) → σ'.has h ≡ σ.has h
  pub mate_v : σ.has o ≡ true → σ'.mate v ≡ ren o v (σ.mate o)
  pub mate : (h : ℕ) → Live σ h → ¬ (h ≡ v) → σ.has h ≡ true → σ'.mate h ≡ ren o v (σ.mate h)
