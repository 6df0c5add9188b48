-- What a recovery does beside keeping the tiling: it marks no new edge, it changes nothing of a triangle that it does not cross but a partner
-- that it crosses, and the demanded edge is edge 0 of the last crossed slot. That it does so is the theorem recovery_traced of
-- proofs/Traces.antt. Definitions only.
use Rattle.std.specs.Prelude.{true, ◌≡◌, ℕ, suc, ◌*◌, ◌≤◌, ◌<◌}
use Rattle.cavities.specs.Fillings.{Slots}
use Rattle.cavities.specs.Nets.{Net, Live}

-- the marked edges are among the pairs of May
abbrev pub Only : (ℕ → ℕ → Type 0) → Net → Type 0
Only May σ = (h : ℕ) → Live σ h → ¬ (σ.mark h ≡ 0) → May (σ.org h) (σ.dst h)

-- h is no half-edge of a triangle that stays: it is one of the n crossed slots', or beyond the t triangles
pub data Gone (slot : ℕ → ℕ) (n t h : ℕ) : Type 0 where
  crossed : Slots slot 0 n h → Gone slot n t h
  beyond : 3 * t ≤ h → Gone slot n t h

-- the partner g is the same later, or neither of the two stays
pub data Kin (Off : ℕ → Type 0) (g g' : ℕ) : Type 0 where
  still : g' ≡ g → Kin Off g g'
  both : Off g → Off g' → Kin Off g g'

-- half-edge h lives on as it was, but for a partner that does not stay
pub record Stays (Off : ℕ → Type 0) (σ σ' : Net) (h : ℕ) : Type 0 where
  pub live : Live σ' h
  pub org : σ'.org h ≡ σ.org h
  pub dst : σ'.dst h ≡ σ.dst h
  pub mark : σ'.mark h ≡ σ.mark h
  pub has : σ'.has h ≡ σ.has h
  pub mate : σ.has h ≡ true → Kin Off (σ.mate h) (σ'.mate h)

-- a recovery of the line from a to b, over n triangles and the last one
pub record Traced (May : ℕ → ℕ → Type 0) (slot : ℕ → ℕ) (t n a b : ℕ) (σ σ' : Net) : Type 0 where
  pub only : Only May σ'
  pub outside : (h : ℕ) → ¬ Gone slot (suc n) t h → Stays (Gone slot (suc n) t) σ σ' h
  pub root_org : σ'.org (3 * slot n) ≡ b
  pub root_dst : σ'.dst (3 * slot n) ≡ a
  pub root_low : slot n < t
