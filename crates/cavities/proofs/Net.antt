-- A net of half-edges, some of them live, and the one lemma by which flips, splits and fillings keep it: each live half-edge of the new
-- net is the heir of an old one or one of a new pair, and heirs keep their ends, mark and partner. Assumes nothing.
use mathlib.Core.Bool.{Bool, true, false, not, ◌&&◌}
use mathlib.Core.Path.{◌≡◌, refl, sym, ap, ap₂, ◌∙◌, subst}
use Prim.Native.Nat.{ℕ}
use lib.Dec.{T}
use lib.IntN.{ℤ}
use Rattle.plane.specs.Base.{Side}
use Rattle.cavities.specs.Heirs.{Lives, Each, heir_of, fresh, Step}
use Rattle.cavities.specs.Nets.{Net, Live, Mated, Fine, Good, Marked, Corner, bare, rim, Below}
use Rattle.cavities.proofs.Biject.{sum_biject}

pub clash : {b : Bool} {X : Type 0} → b ≡ true → b ≡ false → X
clash e k = absurd (subst T (sym e ∙ k) tt)

along_by : (Along : Side → ℕ → ℕ → Type 0) {i j : Side} {p q r s : ℕ} → i ≡ j → p ≡ r → q ≡ s → Along j r s → Along i p q
along_by Along e f g a = subst (λ (X : Type 0). X) (sym (λ t. Along (e t) (f t) (g t))) a

pub inherit : (Along : Side → ℕ → ℕ → Type 0) (σ σ' : Net) (heir : ℕ → ℕ) (h : ℕ) → Fine Along σ h → Lives σ σ' heir h → (σ.has h ≡ true → Lives σ σ' heir (σ.mate h)) → Fine Along σ' (heir h)
inherit Along σ σ' heir h fine lives mate-lives = record {
  mated = λ e. mated (sym lives.has ∙ e);
  along = λ e. along_by Along lives.side lives.org lives.dst (fine.along (sym lives.has ∙ e));
}
  where
    mated : σ.has h ≡ true → Mated σ' (heir h) (σ'.mate (heir h))
    mated e =
        let f = fine.mated e in
        let k = mate-lives e in
        subst (Mated σ' (heir h)) (sym (lives.mate e)) (record {
          live = k.live;
          has = k.has ∙ f.has;
          back = k.mate f.has ∙ ap heir f.back;
          org = k.org ∙ f.org ∙ sym lives.dst;
          dst = k.dst ∙ f.dst ∙ sym lives.org;
          mark = k.mark ∙ f.mark ∙ sym lives.mark;
        })

-- THE CAVITY LEMMA, partners
pub step_good : (Along : Side → ℕ → ℕ → Type 0) (σ σ' : Net) (heir : ℕ → ℕ) (Keep : ℕ → Type 0) → Step σ σ' heir Keep → Good Along σ → Good Along σ'
step_good Along σ σ' heir Keep step good g l = go (step.each g l)
  where
    go : Each σ σ' heir Keep g → Fine Along σ' g
    go (heir_of h k keep e) =
        subst (Fine Along σ') e
        (inherit Along σ σ' heir h (good h k) (step.lives h k keep) (λ q. step.lives (σ.mate h) ((good h k).mated q).live (step.keep_mate h k keep q)))
    go (fresh e p) = record { mated = λ q. p; along = λ q. clash e q }

-- ---- marked edges

pub step_marked : (σ σ' : Net) (heir : ℕ → ℕ) (Keep : ℕ → Type 0) → Step σ σ' heir Keep → (p q : ℕ) → Marked σ p q → Marked σ' p q
step_marked σ σ' heir Keep step p q m =
    let a = step.lives m.at m.live (step.keep_mark m.at m.live m.mark) in
    record { at = heir m.at; live = a.live; org = a.org ∙ m.org; dst = a.dst ∙ m.dst; mark = λ e. m.mark (sym a.mark ∙ e) }

pub step_corner : (σ σ' : Net) (heir : ℕ → ℕ) (Keep : ℕ → Type 0) → Step σ σ' heir Keep → (p : ℕ) → Corner σ p → Corner σ' p
step_corner σ σ' heir Keep step p c =
    let k = step.keep_org c.at c.live in
    let a = step.lives k.at k.live k.keep in
    record { at = heir k.at; live = a.live; org = a.org ∙ k.org ∙ c.org }

-- ---- the boundary

bare_live : (a b : Bool) → (a && not b) ≡ true → a ≡ true
bare_live true b e = refl
bare_live false b e = e

bare_has : (a b : Bool) → (a && not b) ≡ true → b ≡ false
bare_has true true e = sym e
bare_has true false e = refl
bare_has false true e = sym e
bare_has false false e = refl

bare_of : (a b : Bool) → a ≡ true → b ≡ false → (a && not b) ≡ true
bare_of true true e k = sym k
bare_of true false e k = refl
bare_of false true e k = e
bare_of false false e k = e

module _ (n : ℕ) (φ : ℕ → ℕ → ℤ) (σ σ' : Net) (heir : ℕ → ℕ) (Keep : ℕ → Type 0) (step : Step σ σ' heir Keep) (low : Below n σ) (low' : Below n σ') where
  ancestor : (g : ℕ) → Each σ σ' heir Keep g → ℕ
  ancestor g (heir_of h k keep e) = h
  ancestor g (fresh e p) = 0

  from : (g : ℕ) (b : Bool) → σ'.live g ≡ b → ℕ
  from g true l = ancestor g (step.each g l)
  from g false l = 0

  fro : ℕ → ℕ
  fro g = from g (σ'.live g) refl

  record Bare (g h : ℕ) : Type 0 where
    live : Live σ h
    has : σ.has h ≡ false
    is : heir h ≡ g

  bare_each : (g : ℕ) → σ'.has g ≡ false → (c : Each σ σ' heir Keep g) → Bare g (ancestor g c)
  unfolding ancestor
  bare_each g e (heir_of h k keep q) = record { live = k; has = sym (step.lives h k keep).has ∙ ap σ'.has q ∙ e; is = q }
  bare_each g e (fresh q p) = clash q e

  bare_from : (g : ℕ) → Live σ' g → σ'.has g ≡ false → Bare g (fro g)
  unfolding fro from
  bare_from g l e = go (σ'.live g) refl
    where
      go : (b : Bool) (k : σ'.live g ≡ b) → Bare g (from g b k)
      go true k = bare_each g e (step.each g k)
      go false k = clash l k

  alive : (h : ℕ) → Live σ h → σ.has h ≡ false → Lives σ σ' heir h
  alive h l e = step.lives h l (step.keep_bare h l e)

  one : (h : ℕ) → Live σ h → σ.has h ≡ false → fro (heir h) ≡ h
  one h l e =
      let a = alive h l e in
      let r = bare_from (heir h) a.live (a.has ∙ e) in
      step.apart (fro (heir h)) h r.live l r.is

  -- THE CAVITY LEMMA, areas: what is summed over the boundary stays
  pub step_rim : rim n φ σ ≡ rim n φ σ'
  unfolding rim
  step_rim =
      sum_biject n n (bare σ) (bare σ') (λ h. φ (σ.org h) (σ.dst h)) (λ h. φ (σ'.org h) (σ'.dst h)) heir fro
      (λ h l e.
      let a = alive h (bare_live (σ.live h) (σ.has h) e) (bare_has (σ.live h) (σ.has h) e) in
      record { low = low' (heir h) a.live; is = bare_of (σ'.live (heir h)) (σ'.has (heir h)) a.live (a.has ∙ bare_has (σ.live h) (σ.has h) e); same = ap₂ φ a.org a.dst })
      (λ g l e.
      let r = bare_from g (bare_live (σ'.live g) (σ'.has g) e) (bare_has (σ'.live g) (σ'.has g) e) in
      let a = alive (fro g) r.live r.has in
      record {
        low = low (fro g) r.live;
        is = bare_of (σ.live (fro g)) (σ.has (fro g)) r.live r.has;
        same = ap₂ φ (sym a.org ∙ ap σ'.org r.is) (sym a.dst ∙ ap σ'.dst r.is);
      })
      (λ h l e. one h (bare_live (σ.live h) (σ.has h) e) (bare_has (σ.live h) (σ.has h) e))
      (λ g l e. (bare_from g (bare_live (σ'.live g) (σ'.has g) e) (bare_has (σ'.live g) (σ'.has g) e)).is)
