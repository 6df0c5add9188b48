-- Where the code stops on the way, a condition of document 01 is met behind the exit edge. Assumes nothing.
use mathlib.Core.Bool.{Bool}
use mathlib.Core.List.{List}
use mathlib.Core.Logic.{inl, inr}
use mathlib.Core.Path.{◌≡◌, refl, sym, ap, ◌∙◌}
use Prim.Native.Nat.{ℕ, zero, suc, ◌+◌, ◌-◌, ◌*◌, ◌/◌, ◌≤◌, ◌<◌}
use native.Mathlib.Decide.{ℕ_discrete, dec_lt}
use native.Mathlib.Omega.{arith}
use lib.IntN.{ℤ}
use Rattle.plane.specs.Base.{Side}
use Rattle.plane.specs.Determinants.{orient}
use Rattle.plane.specs.Points.{Pt}
use Rattle.nets.specs.Layout.{net_of}
use Rattle.nets.specs.Nets.{prv}
use Rattle.nets.specs.Tilings.{Tiling}
use Rattle.cavities.proofs.Walk.{walk_strip}
use Rattle.cavities.specs.Corridors.{Strip}
use Rattle.cavities.specs.Recovery.{pick}
use Rattle.cavities.specs.Tilings.{CcwP}
use Rattle.routes.proofs.Onward.{pigeon}
use Rattle.chains.specs.Areas.{adj, chain_of, slot_of, Room}
use Rattle.chains.specs.Sticking.{Bars, no_neighbour, marked_edge, twice, on_line, Sticks, on_the_way}
use Rattle.chains.specs.declared.Reason.{Reason}
use Rattle.chains.specs.declared.Reason.TheVariants.{NoNeighbour, Marked, Twice, OnLine, Apex}
use Rattle.mirrors.specs.Models.{Ghost, model_of}
use Rattle.tracks.proofs.Keeps.{Mate, seen_mate}
use Rattle.tracks.proofs.Saw.{Why}
use Rattle.tracks.proofs.State.{State, F, W, σ, small, some, til, back}

-- one of the first k is s
search : (f : ℕ → ℕ) (k s : ℕ) → Dec ((i : ℕ) × (i < k) × (f i ≡ s))
search f zero s = no (λ q. let l = q.1 in omega arith)
search f (suc k) s = go (search f k s) (ℕ_discrete (f k) s)
  where
    go : Dec ((i : ℕ) × (i < k) × (f i ≡ s)) → Dec (f k ≡ s) → Dec ((i : ℕ) × (i < suc k) × (f i ≡ s))
    go (yes q) d = yes (q.0, (let l = q.1 in omega arith), q.2)
    go (no q) (yes e) = yes (k, omega arith, e)
    go (no q) (no e) = no (λ u. q (u.0, less u.0 u.1 u.2, u.2))
      where
        less : (i : ℕ) → i < suc k → f i ≡ s → i < k
        less i l w = let d : ¬ (i ≡ k) = (λ z. e (ap f (sym z) ∙ w)) in omega arith

-- as many different numbers below t as there are: each of them is met, for one more would not fit
all_met : (f : ℕ → ℕ) (k t s : ℕ) → ((i : ℕ) → i < k → f i < t) → ((i j : ℕ) → i < k → j < k → f i ≡ f j → i ≡ j) → s < t → t ≤ k → (i : ℕ) × (i < k) × (f i ≡ s)
unfolding pick
all_met f k t s low apart l many = go (search f k s)
  where
    g_low : (i : ℕ) (d : Dec (i < k)) → i < suc k → pick d (f i) s < t
    g_low i (yes d) h = low i d
    g_low i (no d) h = l

    g_apart : ¬ ((i : ℕ) × (i < k) × (f i ≡ s)) → (i j : ℕ) (d : Dec (i < k)) (e : Dec (j < k)) → i < suc k → j < suc k → pick d (f i) s ≡ pick e (f j) s → i ≡ j
    g_apart q i j (yes d) (yes e) h m z = apart i j d e z
    g_apart q i j (yes d) (no e) h m z = absurd (q (i, d, z))
    g_apart q i j (no d) (yes e) h m z = absurd (q (j, e, sym z))
    g_apart q i j (no d) (no e) h m z = omega arith

    go : Dec ((i : ℕ) × (i < k) × (f i ≡ s)) → (i : ℕ) × (i < k) × (f i ≡ s)
    go (yes q) = q
    go (no q) =
        let n = pigeon t (suc k) (λ i. pick (dec_lt i k) (f i) s) (λ i h. g_low i (dec_lt i k) h) (λ i j h m z. g_apart q i j (dec_lt i k) (dec_lt j k) h m z) in
        absurd (let z : suc k ≤ t → ⊥ = omega arith in z n)

module _ (P : ℕ → Pt ℤ) (B : Side → Pt ℤ) (kk n t a b : ℕ) (w0 : List ℕ) (tile : Tiling P B kk (net_of w0 t)) (rm : Room n t w0) (s : ℕ → Bool)
    (w1 : List ℕ) (l r x : ℕ) (w : List ℕ) (G : Ghost) (S : State P B kk n t a b w0 tile rm s w1 l r x w G) where
  abbrev Bar : Type 0
  Bar = Bars P (net_of w0 t) a b (slot_of n w1) (chain_of n w1) (λ z. chain_of n w1 (2 * n - 1 - z)) l r x

  stuck : Bar → Sticks P (net_of w0 t) a b
  stuck d = on_the_way (slot_of n w1) (chain_of n w1) (λ z. chain_of n w1 (2 * n - 1 - z)) S.way d

  low : (g : ℕ) → adj w0 x ≡ suc g → g < 3 * t
  unfolding net_of
  low g e = tile.linked.low x g S.low e

  none : adj w x ≡ 0 → Mate n t w0 (slot_of n w1) (l + r - 1) w x → Bar
  unfolding net_of
  none e (inl d) = no_neighbour (sym d ∙ e)
  none e (inr d) = absurd (let q = d.over in omega arith)

  again : 3 * t < adj w x → Mate n t w0 (slot_of n w1) (l + r - 1) w x → Bar
  unfolding net_of
  again h (inl d) =
      let e : adj w0 x ≡ suc (adj w x - 1) = omega arith in
      let q = low (adj w x - 1) e in absurd (let z : adj w x - 1 < 3 * t → ⊥ = omega arith in z q)
  again h (inr d) = twice d.y d.i d.mate d.high d.is

  bar : (e : Reason) → Why P t a b w x e → Bar
  unfolding Why net_of
  bar NoNeighbour k = none k (S.keeps.mate x S.low)
  bar Marked k = marked_edge (λ e. k (S.keeps.mark x S.low ∙ e))
  bar Twice k = again k (S.keeps.mate x S.low)
  bar OnLine k =
      let y = k.0 in
      let c = S.keeps.corner (prv y) in
      on_line y (seen_mate n t w0 (slot_of n w1) (small P B kk n t a b w0 tile rm s w1) (some P B kk n t a b w0 tile rm s w1)
      (back P B kk n t a b w0 tile rm s w1) (l + r - 1) w x y S.keeps S.low k.1)
      (λ e. k.2 (c ∙ e)) (ap (λ (u : ℕ). orient (P a) (P b) (P u)) (sym c) ∙ k.3)
  bar Apex k = absurd k

  -- THE CODE STOPS
  pub stops : (e : Reason) → Why P t a b w x e → Sticks P (net_of w0 t) a b
  stops e k = stuck (bar e k)

  -- the crossed slots are different triangles
  strip : Strip (W P B kk n t a b w0 tile rm s w1) (F P B kk n t a b w0 tile rm s w1) t (l + r - 1) l r x (σ P B kk n t a b w0 tile rm s w1) (model_of n w G)
  strip =
      walk_strip (W P B kk n t a b w0 tile rm s w1) (CcwP P) (F P B kk n t a b w0 tile rm s w1) t (t + 3) (til P B kk n t a b w0 tile rm s w1)
      (let q = S.few in let z : l + r - 1 < t + 3 = omega arith in z) S.walk

  -- more triangles crossed than there are: whatever lies behind the exit edge was crossed before
  pub goes_far : t < l + r → Sticks P (net_of w0 t) a b
  unfolding net_of
  goes_far many = stuck (go (adj w0 x) refl)
    where
      go : (q : ℕ) → adj w0 x ≡ q → Bar
      go zero e = no_neighbour e
      go (suc y) e =
          let h = low y e in
          let v = all_met (slot_of n w1) (l + r - 1) t (y / 3) strip.core.slot_real strip.core.slot_apart (omega arith) (omega arith) in
          twice y v.0 e v.1 v.2
