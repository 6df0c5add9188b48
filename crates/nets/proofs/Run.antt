-- Step 2 has an end: from every tiling and suspects there is a net that flipping ends in. Assumes nothing.
use mathlib.Core.List.{List, [], ◌∷◌}
use mathlib.Core.Logic.{◌⊎◌, inl, inr}
use mathlib.Core.Path.{◌≡◌, refl, sym, ap, ◌∙◌, subst}
use Prim.Native.Nat.{ℕ, zero, suc, ◌+◌, ◌*◌, ◌/◌, ◌<◌, min, max}
use native.Mathlib.Decide.{ℕ_discrete, dec_lt}
use native.Mathlib.Nat.{not-suc-le-zero}
use native.Mathlib.Omega.{arith}
use lib.IntN.{ℤ, pos}
use lib.ListN.{length}
use Rattle.algebra.proofs.Order.{not_both, not_zero, Sign, is_pos, is_below_zero, is_zero, sign}
use Rattle.algebra.specs.Order.{Pos}
use Rattle.plane.specs.Base.{Side}
use Rattle.plane.specs.Determinants.{orient, incircle}
use Rattle.plane.specs.Halfedges.{nxt}
use Rattle.plane.specs.Points.{Pt}
use Rattle.nets.specs.Flipping.{Wants, Lower, by_first, by_second, Legal, done, stay, reborn}
use Rattle.nets.specs.Nets.{Net, prv}
use Rattle.nets.specs.Steps.{flip}
use Rattle.nets.specs.Tilings.{Tiling}
use Rattle.nets.proofs.Ends.{measure}
use Rattle.nets.proofs.Flip.{flip_tris}
use Rattle.nets.proofs.FlipTile.{tile_apart, far, flip_tile}
use Rattle.nets.proofs.Slot.{slot0, slot1, slot2, Edge, e0, e1, e2, edge}
use Rattle.nets.proofs.Suspects.{turn_falls}

-- ---- decisions

pos? : (z : ℤ) → Dec (Pos z)
pos? z = go (sign z)
  where
    go : Sign z → Dec (Pos z)
    go (is_pos p) = yes p
    go (is_zero e) = no (λ p. not_zero p e)
    go (is_below_zero n) = no (λ p. not_both p n)

lower? : (rk : ℕ → ℕ) (u v p q : ℕ) → Dec (Lower rk u v p q)
lower? rk u v p q = go (dec_lt (min (rk u) (rk v)) (min (rk p) (rk q))) (ℕ_discrete (min (rk u) (rk v)) (min (rk p) (rk q))) (dec_lt (max (rk u) (rk v)) (max (rk p) (rk q)))
  where
    neither : ¬ (min (rk u) (rk v) < min (rk p) (rk q)) → ¬ (min (rk u) (rk v) ≡ min (rk p) (rk q)) → Lower rk u v p q → ⊥
    neither a b (by_first l) = a l
    neither a b (by_second e l) = b e

    neither' : ¬ (min (rk u) (rk v) < min (rk p) (rk q)) → ¬ (max (rk u) (rk v) < max (rk p) (rk q)) → Lower rk u v p q → ⊥
    neither' a b (by_first l) = a l
    neither' a b (by_second e l) = b l

    go : Dec (min (rk u) (rk v) < min (rk p) (rk q)) → Dec (min (rk u) (rk v) ≡ min (rk p) (rk q)) → Dec (max (rk u) (rk v) < max (rk p) (rk q)) → Dec (Lower rk u v p q)
    go (yes l) d d' = yes (by_first l)
    go (no a) (yes e) (yes l) = yes (by_second e l)
    go (no a) (yes e) (no b) = no (neither' a b)
    go (no a) (no b) d = no (neither a b)

module _ (P : ℕ → Pt ℤ) (rk : ℕ → ℕ) where
  gain? : (z : ℤ) (u v p q : ℕ) → Dec (Pos z ⊎ ((z ≡ pos 0) × Lower rk u v p q))
  gain? z u v p q = go (sign z) (lower? rk u v p q)
    where
      go : Sign z → Dec (Lower rk u v p q) → Dec (Pos z ⊎ ((z ≡ pos 0) × Lower rk u v p q))
      go (is_pos x) d = yes (inl x)
      go (is_zero e) (yes l) = yes (inr (e, l))
      go (is_zero e) (no l) = no (λ s. elim s [ inl x ↦ not_zero x e | inr x ↦ l x.1 ])
      go (is_below_zero n) d = no (λ s. elim s [ inl x ↦ not_both x n | inr x ↦ not_zero n (ap (λ (y : ℤ). lib.IntN.neg_ℤ y) x.0) ])

  wants_with : (m : Net) (h g : ℕ) → m.adj h ≡ suc g → Dec (Wants P rk m h g)
  wants_with m h g e =
      go (ℕ_discrete (m.con h) 0)
      (gain? (incircle (P (m.org h)) (P (m.org (nxt h))) (P (m.org (prv h))) (P (m.org (prv g)))) (m.org (prv h)) (m.org (prv g)) (m.org h) (m.org (nxt h)))
      (pos? (orient (P (m.org h)) (P (m.org (prv g))) (P (m.org (prv h))))) (pos? (orient (P (m.org (prv g))) (P (m.org (nxt h))) (P (m.org (prv h)))))
    where
      go : Dec (m.con h ≡ 0) → Dec (Pos (incircle (P (m.org h)) (P (m.org (nxt h))) (P (m.org (prv h)))
          (P (m.org (prv g)))) ⊎ ((incircle (P (m.org h)) (P (m.org (nxt h))) (P (m.org (prv h))) (P (m.org (prv g))) ≡ pos 0) ×
          Lower rk (m.org (prv h)) (m.org (prv g)) (m.org h) (m.org (nxt h)))) →
          Dec (Pos (orient (P (m.org h)) (P (m.org (prv g))) (P (m.org (prv h))))) →
          Dec (Pos (orient (P (m.org (prv g))) (P (m.org (nxt h))) (P (m.org (prv h))))) → Dec (Wants P rk m h g)
      go (yes a) (yes b) (yes c) (yes d) = yes (record { pair = e; free = a; gain = b; ccw_t = c; ccw_n = d })
      go (no a) b c d = no (λ w. a w.free)
      go (yes a) (no b) c d = no (λ w. b w.gain)
      go (yes a) (yes b) (no c) d = no (λ w. c w.ccw_t)
      go (yes a) (yes b) (yes c) (no d) = no (λ w. d w.ccw_n)

  -- a half-edge flips, or not
  data Asks (m : Net) (h : ℕ) : Type 0 where
    flips : (g : ℕ) → Wants P rk m h g → Asks m h
    rests : ((g : ℕ) → ¬ Wants P rk m h g) → Asks m h

  asks : (m : Net) (h : ℕ) → Asks m h
  asks m h = go (m.adj h) refl
    where
      no_suc : {X : Type 0} (a : ℕ) → 0 ≡ suc a → X
      no_suc a i = absurd (let z : ◌≡◌ {A = ℕ} 0 (suc a) = i in let f : ⊥ = omega arith in f)

      with_g : (g : ℕ) → m.adj h ≡ suc g → Dec (Wants P rk m h g) → Asks m h
      with_g g e (yes w) = flips g w
      with_g g e (no n) = rests (λ g' w. n (subst (Wants P rk m h) (let z : suc g' ≡ suc g = sym w.pair ∙ e in let y : g' ≡ g = omega arith in y) w))

      go : (a : ℕ) → m.adj h ≡ a → Asks m h
      go zero e = rests (λ g w. no_suc g (sym e ∙ w.pair))
      go (suc g) e = with_g g e (wants_with m h g e)

  -- the first half-edge of slot s that flips
  data First (m : Net) (s : ℕ) : Type 0 where
    found : (h g : ℕ) → h / 3 ≡ s → h < 3 * s + 3 → Wants P rk m h g → ((x y : ℕ) → x < h → x / 3 ≡ h / 3 → ¬ Wants P rk m x y) → First m s
    quiet : ((h g : ℕ) → h / 3 ≡ s → ¬ Wants P rk m h g) → First m s

  first : (m : Net) (s : ℕ) → First m s
  first m s = go (asks m (3 * s)) (asks m (3 * s + 1)) (asks m (3 * s + 2))
    where
      low : (x t : ℕ) → x < 3 * t → x / 3 ≡ t → ⊥
      low x t b e = omega arith

      is0 : (x : ℕ) → x < 3 * s + 1 → x / 3 ≡ (3 * s + 1) / 3 → x ≡ 3 * s
      is0 x b e = omega arith

      none : ((g : ℕ) → ¬ Wants P rk m (3 * s) g) → ((g : ℕ) → ¬ Wants P rk m (3 * s + 1) g) → ((g : ℕ) → ¬ Wants P rk m (3 * s + 2) g) → (h g : ℕ) → Edge s h → ¬ Wants P rk m h g
      none a b c h g (e0 e) w = a g (subst (λ (x : ℕ). Wants P rk m x g) e w)
      none a b c h g (e1 e) w = b g (subst (λ (x : ℕ). Wants P rk m x g) e w)
      none a b c h g (e2 e) w = c g (subst (λ (x : ℕ). Wants P rk m x g) e w)

      below2 : ((g : ℕ) → ¬ Wants P rk m (3 * s) g) → ((g : ℕ) → ¬ Wants P rk m (3 * s + 1) g) → (x y : ℕ) → x < 3 * s + 2 → Edge s x → ¬ Wants P rk m x y
      below2 a b x y l (e0 e) w = a y (subst (λ (z : ℕ). Wants P rk m z y) e w)
      below2 a b x y l (e1 e) w = b y (subst (λ (z : ℕ). Wants P rk m z y) e w)
      below2 a b x y l (e2 e) w = let f : ⊥ = omega arith in f

      go : Asks m (3 * s) → Asks m (3 * s + 1) → Asks m (3 * s + 2) → First m s
      go (flips g w) b c = found (3 * s) g (slot0 s) (omega arith) w (λ x y l e. absurd (low x s l (e ∙ slot0 s)))
      go (rests a) (flips g w) c = found (3 * s + 1) g (slot1 s) (omega arith) w (λ x y l e u. a y (subst (λ (z : ℕ). Wants P rk m z y) (is0 x l e) u))
      go (rests a) (rests b) (flips g w) = found (3 * s + 2) g (slot2 s) (omega arith) w (λ x y l e. below2 a b x y l (edge s x (e ∙ slot2 s)))
      go (rests a) (rests b) (rests c) = quiet (λ h g e. none a b c h g (edge s h e))

  module _ {B : Side → Pt ℤ} {k : ℕ} (n K : ℕ) (rb : (u : ℕ) → u < k → rk u < n) where
    run : (fuel : ℕ) (m : Net) (q : List ℕ) (z : ℕ) → Tiling P B k m → m.tris * (3 * (n * n)) < K → measure P rk n K m (length q) < fuel → (m' : Net) × (z' : ℕ) × Legal P rk m q z m' z'
    run zero m q z v room l = absurd (not-suc-le-zero l)
    run (suc f) m [] z v room l = (m, z, done)
    run (suc f) m (s ∷ q) z v room l = step (first m s) (run f)
      where
        less : measure P rk n K m (length q) < f
        less = let z : measure P rk n K m (suc (length q)) < suc f = l in omega arith

        step : First m s → ((m1 : Net) (q1 : List ℕ) (z1 : ℕ) → Tiling P B k m1 → m1.tris * (3 * (n * n)) < K → measure P rk n K m1 (length q1) < f →
            (m' : Net) × (z' : ℕ) × Legal P rk m1 q1 z1 m' z') → (m' : Net) × (z' : ℕ) × Legal P rk m (s ∷ q) z m' z'
        step (quiet none) ih = let r = ih m q z v room less in (r.0, r.1, stay (λ h g b e. none h g e) r.2)
        step (found h g e b w fst) ih = pick (dec_lt h (3 * m.tris))
          where
            apart : (x : ℕ) → ¬ (h < 3 * m.tris) → x < 3 * m.tris → x / 3 ≡ s → ⊥
            apart x n' c i = omega arith

            pick : Dec (h < 3 * m.tris) → (m' : Net) × (z' : ℕ) × Legal P rk m (s ∷ q) z m' z'
            pick (no n') = let r = ih m q z v room less in (r.0, r.1, stay (λ (x y : ℕ) c i u. apart x n' c i) r.2)
            pick (yes hb) =
                let room' : (flip m h g).tris * (3 * (n * n)) < K =
                subst (λ (x : ℕ). x * (3 * (n * n)) < K) (sym (flip_tris v.linked (tile_apart v) h g hb w.pair (far v h g hb w.pair))) room in
                let r = ih (flip m h g) (reborn h g q) (g / 3) (flip_tile v h g hb w.pair w.ccw_t w.ccw_n) room'
                (let z = turn_falls q n K h g v rb room hb w in let y : measure P rk n K m (suc (length q)) < suc f = l in omega arith) in
                (r.0, r.1, Legal.turn h g e hb w fst r.2)

    -- flipping ends
    pub legalized : (m : Net) (q : List ℕ) (z : ℕ) → Tiling P B k m → m.tris * (3 * (n * n)) < K → (m' : Net) × (z' : ℕ) × Legal P rk m q z m' z'
    legalized m q z v room = run (suc (measure P rk n K m (length q))) m q z v room (omega arith)
