-- What step 3 would flip after a recovery but not before it touches a crossed slot. So where the crossed slots are made suspects, every
-- half-edge that step 3 would flip has its triangle or its partner's among the suspects. Assumes nothing.
use mathlib.Core.List.{List, []}
use mathlib.Core.Logic.{◌⊎◌, inl, inr}
use mathlib.Core.Path.{◌≡◌, refl, sym, ◌∙◌, subst}
use Prim.Native.Nat.{ℕ, suc, ◌+◌, ◌*◌, ◌/◌, ◌<◌}
use native.Mathlib.Omega.{arith}
use lib.IntN.{ℤ}
use Rattle.algebra.proofs.Order.{pos_by}
use Rattle.plane.specs.Base.{Side}
use Rattle.plane.specs.Determinants.{orient}
use Rattle.plane.specs.Halfedges.{nxt}
use Rattle.plane.specs.Points.{Pt}
use Rattle.nets.proofs.Slot.{nxt_slot, nxt_slot2, nxt_in}
use Rattle.nets.proofs.Suspects.{Mem, Watched}
use Rattle.nets.specs.Flipping.{Gains, Wants}
use Rattle.nets.specs.Nets.{Net, prv}
use Rattle.cavities.proofs.Recover.{find_slot}
use Rattle.cavities.specs.Fillings.{Slots}
use Rattle.bridges.specs.Bridges.{Taken}

-- s is one of the slots slot 0 to slot n
abbrev pub Crossed : (ℕ → ℕ) → ℕ → ℕ → Type 0
Crossed slot n s = (y : ℕ) × (y < suc n) × (slot y ≡ s)

-- a half-edge of none of them
off_slots : (slot : ℕ → ℕ) (n h s : ℕ) → h / 3 ≡ s → ¬ Crossed slot n s → ¬ Slots slot 0 (suc n) h
off_slots slot n h s e out y = out (y.at, y.high, third (slot y.at) y.k y.three y.is)
  where
    third : (a d : ℕ) → d < 3 → h ≡ 3 * a + d → a ≡ s
    third a d l q = omega arith

module _ {P : ℕ → Pt ℤ} {B : Side → Pt ℤ} {k a b : ℕ} {slot : ℕ → ℕ} {n : ℕ} {m m' : Net} (t : Taken P B k a b slot n m m') where
  low : (h : ℕ) → h < 3 * m'.tris → h < 3 * m.tris
  low h l = let e = t.tris in omega arith

  -- two neighbours elsewhere
  pub rest_off : (rk : ℕ → ℕ) (h g : ℕ) → h < 3 * m'.tris → ¬ Crossed slot n (h / 3) → ¬ Crossed slot n (g / 3) → Wants P rk m' h g → Wants P rk m h g
  rest_off rk h g l no-h no-g w = record {
    pair = (t.outside h lh (off h refl no-h)).was_pair g (off g refl no-g) w.pair;
    free = sym (t.outside h lh (off h refl no-h)).con ∙ w.free;
    gain = gains (m'.org h) (m.org h) (m'.org (nxt h)) (m.org (nxt h)) (m'.org (prv h)) (m.org (prv h)) (m'.org (prv g)) (m.org (prv g)) o0 o1 o2 og w.gain;
    ccw_t = pos_by (three (m.org h) (m'.org h) (m.org (prv g)) (m'.org (prv g)) (m.org (prv h)) (m'.org (prv h)) (sym o0) (sym og) (sym o2)) w.ccw_t;
    ccw_n = pos_by (three (m.org (prv g)) (m'.org (prv g)) (m.org (nxt h)) (m'.org (nxt h)) (m.org (prv h)) (m'.org (prv h)) (sym og) (sym o1) (sym o2)) w.ccw_n;
  }
    where
      lh : h < 3 * m.tris
      lh = low h l

      lg : g < 3 * m.tris
      lg = low g (t.tile.linked.low h g l w.pair)

      off : (x : ℕ) {s : ℕ} → x / 3 ≡ s → ¬ Crossed slot n s → ¬ Slots slot 0 (suc n) x
      off x {s} e = off_slots slot n x s e

      o0 : m'.org h ≡ m.org h
      o0 = (t.outside h lh (off h refl no-h)).org

      o1 : m'.org (nxt h) ≡ m.org (nxt h)
      o1 = (t.outside (nxt h) (nxt_in h m.tris lh) (off (nxt h) (nxt_slot h) no-h)).org

      o2 : m'.org (prv h) ≡ m.org (prv h)
      o2 = (t.outside (prv h) (nxt_in (nxt h) m.tris (nxt_in h m.tris lh)) (off (prv h) (nxt_slot2 h) no-h)).org

      og : m'.org (prv g) ≡ m.org (prv g)
      og = (t.outside (prv g) (nxt_in (nxt g) m.tris (nxt_in g m.tris lg)) (off (prv g) (nxt_slot2 g) no-g)).org

      gains : (u u' v v' x x' y y' : ℕ) → u ≡ u' → v ≡ v' → x ≡ x' → y ≡ y' → Gains P rk u v x y → Gains P rk u' v' x' y'
      gains u u' v v' x x' y y' e f i j q =
          subst (λ (z : ℕ). Gains P rk u' v' x' z) j (subst (λ (z : ℕ). Gains P rk u' v' z y) i (subst (λ (z : ℕ). Gains P rk u' z x y) f (subst (λ (z : ℕ). Gains P rk z v x y) e q)))

      three : (u u' v v' x x' : ℕ) → u ≡ u' → v ≡ v' → x ≡ x' → orient (P u) (P v) (P x) ≡ orient (P u') (P v') (P x')
      three u u' v v' x x' e f i = cc

  -- the crossed slots are suspects, and what was one is one still
  pub watched_more : (rk : ℕ → ℕ) (q q' : List ℕ) → Watched P rk m q → ((s : ℕ) → Mem s q → Mem s q') → ((y : ℕ) → y < suc n → Mem (slot y) q') → Watched P rk m' q'
  watched_more rk q q' old rest all h g l w = go (find_slot slot (suc n) (h / 3)) (find_slot slot (suc n) (g / 3))
    where
      mem : (s : ℕ) → Crossed slot n s → Mem s q'
      mem s c = subst (λ (x : ℕ). Mem x q') c.2 (all c.0 c.1)

      pass : Mem (h / 3) q ⊎ Mem (g / 3) q → Mem (h / 3) q' ⊎ Mem (g / 3) q'
      pass (inl i) = inl (rest (h / 3) i)
      pass (inr i) = inr (rest (g / 3) i)

      go : Dec (Crossed slot n (h / 3)) → Dec (Crossed slot n (g / 3)) → Mem (h / 3) q' ⊎ Mem (g / 3) q'
      go (yes c) d = inl (mem (h / 3) c)
      go (no c) (yes d) = inr (mem (g / 3) d)
      go (no c) (no d) = pass (old h g (low h l) (rest_off rk h g l c d w))

  -- so it is where nothing was to be flipped before
  pub watched_taken : (rk : ℕ → ℕ) (q : List ℕ) → Watched P rk m [] → ((y : ℕ) → y < suc n → Mem (slot y) q) → Watched P rk m' q
  watched_taken rk q old all = watched_more rk [] q old (λ s x. elim x [ ]) all
