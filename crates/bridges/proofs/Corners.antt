-- A recovery brings in no new point: what holds of every corner before it holds of every corner after it. Assumes nothing.
use mathlib.Core.Path.{◌≡◌, sym, ap, ◌∙◌, subst}
use Prim.Native.Nat.{ℕ, suc, ◌+◌, ◌*◌, ◌-◌, ◌<◌, ◌≤◌}
use native.Mathlib.Decide.{dec_lt}
use native.Mathlib.Omega.{arith}
use lib.IntN.{ℤ}
use Rattle.algebra.proofs.Sum.{thirds}
use Rattle.plane.specs.Base.{Side}
use Rattle.plane.specs.Points.{Pt}
use Rattle.cavities.proofs.Net.{clash}
use Rattle.cavities.proofs.Recover.{recovered_tri}
use Rattle.cavities.proofs.Walk.{walk_strip, arrive}
use Rattle.cavities.specs.Closings.{Closing}
use Rattle.cavities.specs.Corridors.{Three, t0, t1, t2, Figure, Walk, start, left, right, Tiled, Strip, Open}
use Rattle.cavities.specs.Fillings.{Fill, gap, node, Tri}
use Rattle.cavities.specs.Nets.{Net, World}
use Rattle.cavities.specs.Recovered.{Begun}
use Rattle.cavities.specs.Recovery.{pick, chain, Recovery}
use Rattle.cavities.specs.Tilings.{CcwP, world}

-- the half-edges of triangle s, below those of t triangles
record Lows (t e f g : ℕ) : Type 0 where
  e_low : e < 3 * t
  f_low : f < 3 * t
  g_low : g < 3 * t

lows : {s e f g : ℕ} (t : ℕ) → s < t → Three s e f g → Lows t e f g
lows t l t0 = record { e_low = omega arith; f_low = omega arith; g_low = omega arith }
lows t l t1 = record { e_low = omega arith; f_low = omega arith; g_low = omega arith }
lows t l t2 = record { e_low = omega arith; f_low = omega arith; g_low = omega arith }

-- one more corner
further : (Q : ℕ → Type 0) (l : ℕ) → ((z : ℕ) → z ≤ l → Q z) → Q (suc l) → (z : ℕ) → z ≤ suc l → Q z
further Q l f e z b = go (dec_lt l z)
  where
    go : Dec (l < z) → Q z
    go (yes d) = let q : suc l ≡ z = omega arith in subst Q q e
    go (no d) = f z (omega arith)

-- ---- the filling

module _ (Ccw : ℕ → ℕ → ℕ → Type 0) (Q : ℕ → Type 0) where
  abbrev Ccw' : ℕ → ℕ → ℕ → Type 0
  Ccw' a b d = Ccw a b d × Q a × Q b × Q d

  fill_with : {c gp slot : ℕ → ℕ} {i j p q P : ℕ} {σ σ' : Net} → ((x : ℕ) → Q (c x)) → Fill Ccw c gp slot i j p q P σ σ' → Fill Ccw' c gp slot i j p q P σ σ'
  fill_with f (gap v) = gap v
  fill_with f (node {i = i} {k = k} {j = j} w u x y v) = node (w, f i, f j, f k) u (fill_with f x) (fill_with f y) v

  closing_with : {c gp slot : ℕ → ℕ} {n m q r PL PR : ℕ} {σ σ1 σ2 σ3 σ4 : Net} → ((x : ℕ) → Q (c x)) →
      Closing Ccw c gp slot n m q r PL PR σ σ1 σ2 σ3 σ4 → Closing Ccw' c gp slot n m q r PL PR σ σ1 σ2 σ3 σ4
  closing_with f a = record { left = fill_with f a.left; right = fill_with f a.right; some = a.some; drop = a.drop; move = a.move }

-- ---- the walk

module _ (W : World) (Ccw : ℕ → ℕ → ℕ → Type 0) (Q : ℕ → Type 0) (F : Figure) (t cap : ℕ) where
  -- the corners met so far, on the left and on the right
  record Met (l r : ℕ) : Type 0 where
    on_left : (z : ℕ) → z ≤ l → Q (F.cl z)
    on_right : (z : ℕ) → z ≤ r → Q (F.cr z)

  -- a half-edge of a triangle keeps its origin until the triangle is entered
  met : {n l r x : ℕ} {σ σ1 : Net} (h : ℕ) {q : ℕ} → Tiled W Ccw F.vt t cap σ → ((y : ℕ) → y < 3 * t → Q (σ.org y)) → Strip W F t n l r x σ σ1 → n < cap → h < 3 * t → σ1.org h ≡ q → Q q
  met {n} {σ = σ} {σ1 = σ1} h til f st fits low e = subst Q (sym
      (st.core.org h (λ d. clash (til.live h low) (ap σ.live d.is ∙ til.dead d.at (let b = d.high in omega arith)))) ∙ e) (f h low)

  walk_met : {n l r x : ℕ} {σ σ' : Net} → Tiled W Ccw F.vt t cap σ → ((h : ℕ) → h < 3 * t → Q (σ.org h)) → n < cap → Walk F t n l r x σ σ' → Met l r
  walk_met til f fits (start three small a a' b c d d' e e' p p') =
      let w = lows t small three in
      record {
        on_left = further (λ (z : ℕ). Q (F.cl z)) 0 (λ z i. let q : 0 ≡ z = omega arith in subst (λ (u : ℕ). Q (F.cl u)) q (subst Q a (f _ w.e_low))) (subst Q c (f _ w.g_low));
        on_right = further (λ (z : ℕ). Q (F.cr z)) 0 (λ z i. let q : 0 ≡ z = omega arith in subst (λ (u : ℕ). Q (F.cr u)) q (subst Q a' (f _ w.e_low))) (subst Q b (f _ w.f_low));
      }
  walk_met til f fits (left {n = n} {l = l} {g = g} w has plain three small o s e drop park) =
      let ih = walk_met til f (omega arith) w in
      record {
        on_left = further (λ (z : ℕ). Q (F.cl z)) l ih.on_left (met g til f (walk_strip W Ccw F t cap til (omega arith) w) (omega arith) (lows t small three).g_low o);
        on_right = ih.on_right;
      }
  walk_met til f fits (right {n = n} {r = r} {g = g} w has plain three small o s e drop park) =
      let ih = walk_met til f (omega arith) w in
      record {
        on_left = ih.on_left;
        on_right = further (λ (z : ℕ). Q (F.cr z)) r ih.on_right (met g til f (walk_strip W Ccw F t cap til (omega arith) w) (omega arith) (lows t small three).g_low o);
      }

  -- so the chain has no other corners
  chain_met : (l r : ℕ) → Met l (suc r) → (x : ℕ) → Q (chain F l r x)
  unfolding chain pick
  chain_met l r a x = go (dec_lt x (suc l))
    where
      go : (d : Dec (x < suc l)) → Q (pick d (F.cl x) (F.cr (suc l + suc r - x)))
      go (yes d) = a.on_left x (omega arith)
      go (no d) = a.on_right (suc l + suc r - x) (omega arith)

-- ---- the recovery

module _ (P : ℕ → Pt ℤ) (B : Side → Pt ℤ) (N : ℕ) (must : ℕ → ℕ → Type 0) (point : ℕ → Type 0) (F : Figure) (t cap n l r PL PR : ℕ) (σ σ' : Net)
    (b : Begun P B N must point F t cap n l r PL PR σ) (rec : Recovery (CcwP P) F t n l r PL PR σ σ') (Q : ℕ → Type 0) (was : (h : ℕ) → h < 3 * t → Q (σ.org h)) where
  abbrev W : World
  W = world P B N must point

  abbrev With : ℕ → ℕ → ℕ → Type 0
  With = Ccw' (CcwP P) Q

  less : n < cap
  less = let f = b.fits in omega arith

  strip : Strip W F t n l r rec.x σ rec.σ1
  strip = walk_strip W (CcwP P) F t cap b.tiled less rec.walk

  all_met : Met W (CcwP P) Q F t cap l (suc r)
  all_met =
      let w = walk_met W (CcwP P) Q F t cap b.tiled was less rec.walk in
      record {
        on_left = w.on_left;
        on_right = further (λ (z : ℕ). Q (F.cr z)) r w.on_right
            (met W (CcwP P) Q F t cap rec.g b.tiled was strip less (lows t rec.arrive.small rec.arrive.three).g_low rec.arrive.b_right);
      }

  tiled : Tiled W With F.vt t cap σ
  tiled = record {
    inv = b.tiled.inv;
    live = b.tiled.live;
    tri = λ s k.
        let y = b.tiled.tri s k in
        record { dst0 = y.dst0; dst1 = y.dst1; dst2 = y.dst2; ccw = (y.ccw, was (3 * s) (omega arith), was (3 * s + 1) (omega arith), was (3 * s + 2) (omega arith)) };
    dead = b.tiled.dead;
    low = b.tiled.low;
    apart = b.tiled.apart;
  }

  opened : Open W F t n l r σ rec.σ4
  opened = arrive W (CcwP P) F t cap σ b.tiled n l r rec.x rec.f rec.g rec.σ1 rec.σ2 rec.σ3 rec.σ4 strip b.fits rec.arrive

  tri_with : (s : ℕ) → s < t → Tri With σ' s
  tri_with =
      recovered_tri W With F t cap σ tiled n l r b.fits rec.σ4 opened PL PR rec.σ5 b.from_a b.to_b rec.tops
      b.room.PL_dead b.room.PR_dead b.room.PL_vt b.room.PR_vt b.room.PL_low b.room.PR_low b.room.two
      rec.q rec.σ6 rec.σ7 rec.σ8 σ' (closing_with (CcwP P) Q (chain_met W (CcwP P) Q F t cap l r all_met) rec.closing)

  -- NO NEW POINT
  pub recovery_corners : (h : ℕ) → h < 3 * t → Q (σ'.org h)
  recovery_corners = thirds t (λ (h : ℕ). Q (σ'.org h)) (λ s k. (tri_with s k).ccw.1) (λ s k. (tri_with s k).ccw.2) (λ s k. (tri_with s k).ccw.3)
