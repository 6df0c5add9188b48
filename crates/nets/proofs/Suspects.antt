-- Flipping is enough: every half-edge that step 3 would flip has its triangle or its partner's among the suspects; so with no suspect
-- left none is flipped. Assumes nothing.
use mathlib.Core.Bool.{Bool, true, false, cond}
use mathlib.Core.List.{List, [], ◌∷◌}
use mathlib.Core.Logic.{◌⊎◌, inl, inr}
use mathlib.Core.Path.{◌≡◌, refl, sym, ap, ◌∙◌, subst}
use Prim.Native.Nat.{ℕ, suc, ◌*◌, ◌/◌, ◌<◌, ◌≤◌}
use native.Mathlib.Decide.{dec_lt}
use native.Mathlib.Omega.{arith}
use lib.Dec.{eqb}
use lib.IntN.{ℤ}
use lib.ListN.{length}
use Rattle.algebra.proofs.Order.{pos_by}
use Rattle.algebra.proofs.Sum.{eqb_no, by_bool}
use Rattle.plane.proofs.Circle.{incircle_flip}
use Rattle.plane.proofs.Orient.{orient_cyc}
use Rattle.plane.specs.Base.{Side}
use Rattle.plane.specs.Determinants.{orient}
use Rattle.plane.specs.Halfedges.{nxt}
use Rattle.plane.specs.Points.{Pt}
use Rattle.nets.specs.Flipping.{Gains, Wants, Lower, by_first, by_second, leave, reborn, Legal, done, stay, turn}
pub use Rattle.nets.specs.Flipping.{Mem, top, below, Watched}
use Rattle.nets.specs.Moves.{Move, after}
use Rattle.nets.specs.Nets.{Net, Linked, prv}
use Rattle.nets.specs.Steps.{flip}
use Rattle.nets.specs.Tilings.{Tiling}
use Rattle.nets.proofs.Ends.{measure, flip_falls}
use Rattle.nets.proofs.Flip.{flip_surgery}
use Rattle.nets.proofs.FlipTile.{tile_apart, far, flip_tile}
use Rattle.nets.proofs.Net.{to}
use Rattle.nets.proofs.Slot.{nxt_slot, nxt_slot2}
use Rattle.nets.proofs.Surgery.{Surgery, sewn, sewn_back}

tris_after : (m r : Net) (L : List Move) → (after m r L).tris ≡ r.tris
unfolding after
tris_after m r L = refl

-- ---- a surgery, with the touched slots made suspects

module _ {P : ℕ → Pt ℤ} {rk : ℕ → ℕ} {S : ℕ → ℕ → Type 0} {m r : Net} {D : ℕ → Type 0} {L : List Move} (l : Linked S m) (s : Surgery S m r D L) where
  -- two neighbours elsewhere
  wants_off : (x y : ℕ) → x < 3 * m.tris → ¬ D (x / 3) → ¬ D (y / 3) → Wants P rk (after m r L) x y → Wants P rk m x y
  unfolding after
  wants_off x y b n k w = record {
    pair = sewn_back l s x y b n k w.pair;
    free = sym (s.off_con x n) ∙ w.free;
    gain = subst (λ (c : ℕ). Gains P rk (m.org x) (m.org (nxt x)) (m.org (prv x)) c) (oy)
        (subst (λ (c : ℕ). Gains P rk (m.org x) (m.org (nxt x)) c (r.org (prv y))) o2
        (subst (λ (c : ℕ). Gains P rk (m.org x) c (r.org (prv x)) (r.org (prv y))) o1
        (subst (λ (c : ℕ). Gains P rk c (r.org (nxt x)) (r.org (prv x)) (r.org (prv y))) o0 w.gain)));
    ccw_t = pos_by (ap₃ (m.org x) (r.org x) (m.org (prv y)) (r.org (prv y)) (m.org (prv x)) (r.org (prv x)) (sym o0) (sym oy) (sym o2)) w.ccw_t;
    ccw_n = pos_by (ap₃ (m.org (prv y)) (r.org (prv y)) (m.org (nxt x)) (r.org (nxt x)) (m.org (prv x)) (r.org (prv x)) (sym oy) (sym o1) (sym o2)) w.ccw_n;
  }
    where
      o0 : r.org x ≡ m.org x
      o0 = s.off_org x n

      o1 : r.org (nxt x) ≡ m.org (nxt x)
      o1 = s.off_org (nxt x) (rw nxt_slot n)

      o2 : r.org (prv x) ≡ m.org (prv x)
      o2 = s.off_org (prv x) (rw nxt_slot2 n)

      oy : r.org (prv y) ≡ m.org (prv y)
      oy = s.off_org (prv y) (rw nxt_slot2 k)

      ap₃ : (a a' b b' c c' : ℕ) → a ≡ a' → b ≡ b' → c ≡ c' → orient (P a) (P b) (P c) ≡ orient (P a') (P b') (P c')
      ap₃ a a' b b' c c' i j q = cc

  pub watched_after : (q q' : List ℕ) → Watched P rk m q → ((i : ℕ) → i < r.tris → D i → Mem i q') → ((i : ℕ) → ¬ D i → Mem i q → Mem i q') → Watched P rk (after m r L) q'
  watched_after q q' old touched rest x y b w = go (s.dec (x / 3)) (s.dec (y / 3))
    where
      tris_is : (after m r L).tris ≡ r.tris
      tris_is = tris_after m r L

      bx : x < 3 * r.tris
      bx = rw tris_is at b

      by : y < 3 * r.tris
      by = rw tris_is at ((sewn l s).low x y b w.pair)

      go : Dec (D (x / 3)) → Dec (D (y / 3)) → Mem (x / 3) q' ⊎ Mem (y / 3) q'
      go (yes d) e = inl (touched (x / 3) (let z = bx in omega arith) d)
      go (no n) (yes d) = inr (touched (y / 3) (let z = by in omega arith) d)
      go (no n) (no k) = pass (old x y (s.off_in x n bx) (wants_off x y (s.off_in x n bx) n k w))
        where
          pass : Mem (x / 3) q ⊎ Mem (y / 3) q → Mem (x / 3) q' ⊎ Mem (y / 3) q'
          pass (inl i) = inl (rest (x / 3) n i)
          pass (inr i) = inr (rest (y / 3) k i)

-- ---- from the other side

lower_sym : (rk : ℕ → ℕ) (u v p q : ℕ) → Lower rk u v p q → Lower rk v u q p
lower_sym rk u v p q (by_first l) = by_first (omega arith)
lower_sym rk u v p q (by_second e l) = by_second (omega arith) (omega arith)

pub wants_sym : {P : ℕ → Pt ℤ} {rk : ℕ → ℕ} {S : ℕ → ℕ → Type 0} {m : Net} → Linked S m → (h g : ℕ) → h < 3 * m.tris → Wants P rk m h g → Wants P rk m g h
wants_sym {P} {rk} {S} {m} l h g b w = record {
  pair = l.back h g b w.pair;
  free = l.mark h g b w.pair ∙ w.free;
  gain = subst (λ (x : ℕ). Gains P rk x (m.org (nxt g)) (m.org (prv g)) (m.org (prv h))) (sym from)
      (subst (λ (x : ℕ). Gains P rk (m.org (nxt h)) x (m.org (prv g)) (m.org (prv h))) (sym onto) (turn w.gain));
  ccw_t = pos_by (ap (λ (x : ℕ). orient (P x) (P (m.org (prv h))) (P (m.org (prv g)))) from ∙ sym (orient_cyc (P (m.org (prv g))) (P (m.org (nxt h))) (P (m.org (prv h))))) w.ccw_n;
  ccw_n = pos_by (ap (λ (x : ℕ). orient (P (m.org (prv h))) (P x) (P (m.org (prv g)))) onto ∙ orient_cyc (P (m.org (prv h))) (P (m.org h)) (P (m.org (prv g)))) w.ccw_t;
}
  where
    from : m.org g ≡ m.org (nxt h)
    from = l.from h g b w.pair

    onto : m.org (nxt g) ≡ m.org h
    onto = to l h g b w.pair

    turn : Gains P rk (m.org h) (m.org (nxt h)) (m.org (prv h)) (m.org (prv g)) → Gains P rk (m.org (nxt h)) (m.org h) (m.org (prv g)) (m.org (prv h))
    turn (inl p) = inl (pos_by (incircle_flip (P (m.org (nxt h))) (P (m.org h)) (P (m.org (prv g))) (P (m.org (prv h)))) p)
    turn (inr p) = inr (
      incircle_flip (P (m.org (nxt h))) (P (m.org h)) (P (m.org (prv g))) (P (m.org (prv h)))
          ∙ p.0,
      lower_sym rk (m.org (prv h)) (m.org (prv g)) (m.org h) (m.org (nxt h)) p.1,
    )

-- ---- the loop

leave_mem : (s i : ℕ) (q : List ℕ) → ¬ (i ≡ s) → Mem i q → Mem i (leave s q)
unfolding leave
leave_mem s i q n (top {q = q'}) = subst (λ (b : Bool). Mem i (cond b (leave s q') (i ∷ leave s q'))) (sym (eqb_no s i (λ e. n (sym e)))) top
leave_mem s i q n (below {u = u} {q = q'} k) =
    by_bool (eqb s u)
    (λ t. subst (λ (b : Bool). Mem i (cond b (leave s q') (u ∷ leave s q'))) (sym t) (leave_mem s i q' n k))
    (λ t. subst (λ (b : Bool). Mem i (cond b (leave s q') (u ∷ leave s q'))) (sym t) (below (leave_mem s i q' n k)))

leave_length : (s : ℕ) (q : List ℕ) → length (leave s q) ≤ length q
unfolding leave
leave_length s [] = omega arith
leave_length s (u ∷ q) = go (eqb s u) (leave_length s q)
  where
    go : (b : Bool) → length (leave s q) ≤ length q → length (cond b (leave s q) (u ∷ leave s q)) ≤ length (u ∷ q)
    go true h = let z : length (leave s q) ≤ suc (length q) = omega arith in z
    go false h = let z : suc (length (leave s q)) ≤ suc (length q) = omega arith in z

pop : (i s : ℕ) (q : List ℕ) → ¬ (i ≡ s) → Mem i (s ∷ q) → Mem i q
pop i s q n (top) = absurd (n refl)
pop i s q n (below k) = k

not_nil : (i : ℕ) → Mem i [] → ⊥
not_nil i = elim [ ]

module _ {P : ℕ → Pt ℤ} {B : Side → Pt ℤ} {k : ℕ} {rk : ℕ → ℕ} where
  stay_watched : {m : Net} {s : ℕ} {q : List ℕ} → Tiling P B k m → ((h g : ℕ) → h < 3 * m.tris → h / 3 ≡ s → ¬ Wants P rk m h g) → Watched P rk m (s ∷ q) → Watched P rk m q
  stay_watched {m} {s} {q} v none old h g b w = go (old h g b w)
    where
      gb : g < 3 * m.tris
      gb = v.linked.low h g b w.pair

      go : Mem (h / 3) (s ∷ q) ⊎ Mem (g / 3) (s ∷ q) → Mem (h / 3) q ⊎ Mem (g / 3) q
      go (inl i) = inl (pop (h / 3) s q (λ e. none h g b e w) i)
      go (inr i) = inr (pop (g / 3) s q (λ e. none g h gb e (wants_sym v.linked h g b w)) i)

  turn_watched : {m : Net} {q : List ℕ} (h g : ℕ) → Tiling P B k m → h < 3 * m.tris → Wants P rk m h g → Watched P rk m (h / 3 ∷ q) → Watched P rk (flip m h g) (reborn h g q)
  unfolding flip
  turn_watched {m} {q} h g v b w old =
      watched_after v.linked (flip_surgery v.linked (tile_apart v) h g b w.pair (far v h g b w.pair)) (h / 3 ∷ q) (reborn h g q) old
      (λ i l d. touched i d)
      (λ i n j. below (below (leave_mem (g / 3) i q (λ e. n (inr e)) (pop i (h / 3) q (λ e. n (inl e)) j))))
    where
      touched : (i : ℕ) → (i ≡ h / 3) ⊎ (i ≡ g / 3) → Mem i (reborn h g q)
      touched i (inl e) = subst (λ (x : ℕ). Mem x (reborn h g q)) (sym e) (below top)
      touched i (inr e) = subst (λ (x : ℕ). Mem x (reborn h g q)) (sym e) top

  -- a tiling stays one, and at the end step 3 flips nothing
  pub legal_tile : {m m' : Net} {q : List ℕ} {z z' : ℕ} → Tiling P B k m → Legal P rk m q z m' z' → Tiling P B k m'
  legal_tile v done = v
  legal_tile v (stay n r) = legal_tile v r
  legal_tile v (turn h g e b w f r) = legal_tile (flip_tile v h g b w.pair w.ccw_t w.ccw_n) r

  pub legal_rule7 : {m m' : Net} {q : List ℕ} {z z' : ℕ} → Tiling P B k m → Watched P rk m q → Legal P rk m q z m' z' → (h g : ℕ) → h < 3 * m'.tris → ¬ Wants P rk m' h g
  legal_rule7 v old done h g b w = elim (old h g b w) [ inl i ↦ not_nil (h / 3) i | inr i ↦ not_nil (g / 3) i ]
  legal_rule7 v old (stay n r) h g b w = legal_rule7 v (stay_watched v n old) r h g b w
  legal_rule7 {m} v old (turn {q = q} x y e c u f r) h g b w =
      legal_rule7 (flip_tile v x y c u.pair u.ccw_t u.ccw_n) (turn_watched x y v c u (subst (λ (z : ℕ). Watched P rk m (z ∷ q)) (sym e) old)) r h g b w

  -- the measure of a turn
  pub turn_falls : {m : Net} (q : List ℕ) (n K : ℕ) (h g : ℕ) → Tiling P B k m → ((u : ℕ) → u < k → rk u < n) → m.tris * (3 * (n * n)) < K →
      (b : h < 3 * m.tris) → Wants P rk m h g → measure P rk n K (flip m h g) (length (reborn h g q)) < measure P rk n K m (length (h / 3 ∷ q))
  turn_falls {m} q n K h g v rb room b w =
      let z = flip_falls v rk n K rb room h g b w (suc (length q)) in let y = leave_length (g / 3) q in omega arith

-- ---- it has one answer

suc_inj : (a b : ℕ) → suc a ≡ suc b → a ≡ b
suc_inj a b e = omega arith

module _ {P : ℕ → Pt ℤ} {rk : ℕ → ℕ} where
  same_first : {m : Net} (h g x y : ℕ) → h / 3 ≡ x / 3 → Wants P rk m h g → Wants P rk m x y →
      ((i j : ℕ) → i < h → i / 3 ≡ h / 3 → ¬ Wants P rk m i j) → ((i j : ℕ) → i < x → i / 3 ≡ x / 3 → ¬ Wants P rk m i j) → h ≡ x
  same_first h g x y e w u f f' = go (dec_lt h x) (dec_lt x h)
    where
      go : Dec (h < x) → Dec (x < h) → h ≡ x
      go (yes l) d = absurd (f' h g l e w)
      go (no n) (yes l) = absurd (f x y l (sym e) u)
      go (no n) (no k) = omega arith

  pub unique : {m a b : Net} {q : List ℕ} {z x y : ℕ} → Legal P rk m q z a x → Legal P rk m q z b y → (a ≡ b) × (x ≡ y)
  unique done done = (refl, refl)
  unique (stay n r) (stay n' r') = unique r r'
  unique (stay n r) (turn h g e b w f r') = absurd (n h g b e w)
  unique (turn h g e b w f r) (stay n r') = absurd (n h g b e w)
  unique {m = m} {b = c} {y = v} (turn {q = q} h g e b w f r) (turn x y e' b' w' f' r') =
      let i : h ≡ x = same_first h g x y (e ∙ sym e') w w' f f' in
      let j : g ≡ y = suc_inj g y (sym w.pair ∙ ap m.adj i ∙ w'.pair) in
      unique r (subst (λ (d : ℕ). Legal P rk (flip m d g) (reborn d g q) (g / 3) c v) (sym i) (subst (λ (d : ℕ). Legal P rk (flip m x d) (reborn x d q) (d / 3) c v) (sym j) r'))
