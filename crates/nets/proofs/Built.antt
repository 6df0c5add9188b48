-- Steps 1 to 3, all points: there is a tiling by all of them in which each is a corner and step 3 flips nothing, of at most 2 n - 5
-- triangles. Assumes nothing.
use mathlib.Core.Bool.{Bool, true, false, cond, ◌||◌}
use mathlib.Core.List.{List}
use mathlib.Core.Logic.{◌⊎◌, inl, inr}
use mathlib.Core.Path.{◌≡◌, refl, sym, ◌∙◌, subst}
use Prim.Native.Nat.{ℕ, zero, suc, ◌+◌, ◌*◌, ◌-◌, ◌/◌, ◌<◌, ◌≤◌}
use native.Mathlib.Omega.{arith}
use lib.IntN.{ℤ, pos, +ℤ_idl}
use Rattle.algebra.proofs.Order.{not_zero}
use Rattle.algebra.specs.Order.{Pos, NonNeg}
use Rattle.algebra.specs.Sum.{sum_to}
use Rattle.algebra.specs.Tests.{eq_z}
use Rattle.plane.proofs.Orient.{thin_aba, thin_abb}
use Rattle.plane.proofs.Test.{reads_eq_z}
use Rattle.tables.proofs.Table.{T_true, not_t_false}
use Rattle.tables.specs.Rules.{count_to}
use Rattle.plane.specs.Base.{Side, s0, s1, s2, next, On}
use Rattle.plane.specs.Determinants.{orient}
use Rattle.plane.specs.Halfedges.{nxt}
use Rattle.plane.specs.Points.{Pt}
use Rattle.plane.specs.Tiles.{OnSide}
use Rattle.nets.specs.Building.{OnBase, on_side, on_boundary, on_rim, start, base_of, Builds, alone, more, Built}
use Rattle.nets.specs.Flipping.{Legal, done, stay, turn}
use Rattle.nets.specs.Location.{Split, inserted}
use Rattle.nets.specs.Nets.{Net}
use Rattle.nets.specs.Slots.{put, write}
use Rattle.nets.specs.Tilings.{tri, Tiling, Has, Unmarked}
use Rattle.nets.proofs.Ends.{room6}
use Rattle.nets.proofs.Flip.{flip_tris}
use Rattle.nets.proofs.FlipTile.{tile_apart, far, flip_tile}
use Rattle.nets.proofs.Insert.{StrictlyInBase, More, two_more, one_more, Inserted, insert}
use Rattle.nets.proofs.Present.{has_flip}
use Rattle.nets.proofs.Run.{legalized}
use Rattle.nets.proofs.Unmarked.{flip_unmarked}
use Rattle.nets.proofs.Suspects.{legal_tile, legal_rule7, unique}

-- ---- the base alone

pub start_tile : (P : ℕ → Pt ℤ) (o : Net) (k a b c : ℕ) → a < k → b < k → c < k → Pos (orient (P a) (P b) (P c)) → Tiling P (base_of P a b c) k (start o a b c)
unfolding start write put sum_to nxt
start_tile P m k a b c la lb lc o = record {
  linked = record { low = λ h g l e. none h g l e; back = λ h g l e. none h g l e; from = λ h g l e. none h g l e; mark = λ h g l e. none h g l e; side = λ h l e. side h l };
  corners = λ h l. corn h l;
  ccw = λ t l. ccw t l;
  base_ccw = o;
  areas = +ℤ_idl (orient (P a) (P b) (P c));
}
  where
    no_suc : {X : Type 0} (x : ℕ) → 0 ≡ suc x → X
    no_suc x i = absurd (let z : ◌≡◌ {A = ℕ} 0 (suc x) = i in let f : ⊥ = omega arith in f)

    r : Net
    r = start m a b c

    none : {X : Type 0} (h g : ℕ) → h < 3 → r.adj h ≡ suc g → X
    none zero g l e = no_suc g e
    none (suc zero) g l e = no_suc g e
    none (suc (suc zero)) g l e = no_suc g e
    none (suc (suc (suc h))) g l e = absurd (let f : ⊥ = omega arith in f)

    side : (h : ℕ) → h < 3 → OnSide P (base_of P a b c) (r.org h) (r.org (nxt h))
    side zero l = (s0, thin_aba (P a) (P b), thin_abb (P a) (P b))
    side (suc zero) l = (s1, thin_aba (P b) (P c), thin_abb (P b) (P c))
    side (suc (suc zero)) l = (s2, thin_aba (P c) (P a), thin_abb (P c) (P a))
    side (suc (suc (suc h))) l = absurd (let f : ⊥ = omega arith in f)

    corn : (h : ℕ) → h < 3 → r.org h < k
    corn zero l = la
    corn (suc zero) l = lb
    corn (suc (suc zero)) l = lc
    corn (suc (suc (suc h))) l = absurd (let f : ⊥ = omega arith in f)

    ccw : (t : ℕ) → t < 1 → Pos (tri P r orient t)
    ccw zero l = o
    ccw (suc t) l = absurd (let f : ⊥ = omega arith in f)

-- ---- step 2 keeps the corners and the number of triangles

module _ {P : ℕ → Pt ℤ} {B : Side → Pt ℤ} {k : ℕ} {rk : ℕ → ℕ} where
  pub legal_has : {m m' : Net} {q : List ℕ} {z z' : ℕ} → Tiling P B k m → Legal P rk m q z m' z' → (u : ℕ) → Has m u → Has m' u
  legal_has v done u s = s
  legal_has v (stay n r) u s = legal_has v r u s
  legal_has v (turn h g e b w f r) u s = legal_has (flip_tile v h g b w.pair w.ccw_t w.ccw_n) r u (has_flip v.linked (tile_apart v) h g b w.pair (far v h g b w.pair) u s)

  pub legal_tris : {m m' : Net} {q : List ℕ} {z z' : ℕ} → Tiling P B k m → Legal P rk m q z m' z' → m'.tris ≡ m.tris
  legal_tris v done = refl
  legal_tris v (stay n r) = legal_tris v r
  legal_tris v (turn h g e b w f r) = legal_tris (flip_tile v h g b w.pair w.ccw_t w.ccw_n) r ∙ flip_tris v.linked (tile_apart v) h g b w.pair (far v h g b w.pair)

  -- the newest triangle is one of them
  legal_newest : {m m' : Net} {q : List ℕ} {z z' : ℕ} → Tiling P B k m → Legal P rk m q z m' z' → z < m.tris → z' < m'.tris
  legal_newest v done l = l
  legal_newest v (stay n r) l = legal_newest v r l
  legal_newest {m} v (turn h g e b w f r) l =
      legal_newest (flip_tile v h g b w.pair w.ccw_t w.ccw_n) r
      (subst (λ (x : ℕ). g / 3 < x) (sym (flip_tris v.linked (tile_apart v) h g b w.pair (far v h g b w.pair)))
      (let gb = v.linked.low h g b w.pair in let l : g / 3 < m.tris = omega arith in l))

  legal_unmarked : {m m' : Net} {q : List ℕ} {z z' : ℕ} → Tiling P B k m → Legal P rk m q z m' z' → Unmarked m → Unmarked m'
  legal_unmarked v done u = u
  legal_unmarked v (stay n r) u = legal_unmarked v r u
  legal_unmarked {m} v (turn h g e b w f r) u = legal_unmarked (flip_tile v h g b w.pair w.ccw_t w.ccw_n) r (flip_unmarked m u h g b (v.linked.low h g b w.pair))

-- ---- points on the boundary of the base

eq_z_yes : (a b : ℤ) → a ≡ b → eq_z a b ≡ true
eq_z_yes a b e = T_true (eq_z a b) ((reads_eq_z a b).shows e)

eq_z_no : (a b : ℤ) → ¬ (a ≡ b) → eq_z a b ≡ false
eq_z_no a b n = not_t_false (eq_z a b) (λ t. n ((reads_eq_z a b).says t))

one_of : (x y z : Bool) → (x ≡ true) ⊎ ((y ≡ true) ⊎ (z ≡ true)) → (x || y || z) ≡ true
one_of true y z d = refl
one_of false true z d = refl
one_of false false true d = refl
one_of false false false (inl e) = e
one_of false false false (inr (inl e)) = e
one_of false false false (inr (inr e)) = e

rim_on : (B : Side → Pt ℤ) (p : Pt ℤ) → OnBase B p → on_boundary B p ≡ true
rim_on B p d = one_of (on_side B s0 p) (on_side B s1 p) (on_side B s2 p) (go d.0 d.1)
  where
    go : (i : Side) → On B i p → (on_side B s0 p ≡ true) ⊎ ((on_side B s1 p ≡ true) ⊎ (on_side B s2 p ≡ true))
    go s0 e = inl (eq_z_yes (orient (B s0) (B s1) p) (pos 0) e)
    go s1 e = inr (inl (eq_z_yes (orient (B s1) (B s2) p) (pos 0) e))
    go s2 e = inr (inr (eq_z_yes (orient (B s2) (B s0) p) (pos 0) e))

rim_in : (B : Side → Pt ℤ) (p : Pt ℤ) → StrictlyInBase B p → on_boundary B p ≡ false
rim_in B p d = rw (off s0, off s1, off s2)
  where
    off : (i : Side) → on_side B i p ≡ false
    off i = eq_z_no (orient (B i) (B (next i)) p) (pos 0) (not_zero (d i))

rim_step : (P : ℕ → Pt ℤ) (B : Side → Pt ℤ) (k : ℕ) (b : Bool) → on_boundary B (P k) ≡ b → on_rim P B (k + 1) ≡ on_rim P B k + cond b 1 0
unfolding on_rim count_to
rim_step P B k b i = let e : k + 1 ≡ suc k = omega arith in rw (e, i)

rim_three : (P : ℕ → Pt ℤ) (B : Side → Pt ℤ) → OnBase B (P 0) → OnBase B (P 1) → OnBase B (P 2) → on_rim P B 3 ≡ 3
unfolding on_rim count_to
rim_three P B x y z = rw (rim_on B (P 0) x, rim_on B (P 1) y, rim_on B (P 2) z)

-- ---- all points

-- there are three points at least
builds_low : {P : ℕ → Pt ℤ} {rk : ℕ → ℕ} {a b c : ℕ} {o : Net} {k : ℕ} {m : Net} {z : ℕ} → Builds P rk a b c o k m z → 3 ≤ k
builds_low alone = omega arith
builds_low (more s r) = let l = builds_low s in omega arith

-- the building steps have one answer
module _ {P : ℕ → Pt ℤ} {rk : ℕ → ℕ} {a b c : ℕ} {o : Net} where
  one : {k k' : ℕ} {m m' : Net} {z z' : ℕ} → Builds P rk a b c o k m z → Builds P rk a b c o k' m' z' → k ≡ k' → (m ≡ m') × (z ≡ z')
  one alone alone e = (refl, refl)
  one alone (more s r) e = let l = builds_low s in absurd (let f : ⊥ = omega arith in f)
  one (more s r) alone e = let l = builds_low s in absurd (let f : ⊥ = omega arith in f)
  one {m' = x} {z' = y} (more {k = k} {m = m} {z = z} s r) (more {k = k'} {m = m'} {z = z'} s' r') e =
      let i : k ≡ k' = omega arith in
      let h = one s s' i in
      unique r
      (subst (λ (u : ℕ). Legal P rk (inserted P m z u).net (inserted P m z u).suspects (inserted P m z u).newest x y) (sym i)
      (subst (λ (u : ℕ). Legal P rk (inserted P m u k').net (inserted P m u k').suspects (inserted P m u k').newest x y) (sym h.1)
      (subst (λ (u : Net). Legal P rk (inserted P u z' k').net (inserted P u z' k').suspects (inserted P u z' k').newest x y) (sym h.0) r')))

  pub builds_one : {k : ℕ} {m m' : Net} {z z' : ℕ} → Builds P rk a b c o k m z → Builds P rk a b c o k m' z' → (m ≡ m') × (z ≡ z')
  builds_one s s' = one s s' refl

module _ (P : ℕ → Pt ℤ) (rk : ℕ → ℕ) (a b c n : ℕ) (la : a < 3) (lb : b < 3) (lc : c < 3) (each : (u : ℕ) → u < 3 → (u ≡ a) ⊎ ((u ≡ b) ⊎ (u ≡ c)))
    (ccw : Pos (orient (P a) (P b) (P c))) (within : (u : ℕ) → u < n → (i : Side) →
    NonNeg (orient (base_of P a b c i) (base_of P a b c (next i)) (P u))) (fresh : (u v : ℕ) → u < v → v < n → ¬ (P v ≡ P u)) where
  abbrev B : Side → Pt ℤ
  B = base_of P a b c

  first : (o : Net) → Built P B rk 3 (start o a b c) 0
  unfolding start write put
  first o = record {
    tile = start_tile P o 3 a b c la lb lc ccw;
    rest = λ h g b w. none h g b w.pair;
    present = λ u l. has u (each u l);
    count = (let z = rim_three P B (onto 0 (each 0 (omega arith))) (onto 1 (each 1 (omega arith))) (onto 2 (each 2 (omega arith))) in let w : 1 + 2 + on_rim P B 3 ≡ 2 * 3 = omega arith in w);
    few = let z : 1 + 5 ≤ 2 * 3 = omega arith in z;
    newest = let z : 0 < 1 = omega arith in z;
    unmarked = λ h b. plain h b;
  }
    where
      no_suc : {X : Type 0} (x : ℕ) → 0 ≡ suc x → X
      no_suc x i = absurd (let z : ◌≡◌ {A = ℕ} 0 (suc x) = i in let f : ⊥ = omega arith in f)

      none : (h g : ℕ) → h < 3 → (start o a b c).adj h ≡ suc g → ⊥
      none zero g l e = no_suc g e
      none (suc zero) g l e = no_suc g e
      none (suc (suc zero)) g l e = no_suc g e
      none (suc (suc (suc h))) g l e = let f : ⊥ = omega arith in f

      plain : (h : ℕ) → h < 3 → (start o a b c).con h ≡ 0
      plain zero l = refl
      plain (suc zero) l = refl
      plain (suc (suc zero)) l = refl
      plain (suc (suc (suc h))) l = absurd (let f : ⊥ = omega arith in f)

      onto : (u : ℕ) → (u ≡ a) ⊎ ((u ≡ b) ⊎ (u ≡ c)) → OnBase B (P u)
      onto u (inl e) = subst (λ (x : ℕ). OnBase B (P x)) (sym e) (s0, thin_aba (P a) (P b))
      onto u (inr (inl e)) = subst (λ (x : ℕ). OnBase B (P x)) (sym e) (s0, thin_abb (P a) (P b))
      onto u (inr (inr e)) = subst (λ (x : ℕ). OnBase B (P x)) (sym e) (s1, thin_abb (P b) (P c))

      has : (u : ℕ) → (u ≡ a) ⊎ ((u ≡ b) ⊎ (u ≡ c)) → Has (start o a b c) u
      has u (inl e) = (0, omega arith, sym e)
      has u (inr (inl e)) = (1, omega arith, sym e)
      has u (inr (inr e)) = (2, omega arith, sym e)

  -- point k goes into what is built
  pub goes_in : (k : ℕ) → k < n → {m : Net} {z : ℕ} → Built P B rk k m z → Inserted P B rk k m (inserted P m z k)
  goes_in k l {m} {z} s = insert rk s.tile (λ u lu j. within u (omega arith) j) (λ u lu. fresh u k lu l) (λ j. within k l j) z s.newest

  -- how many triangles there are then
  pub few_more : (k : ℕ) {m : Net} {z : ℕ} (m1 : Net) → Built P B rk k m z → More B (P k) m m1 → m1.tris + 5 ≤ 2 * (k + 1)
  few_more k m1 s (two_more e i) = let y = s.few in omega arith
  few_more k m1 s (one_more e i) = let y = s.few in omega arith

  -- step 2 run to its end
  settled : (k : ℕ) → {m m' : Net} {z z' : ℕ} {q : Split} → Built P B rk k m z → Inserted P B rk k m q → Legal P rk q.net q.suspects q.newest m' z' → Built P B rk (k + 1) m' z'
  settled k {m} {m'} {z} {z'} {q} s i r = record {
    tile = legal_tile i.tile r;
    rest = legal_rule7 i.tile (i.watched s.rest) r;
    present = λ u lu. legal_has i.tile r u (i.present s.present u lu);
    count = (let e = legal_tris i.tile r in let w = more_count q.net i.count in omega arith);
    few = (let e = legal_tris i.tile r in let w = few_more k q.net s i.count in omega arith);
    newest = legal_newest i.tile r i.newest;
    unmarked = legal_unmarked i.tile r (i.unmarked s.unmarked);
  }
    where
      more_count : (m1 : Net) → More B (P k) m m1 → m1.tris + 2 + on_rim P B (k + 1) ≡ 2 * (k + 1)
      more_count m1 (two_more e i) = let z = s.count in let y = rim_step P B k false (rim_in B (P k) i) in omega arith
      more_count m1 (one_more e i) = let z = s.count in let y = rim_step P B k true (rim_on B (P k) i) in omega arith

  -- the building steps make a tiling at rest
  pub built : {o : Net} {k : ℕ} {m : Net} {z : ℕ} → k ≤ n → Builds P rk a b c o k m z → Built P B rk k m z
  built {o = o} l alone = first o
  built l (more {k = k} {m' = m'} {z' = z'} s r) = let t = built (omega arith) s in let e : k + 1 ≡ suc k = omega arith in
      subst (λ (x : ℕ). Built P B rk x m' z') e (settled k t (goes_in k (omega arith) t) r)

  -- for all points
  module _ (rank : (u : ℕ) → u < n → rk u < n) (o : Net) where
    upto : (j : ℕ) → j + 3 ≤ n → (m : Net) × (z : ℕ) × Builds P rk a b c o (j + 3) m z
    upto zero l = (start o a b c, 0, alone)
    upto (suc j) l = next_one (upto j (omega arith))
      where
        room : {m : Net} {z : ℕ} (m1 : Net) → Built P B rk (j + 3) m z → More B (P (j + 3)) m m1 → m1.tris ≤ 2 * n
        room m1 s i = let y = few_more (j + 3) m1 s i in omega arith

        next_one : (m : Net) × (z : ℕ) × Builds P rk a b c o (j + 3) m z → (m : Net) × (z : ℕ) × Builds P rk a b c o (suc j + 3) m z
        next_one s =
            let t = built (omega arith) s.2 in
            let i = goes_in (j + 3) (omega arith) t in
            let q = inserted P s.0 s.1 (j + 3) in
            let r = legalized P rk n (6 * (n * (n * n)) + 1) (λ u lu. rank u (omega arith)) q.net q.suspects q.newest i.tile (room6 n q.net.tris (room q.net t i.count)) in
            (r.0, r.1, (let e : suc (j + 3) ≡ suc j + 3 = omega arith in subst (λ (x : ℕ). Builds P rk a b c o x r.0 r.1) e (more s.2 r.2)))

    pub build : 3 ≤ n → (m : Net) × (z : ℕ) × Builds P rk a b c o n m z
    build l = let e : n - 3 + 3 ≡ n = omega arith in subst (λ (x : ℕ). (m : Net) × (z : ℕ) × Builds P rk a b c o x m z) e (upto (n - 3) (omega arith))
