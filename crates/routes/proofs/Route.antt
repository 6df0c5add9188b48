-- The corridor of a walk: each gate follows from the one before by a new corner on the left or on the right. Its gates are numbered from
-- the last one back, so that they are the corridor from b to a. Both chains have needles. Assumes nothing.
use mathlib.Core.Path.{◌≡◌, refl, sym, ap, ◌∙◌, subst}
use Prim.Native.Nat.{ℕ, zero, suc, ◌+◌, ◌-◌, ◌≤◌, ◌<◌}
use native.Mathlib.Decide.{ℕ_discrete, dec_lt}
use native.Mathlib.Omega.{arith}
use lib.IntN.{ℤ, pos}
use Rattle.algebra.proofs.Order.{pos_by, not_zero}
use Rattle.algebra.proofs.Ring.{con}
use Rattle.algebra.specs.Order.{Pos}
use Rattle.plane.proofs.Polynomials.{orient_e, by3}
use Rattle.plane.specs.Determinants.{orient}
use Rattle.plane.specs.Points.{Pt}
use Rattle.cavities.proofs.Fill.{le_self}
use Rattle.cavities.specs.Closings.{Opened}
use Rattle.cavities.specs.Nets.{Net, World}
use Rattle.routes.specs.Gates.{Before, Corridor}
use Rattle.routes.specs.Needles.{Needles}
use Rattle.routes.specs.Routes.{Tidy, Gate, Route, first, more_left, more_right}
use Rattle.routes.specs.Scans.{NeverSticks}
use Rattle.routes.proofs.Gate.{later_left, later_right}
use Rattle.routes.proofs.Scan.{never_sticks}
use Rattle.routes.proofs.Start.{lead_turn, pierce_turn, left_needles, right_needles}

pub same2 : (a b : Pt ℤ) → orient a b a ≡ pos 0
unfolding orient
same2 a b = by3 (λ a b c. orient_e a b a) (λ a b c. con (pos 0)) tt a b a

pub same2' : (a b : Pt ℤ) → orient a b b ≡ pos 0
unfolding orient
same2' a b = by3 (λ a b c. orient_e a b b) (λ a b c. con (pos 0)) tt a b a

same1 : (a c : Pt ℤ) → orient a a c ≡ pos 0
unfolding orient
same1 a c = by3 (λ a b c. orient_e a a c) (λ a b c. con (pos 0)) tt a a c

pub two_ends : (a b c : Pt ℤ) → Pos (orient a b c) → ¬ (b ≡ a)
two_ends a b c h e = not_zero (subst (λ (t : Pt ℤ). Pos (orient a t c)) e h) (same1 a c)

pub not_first : (a b c : Pt ℤ) → Pos (orient a b c) → ¬ (a ≡ c)
not_first a b c h e = not_zero (subst (λ (t : Pt ℤ). Pos (orient a b t)) (sym e) h) (same2 a b)

pub not_second : (a b c : Pt ℤ) → Pos (orient a b c) → ¬ (b ≡ c)
not_second a b c h e = not_zero (subst (λ (t : Pt ℤ). Pos (orient a b t)) (sym e) h) (same2' a b)

module _ (pts : ℕ → Pt ℤ) (Edge : ℕ → ℕ → Type 0) (cl cr : ℕ → ℕ) (a b : Pt ℤ) where
  -- the corners of gate g, from the last one back
  lft : {m l r : ℕ} → Route pts Edge cl cr a b m l r → ℕ → ℕ
  lft (first s) g = 1
  lft (more_left {l = l} ρ d s) zero = suc l
  lft (more_left ρ d s) (suc g) = lft ρ g
  lft (more_right {l = l} ρ d s) zero = l
  lft (more_right ρ d s) (suc g) = lft ρ g

  rgt : {m l r : ℕ} → Route pts Edge cl cr a b m l r → ℕ → ℕ
  rgt (first s) g = 1
  rgt (more_left {r = r} ρ d s) zero = r
  rgt (more_left ρ d s) (suc g) = rgt ρ g
  rgt (more_right {r = r} ρ d s) zero = suc r
  rgt (more_right ρ d s) (suc g) = rgt ρ g

  last_lft : {m l r : ℕ} (ρ : Route pts Edge cl cr a b m l r) → lft ρ 0 ≡ l
  unfolding lft
  last_lft (first s) = refl
  last_lft (more_left ρ d s) = refl
  last_lft (more_right ρ d s) = refl

  last_rgt : {m l r : ℕ} (ρ : Route pts Edge cl cr a b m l r) → rgt ρ 0 ≡ r
  unfolding rgt
  last_rgt (first s) = refl
  last_rgt (more_left ρ d s) = refl
  last_rgt (more_right ρ d s) = refl

  pub last_gate : {m l r : ℕ} → Route pts Edge cl cr a b m l r → Gate pts Edge a b (cl l) (cr r)
  last_gate (first s) = s
  last_gate (more_left ρ d s) = s
  last_gate (more_right ρ d s) = s

  gate_at : {m l r : ℕ} (ρ : Route pts Edge cl cr a b m l r) (g : ℕ) → Gate pts Edge a b (cl (lft ρ g)) (cr (rgt ρ g))
  unfolding lft rgt
  gate_at (first s) g = s
  gate_at (more_left ρ d s) zero = s
  gate_at (more_left ρ d s) (suc g) = gate_at ρ g
  gate_at (more_right ρ d s) zero = s
  gate_at (more_right ρ d s) (suc g) = gate_at ρ g

  -- the gate before gate g
  rise_at : {m l r : ℕ} (ρ : Route pts Edge cl cr a b m l r) (g : ℕ) → suc g < m → Before a b (pts (cl (lft ρ (suc g)))) (pts (cr (rgt ρ (suc g)))) (pts (cl (lft ρ g))) (pts (cr (rgt ρ g)))
  unfolding lft rgt
  rise_at (first s) g h = absurd (none g h)
    where
      none : (g : ℕ) → suc g < 1 → ⊥
      none g h = omega arith
  rise_at (more_left {l = l} {r = r} ρ d s) zero h =
      subst (λ (t : ℕ × ℕ). Before a b (pts (cl t.0)) (pts (cr t.1)) (pts (cl (suc l))) (pts (cr r))) (λ i. (sym (last_lft ρ) i, sym (last_rgt ρ) i))
      (later_left a b (pts (cl l)) (pts (cr r)) (pts (cl (suc l))) (last_gate ρ).pierce d)
  rise_at (more_left ρ d s) (suc g) h = rise_at ρ g (omega arith)
  rise_at (more_right {l = l} {r = r} ρ d s) zero h =
      subst (λ (t : ℕ × ℕ). Before a b (pts (cl t.0)) (pts (cr t.1)) (pts (cl l)) (pts (cr (suc r)))) (λ i. (sym (last_lft ρ) i, sym (last_rgt ρ) i))
      (later_right a b (pts (cl l)) (pts (cr r)) (pts (cr (suc r))) (last_gate ρ).pierce d)
  rise_at (more_right ρ d s) (suc g) h = rise_at ρ g (omega arith)

  -- the gates as a corridor from b to a
  corridor : {m l r : ℕ} → Tidy pts Edge → (ρ : Route pts Edge cl cr a b m l r) → Corridor b a (λ g. pts (cr (rgt ρ g))) (λ g. pts (cl (lft ρ g))) m
  corridor tidy ρ = record {
    pierce = λ g l. pierce_turn (gate_at ρ g).pierce;
    rise = λ g l. pos_by (lead_turn a b (pts (cl (lft ρ (suc g)))) (pts (cr (rgt ρ (suc g)))) (pts (cl (lft ρ g))) (pts (cr (rgt ρ g)))) (rise_at ρ g (omega arith));
    cross = λ g h l m. tidy.free (cr (rgt ρ g)) (cl (lft ρ g)) (cr (rgt ρ h)) (cl (lft ρ h)) (back g) (back h);
    cross' = λ g h l m. tidy.free (cl (lft ρ g)) (cr (rgt ρ g)) (cl (lft ρ h)) (cr (rgt ρ h)) (gate_at ρ g).edge (gate_at ρ h).edge;
    clear_left = λ g h l m. tidy.thin (cr (rgt ρ g)) (cl (lft ρ g)) (cr (rgt ρ h)) (cl (lft ρ h)) (back g) (back h);
    clear_right = λ g h l m. tidy.thin (cr (rgt ρ g)) (cl (lft ρ g)) (cl (lft ρ h)) (cr (rgt ρ h)) (back g) (gate_at ρ h).edge;
  }
    where
      back : (g : ℕ) → Edge (cr (rgt ρ g)) (cl (lft ρ g))
      back g = tidy.turned (cl (lft ρ g)) (cr (rgt ρ g)) (gate_at ρ g).edge

  -- ---- a gate for each corner

  pick_d : {A : Type 0} → Dec A → ℕ → ℕ → ℕ
  pick_d (yes h) x y = x
  pick_d (no h) x y = y

  atl : {m l r : ℕ} → Route pts Edge cl cr a b m l r → ℕ → ℕ
  atl (first s) k = 0
  atl (more_left {l = l} ρ d s) k = pick_d (dec_lt l k) 0 (suc (atl ρ k))
  atl (more_right ρ d s) k = suc (atl ρ k)

  atr : {m l r : ℕ} → Route pts Edge cl cr a b m l r → ℕ → ℕ
  atr (first s) k = 0
  atr (more_left ρ d s) k = suc (atr ρ k)
  atr (more_right {r = r} ρ d s) k = pick_d (dec_lt r k) 0 (suc (atr ρ k))

  -- f takes the value k at g
  record Hits (f : ℕ → ℕ) (m k g : ℕ) : Type 0 where
    real : g < m
    is : f g ≡ k

  hit_left : {m l r : ℕ} (ρ : Route pts Edge cl cr a b m l r) (k : ℕ) → 0 < k → k ≤ l → Hits (lft ρ) m k (atl ρ k)
  unfolding lft atl pick_d
  hit_left (first s) k h e = record { real = omega arith; is = omega arith }
  hit_left (more_left {m = m} {l = l} ρ d s) k h e = go (dec_lt l k) (λ n. hit_left ρ k h n)
    where
      go : (t : Dec (l < k)) → (k ≤ l → Hits (lft ρ) m k (atl ρ k)) → Hits (lft (more_left ρ d s)) (suc m) k (pick_d t 0 (suc (atl ρ k)))
      go (yes n) f = record { real = omega arith; is = omega arith }
      go (no n) f = let x = f (omega arith) in record { real = (let y = x.real in omega arith); is = x.is }
  hit_left (more_right {m = m} ρ d s) k h e = let x = hit_left ρ k h e in record { real = (let y = x.real in omega arith); is = x.is }

  hit_right : {m l r : ℕ} (ρ : Route pts Edge cl cr a b m l r) (k : ℕ) → 0 < k → k ≤ r → Hits (rgt ρ) m k (atr ρ k)
  unfolding rgt atr pick_d
  hit_right (first s) k h e = record { real = omega arith; is = omega arith }
  hit_right (more_left {m = m} ρ d s) k h e = let x = hit_right ρ k h e in record { real = (let y = x.real in omega arith); is = x.is }
  hit_right (more_right {m = m} {r = r} ρ d s) k h e = go (dec_lt r k) (λ n. hit_right ρ k h n)
    where
      go : (t : Dec (r < k)) → (k ≤ r → Hits (rgt ρ) m k (atr ρ k)) → Hits (rgt (more_right ρ d s)) (suc m) k (pick_d t 0 (suc (atr ρ k)))
      go (yes n) f = record { real = omega arith; is = omega arith }
      go (no n) f = let x = f (omega arith) in record { real = (let y = x.real in omega arith); is = x.is }

  down_left : {m l r : ℕ} (ρ : Route pts Edge cl cr a b m l r) (g : ℕ) → lft ρ (suc g) ≤ lft ρ g
  unfolding lft
  down_left (first s) g = le_self
  down_left (more_left {l = l} ρ d s) zero = let e = last_lft ρ in omega arith
  down_left (more_left ρ d s) (suc g) = down_left ρ g
  down_left (more_right {l = l} ρ d s) zero = let e = last_lft ρ in omega arith
  down_left (more_right ρ d s) (suc g) = down_left ρ g

  down_right : {m l r : ℕ} (ρ : Route pts Edge cl cr a b m l r) (g : ℕ) → rgt ρ (suc g) ≤ rgt ρ g
  unfolding rgt
  down_right (first s) g = le_self
  down_right (more_left {r = r} ρ d s) zero = let e = last_rgt ρ in omega arith
  down_right (more_left ρ d s) (suc g) = down_right ρ g
  down_right (more_right {r = r} ρ d s) zero = let e = last_rgt ρ in omega arith
  down_right (more_right ρ d s) (suc g) = down_right ρ g

  falls : (f : ℕ → ℕ) → ((g : ℕ) → f (suc g) ≤ f g) → (g d : ℕ) → f (g + d) ≤ f g
  falls f h g zero = let e : g + zero ≡ g = omega arith in subst (λ (t : ℕ). f t ≤ f g) (sym e) le_self
  falls f h g (suc d) = let x = falls f h g d in let y = h (g + d) in let z : f (suc (g + d)) ≤ f g = omega arith in let e : suc (g + d) ≡ g + suc d = omega arith in subst (λ (t : ℕ). f t ≤ f g) e z

  -- a higher corner has an earlier gate, counted from the last
  order : (f : ℕ → ℕ) → ((g : ℕ) → f (suc g) ≤ f g) → (g h k l : ℕ) → f g ≡ k → f h ≡ l → k < l → h < g
  order f down g h k l e q n = go (dec_lt h g)
    where
      go : Dec (h < g) → h < g
      go (yes t) = t
      go (no t) = let s : g + (h - g) ≡ h = omega arith in let x : f h ≤ f g = subst (λ (y : ℕ). f y ≤ f g) s (falls f down g (h - g)) in absurd (no_way (f g) (f h) e q x)
        where
          no_way : (x y : ℕ) → x ≡ k → y ≡ l → y ≤ x → ⊥
          no_way x y e q z = omega arith

  differ_left : {m l r : ℕ} → Route pts Edge cl cr a b m l r → (k : ℕ) → 0 < k → k < l → ¬ (pts (cl k) ≡ pts (cl (suc k)))
  differ_left (first s) k h e = λ q. omega arith
  differ_left (more_left {l = l} {r = r} ρ d s) k h e = go (ℕ_discrete l k) (λ n. differ_left ρ k h n)
    where
      go : Dec (l ≡ k) → (k < l → ¬ (pts (cl k) ≡ pts (cl (suc k)))) → ¬ (pts (cl k) ≡ pts (cl (suc k)))
      go (yes n) f = subst (λ (t : ℕ). ¬ (pts (cl t) ≡ pts (cl (suc t)))) n (not_first (pts (cl l)) (pts (cr r)) (pts (cl (suc l))) d)
      go (no n) f = f (omega arith)
  differ_left (more_right ρ d s) k h e = differ_left ρ k h e

  differ_right : {m l r : ℕ} → Route pts Edge cl cr a b m l r → (k : ℕ) → 0 < k → k < r → ¬ (pts (cr k) ≡ pts (cr (suc k)))
  differ_right (first s) k h e = λ q. omega arith
  differ_right (more_left ρ d s) k h e = differ_right ρ k h e
  differ_right (more_right {l = l} {r = r} ρ d s) k h e = go (ℕ_discrete r k) (λ n. differ_right ρ k h n)
    where
      go : Dec (r ≡ k) → (k < r → ¬ (pts (cr k) ≡ pts (cr (suc k)))) → ¬ (pts (cr k) ≡ pts (cr (suc k)))
      go (yes n) f = subst (λ (t : ℕ). ¬ (pts (cr t) ≡ pts (cr (suc t)))) n (not_second (pts (cl l)) (pts (cr r)) (pts (cr (suc r))) d)
      go (no n) f = f (omega arith)

  pub route_count : {m l r : ℕ} → Route pts Edge cl cr a b m l r → suc m ≡ l + r
  route_count (first s) = refl
  route_count (more_left {m = m} {l = l} {r = r} ρ d s) = let x = route_count ρ in omega arith
  route_count (more_right {m = m} {l = l} {r = r} ρ d s) = let x = route_count ρ in omega arith

  route_low : {m l r : ℕ} → Route pts Edge cl cr a b m l r → (0 < l) × (0 < r)
  route_low (first s) = (omega arith, omega arith)
  route_low (more_left {l = l} {r = r} ρ d s) = let x = route_low ρ in (omega arith, x.1)
  route_low (more_right {l = l} {r = r} ρ d s) = let x = route_low ρ in (x.0, omega arith)

  -- ---- both chains

  module _ (tidy : Tidy pts Edge) (m l r : ℕ) (ρ : Route pts Edge cl cr a b m l r) (a-left : pts (cl 0) ≡ a) (b_left : pts (cl (suc l)) ≡ b)
      (a-right : pts (cr 0) ≡ a) (b_right : pts (cr (suc r)) ≡ b) where
    -- the corner k on the left, and its needle
    pub needle_left : ℕ → Pt ℤ
    needle_left k = pts (cr (rgt ρ (atl ρ k)))

    pub left_chain : (z : ℕ → Pt ℤ) → ((k : ℕ) → k ≤ suc l → z k ≡ pts (cl k)) → Needles z needle_left 0 (suc l)
    unfolding needle_left
    left_chain z at =
        right_needles b a (λ g. pts (cr (rgt ρ g))) (λ g. pts (cl (lft ρ g))) m (corridor tidy ρ) z needle_left 0 (suc l) (atl ρ)
        (record {
          from = at 0 (omega arith) ∙ a-left;
          to = at (suc l) le_self ∙ b_left;
          corner = λ k h n. at k (omega arith) ∙ ap (λ (t : ℕ). pts (cl t)) (sym (hit k h n).is);
          needle = λ k h n. refl;
          real = λ k h n. (hit k h n).real;
          differ = λ k h n e. differ_left ρ k h (omega arith) (sym (at k (omega arith)) ∙ e ∙ at (suc k) (omega arith));
        })
        (λ x y h n g. let gx : x < suc l = omega arith in let hy : 0 < y = omega arith in order (lft ρ) (down_left ρ) (atl ρ x) (atl ρ y) x y (hit x h gx).is (hit y hy g).is n)
      where
        hit : (k : ℕ) → 0 < k → k < suc l → Hits (lft ρ) m k (atl ρ k)
        hit k h n = hit_left ρ k h (omega arith)

    pub needle_right : ℕ → Pt ℤ
    needle_right k = pts (cl (lft ρ (atr ρ (suc l + suc r - k))))

    pub right_chain : (z : ℕ → Pt ℤ) → ((k : ℕ) → suc l ≤ k → k ≤ suc l + suc r → z k ≡ pts (cr (suc l + suc r - k))) → Needles z needle_right (suc l) (suc l + suc r)
    unfolding needle_right
    right_chain z at =
        left_needles b a (λ g. pts (cr (rgt ρ g))) (λ g. pts (cl (lft ρ g))) m (corridor tidy ρ) z needle_right (suc l) (suc l + suc r) (λ k. atr ρ (suc l + suc r - k))
        (record {
          from = at (suc l) le_self (omega arith) ∙ ap (λ (t : ℕ). pts (cr t)) (begin l r) ∙ b_right;
          to = at (suc l + suc r) (omega arith) le_self ∙ ap (λ (t : ℕ). pts (cr t)) (final l r) ∙ a-right;
          corner = λ k h n. at k (omega arith) (omega arith) ∙ ap (λ (t : ℕ). pts (cr t)) (sym (hit k h n).is);
          needle = λ k h n. refl;
          real = λ k h n. (hit k h n).real;
          differ = λ k h n e. differ_right ρ (suc l + suc r - suc k) (omega arith) (omega arith)
              (sym (at (suc k) (omega arith) (omega arith)) ∙ sym e ∙ at k (omega arith) (omega arith) ∙ ap (λ (t : ℕ). pts (cr t)) (less l r k h n));
        })
        (λ x y h n g. let gx : x < suc l + suc r = omega arith in let hy : suc l < y = omega arith in
        order (rgt ρ) (down_right ρ) (atr ρ (suc l + suc r - y)) (atr ρ (suc l + suc r - x)) (suc l + suc r - y) (suc l + suc r - x)
        (hit y hy g).is (hit x h gx).is (omega arith))
      where
        begin : (l r : ℕ) → suc l + suc r - suc l ≡ suc r
        begin l r = omega arith

        final : (l r : ℕ) → suc l + suc r - (suc l + suc r) ≡ 0
        final l r = omega arith

        less : (l r k : ℕ) → suc l < k → suc k < suc l + suc r → suc l + suc r - k ≡ suc (suc l + suc r - suc k)
        less l r k h n = omega arith

        hit : (k : ℕ) → suc l < k → k < suc l + suc r → Hits (rgt ρ) m (suc l + suc r - k) (atr ρ (suc l + suc r - k))
        hit k h n = hit_right ρ (suc l + suc r - k) (omega arith) (omega arith)

    -- THE CAVITY OF A ROUTE CLOSES: the scan fills both its sides
    module _ (W : World) (c gp slot : ℕ → ℕ) (PL PR : ℕ) (σ : Net) (c_left : (k : ℕ) → k ≤ suc l → c k ≡ cl k) (c_right : (k : ℕ) → suc l ≤ k → k ≤ suc l + suc r → c k ≡ cr (suc l + suc r - k)) where
      on_left : (k : ℕ) → 0 < k → k ≤ l → Pos (orient a b (pts (cl k)))
      on_left k h n = subst (λ (t : ℕ). Pos (orient a b (pts (cl t)))) (hit_left ρ k h n).is (gate_at ρ (atl ρ k)).pierce.left

      on_right : (k : ℕ) → 0 < k → k ≤ r → Pos (orient b a (pts (cr k)))
      on_right k h n = subst (λ (t : ℕ). Pos (orient b a (pts (cr t)))) (hit_right ρ k h n).is (gate_at ρ (atr ρ k)).pierce.right

      step_left : (x : ℕ) → x < suc l → ¬ (pts (cl (suc x)) ≡ pts (cl x))
      step_left x h e = go (ℕ_discrete x 0) (ℕ_discrete x l)
        where
          low : 0 < l
          low = (route_low ρ).0

          go : Dec (x ≡ 0) → Dec (x ≡ l) → ⊥
          go (yes p) q = not_first a b (pts (cl 1)) (on_left 1 (omega arith) low) (sym a-left ∙ ap (λ (t : ℕ). pts (cl t)) (sym p) ∙ sym e ∙ ap (λ (t : ℕ). pts (cl (suc t))) p)
          go (no p) (yes q) = not_second a b (pts (cl l)) (on_left l low le_self) (sym b_left ∙ ap (λ (t : ℕ). pts (cl (suc t))) (sym q) ∙ e ∙ ap (λ (t : ℕ). pts (cl t)) q)
          go (no p) (no q) = differ_left ρ x (omega arith) (omega arith) (sym e)

      step_right : (x : ℕ) → x < suc r → ¬ (pts (cr (suc x)) ≡ pts (cr x))
      step_right x h e = go (ℕ_discrete x 0) (ℕ_discrete x r)
        where
          low : 0 < r
          low = (route_low ρ).1

          go : Dec (x ≡ 0) → Dec (x ≡ r) → ⊥
          go (yes p) q = not_second b a (pts (cr 1)) (on_right 1 (omega arith) low) (sym a-right ∙ ap (λ (t : ℕ). pts (cr t)) (sym p) ∙ sym e ∙ ap (λ (t : ℕ). pts (cr (suc t))) p)
          go (no p) (yes q) = not_first b a (pts (cr r)) (on_right r low le_self) (sym b_right ∙ ap (λ (t : ℕ). pts (cr (suc t))) (sym q) ∙ e ∙ ap (λ (t : ℕ). pts (cr t)) q)
          go (no p) (no q) = differ_right ρ x (omega arith) (omega arith) (sym e)

      proper : (x : ℕ) → 0 ≤ x → x < suc l + suc r → ¬ (c (suc x) ≡ c x)
      proper x z h e = go (dec_lt x (suc l))
        where
          next : (l r x : ℕ) → ¬ (x < suc l) → x < suc l + suc r → suc l + suc r - x ≡ suc (suc l + suc r - suc x)
          next l r x n h = omega arith

          go : Dec (x < suc l) → ⊥
          go (yes n) = step_left x n (ap pts (sym (c_left (suc x) n) ∙ e ∙ c_left x (omega arith)))
          go (no n) = step_right (suc l + suc r - suc x) (omega arith)
              (ap pts (ap cr (sym (next l r x n h)) ∙ sym (c_right x (omega arith) (omega arith)) ∙ sym e ∙ c_right (suc x) (omega arith) (omega arith)))

      pub route_closes : Opened W c gp slot (suc l) (suc l + suc r) m PL PR σ → NeverSticks pts c gp slot (suc l) (suc l + suc r) m PL PR σ
      route_closes opn =
          let n = route_count ρ in
          let low = (route_low ρ).1 in
          never_sticks W pts c gp slot needle_left needle_right (suc l) (suc l + suc r) m PL PR σ opn (omega arith) (omega arith) (omega arith)
          (left_chain (λ k. pts (c k)) (λ k h. ap pts (c_left k h))) (right_chain (λ k. pts (c k)) (λ k h n. ap pts (c_right k h n)))
          (λ e. two_ends a b (pts (cl 1)) (on_left 1 (omega arith) (route_low ρ).0) (sym b_left ∙ ap pts (sym (c_left (suc l) le_self) ∙ e ∙ c_left 0 (omega arith)) ∙ a-left))
          proper
