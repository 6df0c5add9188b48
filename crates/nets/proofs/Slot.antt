-- A slot's three half-edges, and three values written at a slot. Assumes nothing.
use mathlib.Core.Path.{◌≡◌, refl, sym, ap, ◌∙◌}
use Prim.Native.Nat.{ℕ, ◌+◌, ◌*◌, ◌/◌, ◌%◌, ◌<◌}
use native.Mathlib.Decide.{ℕ_discrete}
use native.Mathlib.Omega.{arith}
use Rattle.algebra.proofs.Sum.{eqb_no, eqb_yes}
use Rattle.plane.proofs.Halfedges.{nxt0, nxt1, nxt2}
use Rattle.plane.specs.Halfedges.{nxt}
use Rattle.nets.specs.Slots.{three, put}

pub slot0 : (t : ℕ) → 3 * t / 3 ≡ t
slot0 t = omega arith

pub slot1 : (t : ℕ) → (3 * t + 1) / 3 ≡ t
slot1 t = omega arith

pub slot2 : (t : ℕ) → (3 * t + 2) / 3 ≡ t
slot2 t = omega arith

pub nxt_slot : (h : ℕ) → nxt h / 3 ≡ h / 3
unfolding nxt
nxt_slot h = omega arith

pub nxt_slot2 : (h : ℕ) → nxt (nxt h) / 3 ≡ h / 3
nxt_slot2 h = nxt_slot (nxt h) ∙ nxt_slot h

pub nxt_in : (h n : ℕ) → h < 3 * n → nxt h < 3 * n
unfolding nxt
nxt_in h n l = omega arith

pub nxt_not : (h : ℕ) → ¬ (nxt h ≡ h)
unfolding nxt
nxt_not h = omega arith

pub nxt_not2 : (h : ℕ) → ¬ (nxt (nxt h) ≡ h)
unfolding nxt
nxt_not2 h = omega arith

-- the half-edges of a slot, by one of them
pub data Turn (h x : ℕ) : Type 0 where
  it : x ≡ h → Turn h x
  one : x ≡ nxt h → Turn h x
  two : x ≡ nxt (nxt h) → Turn h x

nxt_is_two : (h x : ℕ) → x / 3 ≡ h / 3 → ¬ (x ≡ h) → ¬ (x ≡ nxt h) → x ≡ nxt (nxt h)
unfolding nxt
nxt_is_two h x s n k = omega arith

pub turn : (h x : ℕ) → x / 3 ≡ h / 3 → Turn h x
turn h x s = go (ℕ_discrete x h) (ℕ_discrete x (nxt h))
  where
    go : Dec (x ≡ h) → Dec (x ≡ nxt h) → Turn h x
    go (yes e) d = it e
    go (no n) (yes e) = one e
    go (no n) (no k) = two (nxt_is_two h x s n k)

-- the same by their numbers
pub data Edge (t x : ℕ) : Type 0 where
  e0 : x ≡ 3 * t → Edge t x
  e1 : x ≡ 3 * t + 1 → Edge t x
  e2 : x ≡ 3 * t + 2 → Edge t x

pub edge : (t x : ℕ) → x / 3 ≡ t → Edge t x
edge t x s = go (ℕ_discrete (x % 3) 0) (ℕ_discrete (x % 3) 1)
  where
    go : Dec (x % 3 ≡ 0) → Dec (x % 3 ≡ 1) → Edge t x
    go (yes e) d = e0 (omega arith)
    go (no n) (yes e) = e1 (omega arith)
    go (no n) (no k) = e2 (omega arith)

pub nxt_three : (h : ℕ) → nxt (nxt (nxt h)) ≡ h
nxt_three h = go (edge (h / 3) h refl)
  where
    go : Edge (h / 3) h → nxt (nxt (nxt h)) ≡ h
    go (e0 e) = ap (λ (x : ℕ). nxt (nxt (nxt x))) e ∙ ap (λ (x : ℕ). nxt (nxt x)) (nxt0 (h / 3)) ∙ ap nxt (nxt1 (h / 3)) ∙ nxt2 (h / 3) ∙ sym e
    go (e1 e) = ap (λ (x : ℕ). nxt (nxt (nxt x))) e ∙ ap (λ (x : ℕ). nxt (nxt x)) (nxt1 (h / 3)) ∙ ap nxt (nxt2 (h / 3)) ∙ nxt0 (h / 3) ∙ sym e
    go (e2 e) = ap (λ (x : ℕ). nxt (nxt (nxt x))) e ∙ ap (λ (x : ℕ). nxt (nxt x)) (nxt2 (h / 3)) ∙ ap nxt (nxt0 (h / 3)) ∙ nxt1 (h / 3) ∙ sym e

-- ---- three values at slot t

module _ (f : ℕ → ℕ) (t x y z : ℕ) where
  at_slot : (h k : ℕ) → h / 3 ≡ t → h % 3 ≡ k → put f t x y z h ≡ three x y z k
  unfolding put
  at_slot h k e r = rw (eqb_yes (h / 3) t e, r)

  pub put_0 : put f t x y z (3 * t) ≡ x
  put_0 = at_slot (3 * t) 0 (slot0 t) (let e : 3 * t % 3 ≡ 0 = omega arith in e)

  pub put_1 : put f t x y z (3 * t + 1) ≡ y
  put_1 = at_slot (3 * t + 1) 1 (slot1 t) (let e : (3 * t + 1) % 3 ≡ 1 = omega arith in e)

  pub put_2 : put f t x y z (3 * t + 2) ≡ z
  put_2 = at_slot (3 * t + 2) 2 (slot2 t) (let e : (3 * t + 2) % 3 ≡ 2 = omega arith in e)

  pub put_off : (h : ℕ) → ¬ (h / 3 ≡ t) → put f t x y z h ≡ f h
  unfolding put
  put_off h n = rw (eqb_no (h / 3) t n)

-- and at slot n
module _ (f : ℕ → ℕ) (t n x0 x1 x2 y0 y1 y2 : ℕ) (tn : ¬ (n ≡ t)) where
  pub puts_0 : put (put f t x0 x1 x2) n y0 y1 y2 (3 * t) ≡ x0
  puts_0 = put_off (put f t x0 x1 x2) n y0 y1 y2 (3 * t) (λ e. tn (sym e ∙ slot0 t)) ∙ put_0 f t x0 x1 x2

  pub puts_1 : put (put f t x0 x1 x2) n y0 y1 y2 (3 * t + 1) ≡ x1
  puts_1 = put_off (put f t x0 x1 x2) n y0 y1 y2 (3 * t + 1) (λ e. tn (sym e ∙ slot1 t)) ∙ put_1 f t x0 x1 x2

  pub puts_2 : put (put f t x0 x1 x2) n y0 y1 y2 (3 * t + 2) ≡ x2
  puts_2 = put_off (put f t x0 x1 x2) n y0 y1 y2 (3 * t + 2) (λ e. tn (sym e ∙ slot2 t)) ∙ put_2 f t x0 x1 x2

  pub puts_off : (h : ℕ) → ¬ (h / 3 ≡ t) → ¬ (h / 3 ≡ n) → put (put f t x0 x1 x2) n y0 y1 y2 h ≡ f h
  puts_off h i j = put_off (put f t x0 x1 x2) n y0 y1 y2 h j ∙ put_off f t x0 x1 x2 h i
