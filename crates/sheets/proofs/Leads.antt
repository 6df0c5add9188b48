-- The half-edge of a slot at which its turned triple starts. Assumes nothing.
use mathlib.Core.Logic.{◌⊎◌, inl, inr}
use mathlib.Core.Path.{◌≡◌, refl, sym}
use Prim.Native.Nat.{ℕ, ◌+◌, ◌-◌, ◌*◌, ◌/◌, ◌%◌, ◌≤◌, ◌<◌}
use native.Mathlib.Decide.{dec_lt}
use native.Mathlib.Omega.{arith}
use Rattle.plane.specs.Halfedges.{nxt}
use Rattle.plane.proofs.Halfedges.{nxt0, nxt1, nxt2}
use Rattle.nets.specs.Nets.{Net}
use Rattle.nets.specs.Location.{least, second, third}
use Rattle.nets.specs.Tilings.{tri}
use Rattle.nets.proofs.Slot.{slot0, slot1, slot2}
use Rattle.sheets.proofs.Steps.{turns_a, turns_b, turns_c}

-- Half-edge j of e's triangle, counted from e on.
unfoldable pub rot : ℕ → ℕ → ℕ
rot e j = 3 * (e / 3) + (e % 3 + j) % 3

pub rot0 : (e : ℕ) → rot e 0 ≡ e
unfolding rot
rot0 e = omega arith

pub rot1 : (e : ℕ) → rot e 1 ≡ nxt e
unfolding rot nxt
rot1 e = omega arith

pub rot2 : (e : ℕ) → rot e 2 ≡ nxt (nxt e)
unfolding rot nxt
rot2 e = omega arith

pub rot_slot : (e j : ℕ) → rot e j / 3 ≡ e / 3
unfolding rot
rot_slot e j = omega arith

rot_place : (e j : ℕ) → rot e j % 3 ≡ (e % 3 + j) % 3
unfolding rot
rot_place e j = omega arith

nxt_place : (h : ℕ) → nxt h % 3 ≡ (h % 3 + 1) % 3
unfolding nxt
nxt_place h = omega arith

turn_turn : (a b : ℕ) → ((a + b) % 3 + 1) % 3 ≡ (a + (b + 1) % 3) % 3
turn_turn a b = omega arith

rot_opened : (e j : ℕ) → rot e j ≡ 3 * (e / 3) + (e % 3 + j) % 3
unfolding rot
rot_opened e j = refl

nxt_rot : (e j : ℕ) → nxt (rot e j) ≡ rot e ((j + 1) % 3)
unfolding nxt
nxt_rot e j = rw (rot_slot, rot_place, turn_turn) (sym (rot_opened e ((j + 1) % 3)))

pub rot_nxt : (e h : ℕ) → rot e (nxt h % 3) ≡ nxt (rot e (h % 3))
rot_nxt e h = rw nxt_place (sym (nxt_rot e (h % 3)))

pub rot_one : (e i j : ℕ) → i < 3 → j < 3 → rot e i ≡ rot e j → i ≡ j
unfolding rot
rot_one e i j h g q = omega arith

-- Each half-edge of the triangle is reached.
pub rot_onto : (e x : ℕ) → x / 3 ≡ e / 3 → rot e ((x % 3 + (3 - e % 3)) % 3) ≡ x
unfolding rot
rot_onto e x h = omega arith

-- ---- the start

-- The turned triple of slot t starts at this half-edge, whose corner is the least.
pub record Lead (m : Net) (t : ℕ) : Type 0 where
  pub edge : ℕ
  pub slot : edge / 3 ≡ t
  pub first : tri (λ u. u) m least t ≡ m.org edge
  pub second : tri (λ u. u) m second t ≡ m.org (nxt edge)
  pub third : tri (λ u. u) m third t ≡ m.org (nxt (nxt edge))
  pub low1 : m.org edge ≤ m.org (nxt edge)
  pub low2 : m.org edge ≤ m.org (nxt (nxt edge))

pub lead : (m : Net) (t : ℕ) → Lead m t
lead m t = elim (dec_lt b a) [
  | yes h ↦ other (inl h)
  | no h ↦ elim (dec_lt c a) [ yes g ↦ other (inr g) | no g ↦ here (omega arith) (omega arith) ]
]
  where
    a : ℕ
    a = m.org (3 * t)

    b : ℕ
    b = m.org (3 * t + 1)

    c : ℕ
    c = m.org (3 * t + 2)

    here : a ≤ b → a ≤ c → Lead m t
    here h g =
        let e = turns_a a b c h g in
        record {
          edge = 3 * t;
          slot = slot0 t;
          first = e.is_least;
          second = rw nxt0 e.is_second;
          third = rw (nxt0, nxt1) e.is_third;
          low1 = rw nxt0 h;
          low2 = rw (nxt0, nxt1) g;
        }

    other : (b < a) ⊎ (c < a) → Lead m t
    other n = elim (dec_lt c b) [
      | yes h ↦
          let e = turns_c a b c n h in
          let l : c < a = elim n [ inl g ↦ omega arith | inr g ↦ g ] in
          record {
            edge = 3 * t + 2;
            slot = slot2 t;
            first = e.is_least;
            second = rw nxt2 e.is_second;
            third = rw (nxt2, nxt0) e.is_third;
            low1 = rw nxt2 (omega arith);
            low2 = rw (nxt2, nxt0) (omega arith);
          }
      | no h ↦
          let e = turns_b a b c n (omega arith) in
          let l : b < a = elim n [ inl g ↦ g | inr g ↦ omega arith ] in
          record {
            edge = 3 * t + 1;
            slot = slot1 t;
            first = e.is_least;
            second = rw nxt1 e.is_second;
            third = rw (nxt1, nxt2) e.is_third;
            low1 = rw nxt1 (omega arith);
            low2 = rw (nxt1, nxt2) (omega arith);
          }
    ]
