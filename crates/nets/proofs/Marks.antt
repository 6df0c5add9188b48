-- Flipping keeps every marked edge, and marks none. Assumes nothing.
use mathlib.Core.List.{List}
use mathlib.Core.Logic.{inl, inr}
use mathlib.Core.Path.{◌≡◌, sym, ap, ◌∙◌, subst}
use Prim.Native.Nat.{ℕ, ◌+◌, ◌*◌, ◌/◌, ◌<◌}
use native.Mathlib.Decide.{ℕ_discrete}
use lib.IntN.{ℤ}
use Rattle.plane.specs.Base.{Side}
use Rattle.plane.specs.Halfedges.{nxt}
use Rattle.plane.specs.Points.{Pt}
use Rattle.nets.specs.Flipping.{Wants, Legal, done, stay}
use Rattle.nets.specs.Moves.{Move, after, mv}
use Rattle.nets.specs.Nets.{Net, dst, prv}
use Rattle.nets.specs.Slots.{put}
use Rattle.nets.specs.Steps.{flip, flip_raw, flip_moves}
use Rattle.nets.specs.Tilings.{Tiling, Marked}
use Rattle.nets.proofs.Flip.{Two, two_slots, flip_surgery}
use Rattle.nets.proofs.FlipTile.{tile_apart, far, flip_tile}
use Rattle.nets.proofs.Net.{Same}
use Rattle.nets.proofs.Slot.{Turn, it, one, two, turn, Edge, e0, e1, e2, edge, nxt_slot, put_2, puts_1}
use Rattle.nets.proofs.Surgery.{Moved, all_at, ren, here, there, stays_off, stays_moved}

-- the new edge has no mark
new_h : (m : Net) (h g : ℕ) → ¬ (g / 3 ≡ h / 3) → (flip_raw m h g).con (3 * (h / 3) + 1) ≡ 0
unfolding flip_raw
new_h m h g tn = puts_1 m.con (h / 3) (g / 3) (m.con (nxt g)) 0 (m.con (prv h)) (m.con (prv g)) (m.con (nxt h)) 0 tn

new_g : (m : Net) (h g : ℕ) → (flip_raw m h g).con (3 * (g / 3) + 2) ≡ 0
unfolding flip_raw
new_g m h g = put_2 (put m.con (h / 3) (m.con (nxt g)) 0 (m.con (prv h))) (g / 3) (m.con (prv g)) (m.con (nxt h)) 0

module _ {P : ℕ → Pt ℤ} {B : Side → Pt ℤ} {k : ℕ} {rk : ℕ → ℕ} where
  pub flip_marked : {m : Net} (h g : ℕ) → Tiling P B k m → h < 3 * m.tris → Wants P rk m h g → (u w : ℕ) → Marked m u w → Marked (flip m h g) u w
  unfolding flip flip_moves
  flip_marked {m} h g v b q u w s = go (ℕ_discrete (s.0 / 3) (h / 3)) (ℕ_discrete (s.0 / 3) (g / 3))
    where
      x : ℕ
      x = s.0

      L : List Move
      L = flip_moves h g

      r : Net
      r = flip_raw m h g

      c : ¬ (m.org (prv h) ≡ m.org (prv g))
      c = far v h g b q.pair

      by : Same m (after m r L) (ren L) x → Marked (flip m h g) u w
      by a = (ren L x, a.into, a.org_is ∙ s.2, a.dst_is ∙ s.3, λ e. s.4 (sym a.con_is ∙ e))

      mvd : (z : Move) → Rattle.nets.proofs.Surgery.Has L z → z.old ≡ x → Same m (after m r L) (ren L) x
      mvd z i e = subst (Same m (after m r L) (ren L)) e (stays_moved v.linked (flip_surgery v.linked (tile_apart v) h g b q.pair c) z i)

      in_h : Turn h x → Marked (flip m h g) u w
      in_h (it e) = absurd (s.4 (ap m.con e ∙ q.free))
      in_h (one e) = by (mvd (mv (nxt h) (3 * (g / 3) + 1)) (there (there (there here))) (sym e))
      in_h (two e) = by (mvd (mv (prv h) (3 * (h / 3) + 2)) (there here) (sym e))

      in_g : Turn g x → Marked (flip m h g) u w
      in_g (it e) = absurd (s.4 (ap m.con e ∙ v.linked.mark h g b q.pair ∙ q.free))
      in_g (one e) = by (mvd (mv (nxt g) (3 * (h / 3))) here (sym e))
      in_g (two e) = by (mvd (mv (prv g) (3 * (g / 3))) (there (there here)) (sym e))

      go : Dec (x / 3 ≡ h / 3) → Dec (x / 3 ≡ g / 3) → Marked (flip m h g) u w
      go (yes e) d = in_h (turn h x e)
      go (no n) (yes e) = in_g (turn g x e)
      go (no n) (no n') = by (stays_off v.linked (flip_surgery v.linked (tile_apart v) h g b q.pair c) x s.1 (λ d. elim d [ inl e ↦ n e | inr e ↦ n' e ]))

  pub legal_marked : {m m' : Net} {q : List ℕ} {z z' : ℕ} → Tiling P B k m → Legal P rk m q z m' z' → (u w : ℕ) → Marked m u w → Marked m' u w
  legal_marked v done u w s = s
  legal_marked v (stay n r) u w s = legal_marked v r u w s
  legal_marked v (Legal.turn h g e b q f r) u w s = legal_marked (flip_tile v h g b q.pair q.ccw_t q.ccw_n) r u w (flip_marked h g v b q u w s)

  -- an edge that is marked after it was marked before
  pub flip_older : {m : Net} (h g : ℕ) → Tiling P B k m → h < 3 * m.tris → Wants P rk m h g → (u w : ℕ) → Marked (flip m h g) u w → Marked m u w
  unfolding flip flip_moves after
  flip_older {m} h g v b q u w s = go (ℕ_discrete (s.0 / 3) (h / 3)) (ℕ_discrete (s.0 / 3) (g / 3))
    where
      x : ℕ
      x = s.0

      L : List Move
      L = flip_moves h g

      r : Net
      r = flip_raw m h g

      c : ¬ (m.org (prv h) ≡ m.org (prv g))
      c = far v h g b q.pair

      tn : ¬ (g / 3 ≡ h / 3)
      tn = two_slots v.linked (tile_apart v) h g b q.pair c

      was : (z : Move) → Rattle.nets.proofs.Surgery.Has L z → x ≡ z.new → Marked m u w
      was z i e =
          let a = all_at (Moved m r (Two (h / 3) (g / 3))) L z (flip_surgery v.linked (tile_apart v) h g b q.pair c).all_moved i in
          (z.old, a.old_in, sym a.org_is ∙ ap r.org (sym e) ∙ s.2, sym a.dst_is ∙ ap (λ (y : ℕ). dst r y) (sym e) ∙ s.3, λ d. s.4 (ap r.con e ∙ a.con_is ∙ d))

      in_h : Edge (h / 3) x → Marked m u w
      in_h (e0 e) = was (mv (nxt g) (3 * (h / 3))) here e
      in_h (e1 e) = absurd (s.4 (ap r.con e ∙ new_h m h g tn))
      in_h (e2 e) = was (mv (prv h) (3 * (h / 3) + 2)) (there here) e

      in_g : Edge (g / 3) x → Marked m u w
      in_g (e0 e) = was (mv (prv g) (3 * (g / 3))) (there (there here)) e
      in_g (e1 e) = was (mv (nxt h) (3 * (g / 3) + 1)) (there (there (there here))) e
      in_g (e2 e) = absurd (s.4 (ap r.con e ∙ new_g m h g))

      go : Dec (x / 3 ≡ h / 3) → Dec (x / 3 ≡ g / 3) → Marked m u w
      go (yes e) d = in_h (edge (h / 3) x e)
      go (no n) (yes e) = in_g (edge (g / 3) x e)
      go (no n) (no n') =
          let y = flip_surgery v.linked (tile_apart v) h g b q.pair c in
          let i : ¬ Two (h / 3) (g / 3) (x / 3) = λ d. elim d [ inl e ↦ n e | inr e ↦ n' e ] in
          (x, y.off_in x i s.1, sym (y.off_org x i) ∙ s.2, sym (y.off_org (nxt x) (rw nxt_slot i)) ∙ s.3, λ d. s.4 (y.off_con x i ∙ d))

  pub legal_older : {m m' : Net} {q : List ℕ} {z z' : ℕ} → Tiling P B k m → Legal P rk m q z m' z' → (u w : ℕ) → Marked m' u w → Marked m u w
  legal_older v done u w s = s
  legal_older v (stay n r) u w s = legal_older v r u w s
  legal_older v (Legal.turn h g e b q f r) u w s = flip_older h g v b q u w (legal_older (flip_tile v h g b q.pair q.ccw_t q.ccw_n) r u w s)
