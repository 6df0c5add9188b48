-- The building steps mark no edge: a step on a net without marks leaves one without marks. Assumes nothing.
use mathlib.Core.Path.{◌≡◌, refl, ap, ◌∙◌}
use Prim.Native.Nat.{ℕ, ◌+◌, ◌*◌, ◌/◌, ◌<◌}
use native.Mathlib.Decide.{ℕ_discrete}
use native.Mathlib.Omega.{arith}
use Rattle.plane.specs.Halfedges.{nxt}
use Rattle.nets.specs.Moves.{after}
use Rattle.nets.specs.Nets.{Net, prv}
use Rattle.nets.specs.Slots.{put, write, grow}
use Rattle.nets.specs.Steps.{flip, flip_raw, inside, inside_raw, side_split, side_raw, edge_split, edge_raw}
use Rattle.nets.specs.Tilings.{Unmarked}
use Rattle.nets.proofs.Slot.{nxt_in, Edge, e0, e1, e2, edge, put_0, put_1, put_2, put_off}

put_zero : (f : ℕ → ℕ) (s x y z h : ℕ) → x ≡ 0 → y ≡ 0 → z ≡ 0 → (¬ (h / 3 ≡ s) → f h ≡ 0) → put f s x y z h ≡ 0
put_zero f s x y z h a b c o = go (ℕ_discrete (h / 3) s)
  where
    at : Edge s h → put f s x y z h ≡ 0
    at (e0 e) = ap (put f s x y z) e ∙ put_0 f s x y z ∙ a
    at (e1 e) = ap (put f s x y z) e ∙ put_1 f s x y z ∙ b
    at (e2 e) = ap (put f s x y z) e ∙ put_2 f s x y z ∙ c

    go : Dec (h / 3 ≡ s) → put f s x y z h ≡ 0
    go (yes e) = at (edge s h e)
    go (no n) = put_off f s x y z h n ∙ o n

module _ (m : Net) (u : Unmarked m) where
  n1 : (h : ℕ) → h < 3 * m.tris → m.con (nxt h) ≡ 0
  n1 h b = u (nxt h) (nxt_in h m.tris b)

  n2 : (h : ℕ) → h < 3 * m.tris → m.con (prv h) ≡ 0
  n2 h b = u (prv h) (nxt_in (nxt h) m.tris (nxt_in h m.tris b))

  pub flip_unmarked : (h g : ℕ) → h < 3 * m.tris → g < 3 * m.tris → Unmarked (flip m h g)
  unfolding flip after flip_raw
  flip_unmarked h g hb gb x b =
      put_zero (put m.con (h / 3) (m.con (nxt g)) 0 (m.con (prv h))) (g / 3) (m.con (prv g)) (m.con (nxt h)) 0 x (n2 g gb) (n1 h hb) refl
      (λ i. put_zero m.con (h / 3) (m.con (nxt g)) 0 (m.con (prv h)) x (n1 g gb) refl (n2 h hb) (λ j. u x b))

  pub inside_unmarked : (t p : ℕ) → t < m.tris → Unmarked (inside m t p)
  unfolding inside after inside_raw write grow
  inside_unmarked t p tb x b =
      put_zero (put (put m.con t (m.con (3 * t)) 0 0) m.tris (m.con (3 * t + 1)) 0 0) (m.tris + 1) (m.con (3 * t + 2)) 0 0 x (u (3 * t + 2) (omega arith)) refl refl
      (λ i. put_zero (put m.con t (m.con (3 * t)) 0 0) m.tris (m.con (3 * t + 1)) 0 0 x (u (3 * t + 1) (omega arith)) refl refl
      (λ j. put_zero m.con t (m.con (3 * t)) 0 0 x (u (3 * t) (omega arith)) refl refl (λ k. u x (omega arith))))

  pub side_unmarked : (h p : ℕ) → h < 3 * m.tris → Unmarked (side_split m h p)
  unfolding side_split after side_raw write grow
  side_unmarked h p hb x b =
      put_zero (put m.con (h / 3) (m.con h) 0 (m.con (prv h))) m.tris (m.con h) (m.con (nxt h)) 0 x (u h hb) (n1 h hb) refl
      (λ i. put_zero m.con (h / 3) (m.con h) 0 (m.con (prv h)) x (u h hb) refl (n2 h hb) (λ j. u x (omega arith)))

  pub edge_unmarked : (h g p : ℕ) → h < 3 * m.tris → g < 3 * m.tris → Unmarked (edge_split m h g p)
  unfolding edge_split after edge_raw write grow
  edge_unmarked h g p hb gb x b =
      put_zero (put (put (put m.con (h / 3) (m.con h) 0 (m.con (prv h))) m.tris (m.con h) (m.con (nxt h)) 0) (g / 3) (m.con h) 0
      (m.con (prv g))) (m.tris + 1) (m.con h) (m.con (nxt g)) 0 x (u h hb) (n1 g gb) refl
      (λ i. put_zero (put (put m.con (h / 3) (m.con h) 0 (m.con (prv h))) m.tris (m.con h) (m.con (nxt h)) 0) (g / 3) (m.con h) 0 (m.con (prv g)) x (u h hb) refl (n2 g gb)
      (λ j. put_zero (put m.con (h / 3) (m.con h) 0 (m.con (prv h))) m.tris (m.con h) (m.con (nxt h)) 0 x (u h hb) (n1 h hb) refl
      (λ k. put_zero m.con (h / 3) (m.con h) 0 (m.con (prv h)) x (u h hb) refl (n2 h hb) (λ l. u x (omega arith)))))
