-- A flip writes nothing but the records of triangles and hints: it leaves the flags and the stack of suspects as they are, and all that stands
-- behind the triangles. Assumes nothing.
use mathlib.Core.List.{List, [], ◌∷◌}
use mathlib.Core.Path.{◌≡◌, refl, ◌∙◌}
use Prim.Native.Nat.{ℕ, zero, suc, ◌+◌, ◌*◌, ◌/◌, ◌%◌, ◌<◌, ◌≤◌}
use native.Mathlib.Omega.{arith}
use lib.ListN.{get_or, set}
use lib.Seq.{get_or-set_other}
use Rattle.plane.specs.Halfedges.{nxt}
use Rattle.nets.specs.Layout.{cell, net_of, tell, tells, put_rec, hint, born, flip_list}
use Rattle.nets.specs.Moves.{Move}
use Rattle.nets.specs.Nets.{prv}
use Rattle.nets.specs.Slots.{Rec}
use Rattle.nets.specs.Steps.{flip_moves, flip_a, flip_b}
use Rattle.nets.proofs.Slot.{nxt_in}
use Rattle.nets.proofs.Surgery.{All}

-- a place that is none of the first count triangles' and no hint's
module _ (count c : ℕ) (no : (s k : ℕ) → s < count → k < 9 → ¬ (c ≡ 16 * s + k)) (far : ¬ (c % 16 ≡ 12)) where
  off : (w : List ℕ) (s k x : ℕ) → s < count → k < 9 → get_or (set w (16 * s + k) x) c 0 ≡ get_or w c 0
  off w s k x l a = get_or-set_other w (16 * s + k) c x 0 (no s k l a)

  off0 : (w : List ℕ) (s x : ℕ) → s < count → get_or (set w (16 * s) x) c 0 ≡ get_or w c 0
  off0 w s x l = get_or-set_other w (16 * s) c x 0 (λ e. no s 0 l (omega arith) (omega arith))

  put_off : (w : List ℕ) (s : ℕ) (x : Rec) → s < count → get_or (put_rec w s x) c 0 ≡ get_or w c 0
  unfolding put_rec
  put_off w s x l =
      off w8 s 8 x.c2 l (omega arith) ∙ off w7 s 7 x.c1 l (omega arith) ∙ off w6 s 6 x.c0 l (omega arith) ∙ off w5 s 5 x.a2 l (omega arith) ∙ off w4 s 4 x.a1 l (omega arith)
      ∙ off w3 s 3 x.a0 l (omega arith) ∙ off w2 s 2 x.v2 l (omega arith) ∙ off w1 s 1 x.v1 l (omega arith) ∙ off0 w s x.v0 l
    where
      w1 : List ℕ
      w1 = set w (16 * s) x.v0

      w2 : List ℕ
      w2 = set w1 (16 * s + 1) x.v1

      w3 : List ℕ
      w3 = set w2 (16 * s + 2) x.v2

      w4 : List ℕ
      w4 = set w3 (16 * s + 3) x.a0

      w5 : List ℕ
      w5 = set w4 (16 * s + 4) x.a1

      w6 : List ℕ
      w6 = set w5 (16 * s + 5) x.a2

      w7 : List ℕ
      w7 = set w6 (16 * s + 6) x.c0

      w8 : List ℕ
      w8 = set w7 (16 * s + 7) x.c1

  hint_off : (w : List ℕ) (s v : ℕ) → get_or (hint s v w) c 0 ≡ get_or w c 0
  unfolding hint
  hint_off w s v = get_or-set_other w (16 * v + 12) c s 0 (λ e. far (omega arith))

  born_off : (w : List ℕ) (s : ℕ) (x : Rec) → s < count → get_or (born w s x) c 0 ≡ get_or w c 0
  unfolding born
  born_off w s x l =
      hint_off (hint s x.v1 (hint s x.v0 (put_rec w s x))) s x.v2 ∙ hint_off (hint s x.v0 (put_rec w s x)) s x.v1 ∙ hint_off (put_rec w s x) s x.v0 ∙ put_off w s x l

  tell_off : (o y : ℕ) (w : List ℕ) → o ≤ 3 * count → get_or (tell o y w) c 0 ≡ get_or w c 0
  unfolding tell cell
  tell_off zero y w l = refl
  tell_off (suc o) y w l =
      get_or-set_other w (cell 3 o) c (suc y) 0 (λ e. no (o / 3) (3 + o % 3) (let z : o / 3 < count = omega arith in z)
      (let z : 3 + o % 3 < 9 = omega arith in z) (let z : c ≡ 16 * (o / 3) + (3 + o % 3) = omega arith in z))

  tells_off : (adj : ℕ → ℕ) (L : List Move) (w : List ℕ) → All (λ v. adj v.old ≤ 3 * count) L → get_or (tells adj L w) c 0 ≡ get_or w c 0
  unfolding tells
  tells_off adj [] w a = refl
  tells_off adj (v ∷ L) w a = tell_off (adj v.old) v.new (tells adj L w) a.0 ∙ tells_off adj L w a.1

  pub flip_off : (w : List ℕ) → ((h : ℕ) → h < 3 * count → (net_of w count).adj h ≤ 3 * count) → (h g : ℕ) → h < 3 * count → g < 3 * count → get_or (flip_list w h g) c 0 ≡ get_or w c 0
  unfolding flip_list flip_moves net_of
  flip_off w partners h g hb gb =
      tells_off (net_of w count).adj (flip_moves h g) (born (born w (h / 3) (flip_a (net_of w 0) h g)) (g / 3) (flip_b (net_of w 0) h g)) (
        partners (nxt g) (nxt_in g count gb),
        (
          partners (prv h) (nxt_in (nxt h) count (nxt_in h count hb)),
          (partners (prv g) (nxt_in (nxt g) count (nxt_in g count gb)), (partners (nxt h) (nxt_in h count hb), tt)),
        ),
      )
      ∙ born_off (born w (h / 3) (flip_a (net_of w 0) h g)) (g / 3) (flip_b (net_of w 0) h g) (let z : g / 3 < count = omega arith in z)
      ∙ born_off w (h / 3) (flip_a (net_of w 0) h g) (let z : h / 3 < count = omega arith in z)
