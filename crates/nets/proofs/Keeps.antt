-- The steps keep the ranks, the free places and all beyond the first 64 n numbers. Assumes nothing.
use mathlib.Core.List.{List, [], ◌∷◌}
use mathlib.Core.Path.{◌≡◌, refl, ◌∙◌}
use Prim.Native.Nat.{ℕ, zero, suc, ◌+◌, ◌*◌, ◌/◌, ◌%◌, ◌<◌, ◌≤◌}
use native.Mathlib.Omega.{arith}
use lib.ListN.{set, length-set}
use lib.Seq.{get_or-set_other}
use Rattle.plane.specs.Halfedges.{nxt}
use Rattle.nets.specs.Nets.{Net, prv}
use Rattle.nets.specs.Slots.{Rec}
use Rattle.nets.specs.Moves.{Move}
use Rattle.nets.specs.Steps.{flip_moves, flip_a, flip_b, inside_moves, in_a, in_b, in_c, side_moves, side_a, side_b, edge_moves, edge_a, edge_b, edge_c, edge_e}
use Rattle.nets.specs.Layout.{cell, net_of, tell, tells, put_rec, rank_cell, hint_cell, hint, born, flip_list, inside_list, side_list, edge_list, Kept}
use Rattle.nets.proofs.Slot.{nxt_in}
use Rattle.nets.proofs.Surgery.{All}

pub kept_same : (n : ℕ) (w : List ℕ) → Kept n w w
kept_same n w = record { len = refl; ranks = λ i. refl; free = λ i f a b. refl; rest = λ c l. refl }

pub kept_then : (n : ℕ) (w u v : List ℕ) → Kept n w u → Kept n u v → Kept n w v
kept_then n w u v a b = record {
  len = b.len ∙ a.len;
  ranks = λ i. b.ranks i ∙ a.ranks i;
  free = λ i f l r. b.free i f l r ∙ a.free i f l r;
  rest = λ c l. b.rest c l ∙ a.rest c l;
}

-- a number written at another place
pub kept_set : (n : ℕ) (w : List ℕ) (c x : ℕ) → c < 64 * n → ¬ (c % 16 ≡ 11) → c % 16 < 13 → Kept n w (set w c x)
kept_set n w c x l r f = record {
  len = length-set w c x;
  ranks = λ i. get_or-set_other w c (rank_cell i) x 0 (at i);
  free = λ i k a b. get_or-set_other w c (16 * i + k) x 0 (spare i k a b);
  rest = λ d b. get_or-set_other w c d x 0 (let z : ¬ (d ≡ c) = omega arith in z);
}
  where
    at : (i : ℕ) → ¬ (16 * i + 11 ≡ c)
    at i e = r (let z : c % 16 ≡ 11 = omega arith in z)

    spare : (i k : ℕ) → 13 ≤ k → k < 16 → ¬ (16 * i + k ≡ c)
    spare i k a b e = omega arith

module _ (n : ℕ) where
  low : (s k : ℕ) → 16 * s + 9 ≤ 64 * n → k < 9 → 16 * s + k < 64 * n
  low s k l b = omega arith

  rem : (s k : ℕ) → k < 9 → ¬ ((16 * s + k) % 16 ≡ 11)
  rem s k b = omega arith

  few : (s k : ℕ) → k < 9 → (16 * s + k) % 16 < 13
  few s k b = omega arith

  mod0 : (s : ℕ) → ¬ (16 * s % 16 ≡ 11)
  mod0 s = omega arith

  few0 : (s : ℕ) → 16 * s % 16 < 13
  few0 s = omega arith

  one : (w : List ℕ) (s k x : ℕ) → 16 * s + 9 ≤ 64 * n → k < 9 → Kept n w (set w (16 * s + k) x)
  one w s k x l b = kept_set n w (16 * s + k) x (low s k l b) (rem s k b) (few s k b)

  put_kept : (w : List ℕ) (s : ℕ) (x : Rec) → 16 * s + 9 ≤ 64 * n → Kept n w (put_rec w s x)
  unfolding put_rec
  put_kept w s x l =
      kept_then n w w8 (set w8 (16 * s + 8) x.c2) (kept_then n w w7 w8 (kept_then n w w6 w7 (kept_then n w w5 w6 (kept_then n w w4 w5 (kept_then n w w3 w4 (kept_then n w w2 w3 (kept_then n w w1 w2
      (kept_set n w (16 * s) x.v0 (let z : 16 * s < 64 * n = omega arith in z) (mod0 s) (few0 s))
      (one w1 s 1 x.v1 l (omega arith))) (one w2 s 2 x.v2 l (omega arith))) (one w3 s 3 x.a0 l (omega arith))) (one w4 s 4 x.a1 l (omega arith)))
      (one w5 s 5 x.a2 l (omega arith))) (one w6 s 6 x.c0 l (omega arith))) (one w7 s 7 x.c1 l (omega arith))) (one w8 s 8 x.c2 l (omega arith))
    where
      w1 : List ℕ
      w1 = set w (16 * s) x.v0

      w2 : List ℕ
      w2 = set w1 (16 * s + 1) x.v1

      w3 : List ℕ
      w3 = set w2 (16 * s + 2) x.v2

      w4 : List ℕ
      w4 = set w3 (16 * s + 3) x.a0

      w5 : List ℕ
      w5 = set w4 (16 * s + 4) x.a1

      w6 : List ℕ
      w6 = set w5 (16 * s + 5) x.a2

      w7 : List ℕ
      w7 = set w6 (16 * s + 6) x.c0

      w8 : List ℕ
      w8 = set w7 (16 * s + 7) x.c1

  hint_kept : (w : List ℕ) (s v : ℕ) → v < n → Kept n w (hint s v w)
  unfolding hint
  hint_kept w s v l = kept_set n w (hint_cell v) s (let z : 16 * v + 12 < 64 * n = omega arith in z)
      (let z : ¬ ((16 * v + 12) % 16 ≡ 11) = omega arith in z) (let z : (16 * v + 12) % 16 < 13 = omega arith in z)

  pub born_kept : (w : List ℕ) (s : ℕ) (x : Rec) → 16 * s + 9 ≤ 64 * n → x.v0 < n → x.v1 < n → x.v2 < n → Kept n w (born w s x)
  unfolding born
  born_kept w s x l a b c =
      kept_then n w w2 (hint s x.v2 w2) (kept_then n w w1 w2 (kept_then n w w0 w1 (put_kept w s x l) (hint_kept w0 s x.v0 a)) (hint_kept w1 s x.v1 b)) (hint_kept w2 s x.v2 c)
    where
      w0 : List ℕ
      w0 = put_rec w s x

      w1 : List ℕ
      w1 = hint s x.v0 w0

      w2 : List ℕ
      w2 = hint s x.v1 w1

  tell_kept : (w : List ℕ) (o y T : ℕ) → o ≤ 3 * T → T ≤ 4 * n → Kept n w (tell o y w)
  unfolding tell cell
  tell_kept w zero y T l r = kept_same n w
  tell_kept w (suc o) y T l r = kept_set n w (cell 3 o) (suc y) (at o T l r) (mod3 o) (few3 o)
    where
      at : (o T : ℕ) → suc o ≤ 3 * T → T ≤ 4 * n → cell 3 o < 64 * n
      at o T l r = omega arith

      mod3 : (o : ℕ) → ¬ (cell 3 o % 16 ≡ 11)
      mod3 o = omega arith

      few3 : (o : ℕ) → cell 3 o % 16 < 13
      few3 o = omega arith

  tells_kept : (adj : ℕ → ℕ) (T : ℕ) → T ≤ 4 * n → (L : List Move) (w : List ℕ) → All (λ v. adj v.old ≤ 3 * T) L → Kept n w (tells adj L w)
  unfolding tells
  tells_kept adj T r [] w a = kept_same n w
  tells_kept adj T r (v ∷ L) w a = kept_then n w (tells adj L w) (tell (adj v.old) v.new (tells adj L w)) (tells_kept adj T r L w a.1)
      (tell_kept (tells adj L w) (adj v.old) v.new T a.0 r)

  module _ (w : List ℕ) (T : ℕ) (room : T ≤ 4 * n) (corners : (h : ℕ) → h < 3 * T → (net_of w T).org h < n) (partners : (h : ℕ) → h < 3 * T → (net_of w T).adj h ≤ 3 * T) where
    abbrev m : Net
    m = net_of w T

    slot : (h : ℕ) → h < 3 * T → 16 * (h / 3) + 9 ≤ 64 * n
    slot h b = omega arith

    n1 : (h : ℕ) → h < 3 * T → nxt h < 3 * T
    n1 h b = nxt_in h T b

    n2 : (h : ℕ) → h < 3 * T → prv h < 3 * T
    n2 h b = nxt_in (nxt h) T (nxt_in h T b)

    pub flip_kept : (h g : ℕ) → h < 3 * T → g < 3 * T → Kept n w (flip_list w h g)
    unfolding flip_list flip_moves net_of
    flip_kept h g hb gb =
        kept_then n w f2 (tells m.adj (flip_moves h g) f2)
        (kept_then n w f1 f2 (born_kept w (h / 3) (flip_a m h g) (slot h hb) (corners h hb) (corners (prv g) (n2 g gb)) (corners (prv h) (n2 h hb)))
        (born_kept f1 (g / 3) (flip_b m h g) (slot g gb) (corners (prv g) (n2 g gb)) (corners (nxt h) (n1 h hb)) (corners (prv h) (n2 h hb))))
        (tells_kept m.adj T room (flip_moves h g) f2 (partners (nxt g) (n1 g gb), (partners (prv h) (n2 h hb), (partners (prv g) (n2 g gb), (partners (nxt h) (n1 h hb), tt)))))
      where
        f1 : List ℕ
        f1 = born w (h / 3) (flip_a m h g)

        f2 : List ℕ
        f2 = born f1 (g / 3) (flip_b m h g)

    module _ (p : ℕ) (pn : p < n) where
      at : (t k : ℕ) → t < T → k < 3 → 3 * t + k < 3 * T
      at t k l b = omega arith

      at0 : (t : ℕ) → t < T → 3 * t < 3 * T
      at0 t l = omega arith

      pub inside_kept : (t : ℕ) → t < T → T + 2 ≤ 4 * n → Kept n w (inside_list w T t p)
      unfolding inside_list inside_moves
      inside_kept t tb more =
          kept_then n w i3 (tells m.adj (inside_moves m t) i3)
          (kept_then n w i2 i3 (kept_then n w i1 i2 (born_kept w t (in_a m t p) (omega arith) (corners (3 * t) (at0 t tb)) (corners (3 * t + 1) (at t 1 tb (omega arith))) pn)
          (born_kept i1 T (in_b m t p) (omega arith) (corners (3 * t + 1) (at t 1 tb (omega arith))) (corners (3 * t + 2) (at t 2 tb (omega arith))) pn))
          (born_kept i2 (T + 1) (in_c m t p) (omega arith) (corners (3 * t + 2) (at t 2 tb (omega arith))) (corners (3 * t) (at0 t tb)) pn))
          (tells_kept m.adj T room (inside_moves m t) i3 (partners (3 * t) (at0 t tb), (partners (3 * t + 1) (at t 1 tb (omega arith)), (partners (3 * t + 2) (at t 2 tb (omega arith)), tt))))
        where
          i1 : List ℕ
          i1 = born w t (in_a m t p)

          i2 : List ℕ
          i2 = born i1 T (in_b m t p)

          i3 : List ℕ
          i3 = born i2 (T + 1) (in_c m t p)

      pub side_kept : (h : ℕ) → h < 3 * T → T + 1 ≤ 4 * n → Kept n w (side_list w T h p)
      unfolding side_list side_moves
      side_kept h hb more =
          kept_then n w s2 (tells m.adj (side_moves m h) s2)
          (kept_then n w s1 s2 (born_kept w (h / 3) (side_a m h p) (slot h hb) (corners h hb) pn (corners (prv h) (n2 h hb)))
          (born_kept s1 T (side_b m h p) (omega arith) pn (corners (nxt h) (n1 h hb)) (corners (prv h) (n2 h hb))))
          (tells_kept m.adj T room (side_moves m h) s2 (partners (prv h) (n2 h hb), (partners (nxt h) (n1 h hb), tt)))
        where
          s1 : List ℕ
          s1 = born w (h / 3) (side_a m h p)

          s2 : List ℕ
          s2 = born s1 T (side_b m h p)

      pub edge_kept : (h g : ℕ) → h < 3 * T → g < 3 * T → T + 2 ≤ 4 * n → Kept n w (edge_list w T h g p)
      unfolding edge_list edge_moves
      edge_kept h g hb gb more =
          kept_then n w e4 (tells m.adj (edge_moves m h g) e4)
          (kept_then n w e3 e4 (kept_then n w e2 e3 (kept_then n w e1 e2 (born_kept w (h / 3) (edge_a m h g p) (slot h hb) (corners h hb) pn (corners (prv h) (n2 h hb)))
          (born_kept e1 T (edge_b m h g p) (omega arith) pn (corners (nxt h) (n1 h hb)) (corners (prv h) (n2 h hb))))
          (born_kept e2 (g / 3) (edge_c m h g p) (slot g gb) (corners (nxt h) (n1 h hb)) pn (corners (prv g) (n2 g gb))))
          (born_kept e3 (T + 1) (edge_e m h g p) (omega arith) pn (corners h hb) (corners (prv g) (n2 g gb))))
          (tells_kept m.adj T room (edge_moves m h g) e4 (partners (prv h) (n2 h hb), (partners (nxt h) (n1 h hb), (partners (prv g) (n2 g gb), (partners (nxt g) (n1 g gb), tt)))))
        where
          e1 : List ℕ
          e1 = born w (h / 3) (edge_a m h g p)

          e2 : List ℕ
          e2 = born e1 T (edge_b m h g p)

          e3 : List ℕ
          e3 = born e2 (g / 3) (edge_c m h g p)

          e4 : List ℕ
          e4 = born e3 (T + 1) (edge_e m h g p)
