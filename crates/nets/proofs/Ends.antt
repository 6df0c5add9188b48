-- Flipping ends: a flip that step 3 asks for lowers 3 (V K + M) + suspects, where V is the lifted volume, M the edges' ranks, and K is
-- above every M. Assumes nothing.
use mathlib.Core.List.{[], ◌∷◌}
use mathlib.Core.Logic.{◌⊎◌, inl, inr}
use mathlib.Core.Path.{◌≡◌, refl, sym, ap, ◌∙◌, subst}
use Prim.Native.Nat.{ℕ, zero, suc, ◌+◌, ◌*◌, ◌<◌, ◌≤◌, min, max}
use native.Mathlib.Nat.{mul-le-mul_right, mul_assoc, mul_left_comm}
use native.Mathlib.Omega.{arith}
use lib.IntN.{ℤ, pos, negsuc, ◌+ℤ◌, ◌-ℤ◌, nat_abs, +ℤ_idr}
use Rattle.algebra.proofs.Order.{nn_pos, pos_nn, nn+nn, nn*nn}
use Rattle.algebra.proofs.Ring.{var, ◌⊕◌, ◌⊖◌, solve}
use Rattle.algebra.specs.Order.{Pos, NonNeg}
use Rattle.algebra.specs.Sum.{sum_to}
use Rattle.plane.proofs.Convex.{lift_nn}
use Rattle.plane.specs.Base.{Side}
use Rattle.plane.specs.Determinants.{orient, vol, incircle}
use Rattle.plane.specs.Halfedges.{nxt}
use Rattle.plane.specs.Points.{Pt}
use Rattle.nets.specs.Flipping.{Lower, by_first, by_second, Wants}
use Rattle.nets.specs.Nets.{Net, prv}
use Rattle.nets.specs.Steps.{flip}
use Rattle.nets.specs.Tilings.{tri, Tiling}
use Rattle.nets.proofs.Flip.{flip_tris}
use Rattle.nets.proofs.FlipTile.{flip_sum, flip_vol, flip_tile, tile_apart, far}
use Rattle.nets.proofs.Slot.{nxt_in}
use Rattle.nets.proofs.Tile.{Cyclic}

-- ---- numbers that are not negative, as ℕ

abs_is : (z : ℤ) → NonNeg z → pos (nat_abs z) ≡ z
abs_is (pos k) h = refl
abs_is (negsuc k) h = absurd h.le

pos_inj : (a b : ℕ) → pos a ≡ pos b → a ≡ b
pos_inj a b e = ap nat_abs e

sum_nn : (k : ℕ) (f : ℕ → ℤ) → ((i : ℕ) → i < k → NonNeg (f i)) → NonNeg (sum_to k f)
unfolding sum_to
sum_nn zero f h = nn_pos 0
sum_nn (suc k) f h = nn+nn (sum_nn k f (λ i l. h i (omega arith))) (h k (omega arith))

unfoldable pub sum_n : ℕ → (ℕ → ℕ) → ℕ
sum_n zero f = 0
sum_n (suc k) f = sum_n k f + f k

sum_pos : (k : ℕ) (f : ℕ → ℕ) → pos (sum_n k f) ≡ sum_to k (λ i. pos (f i))
unfolding sum_to sum_n
sum_pos zero f = refl
sum_pos (suc k) f = ap (λ (x : ℤ). x +ℤ pos (f k)) (sum_pos k f)

sum_le : (k c : ℕ) (f : ℕ → ℕ) → ((i : ℕ) → i < k → f i ≤ c) → sum_n k f ≤ k * c
unfolding sum_n
sum_le zero c f h = omega arith
sum_le (suc k) c f h = let a = sum_le k c f (λ i l. h i (omega arith)) in let b = h k (omega arith) in let e : suc k * c ≡ k * c + c = omega arith in omega arith

-- ---- ranks of an edge

-- the rank pair of an edge as one number, n above every rank
unfoldable pub weight : (ℕ → ℕ) → ℕ → ℕ → ℕ → ℕ
weight rk n u v = min (rk u) (rk v) * n + max (rk u) (rk v)

weight_sym : (rk : ℕ → ℕ) (n u v : ℕ) → weight rk n u v ≡ weight rk n v u
unfolding weight
weight_sym rk n u v = let a : min (rk u) (rk v) ≡ min (rk v) (rk u) = omega arith in let b : max (rk u) (rk v) ≡ max (rk v) (rk u) = omega arith in rw (a, b)

row_lt : (a b x y n : ℕ) → x < n → a < b → a * n + x < b * n + y
row_lt a b x y n h l = let k : suc a * n ≤ b * n = mul-le-mul_right n l in let e : suc a * n ≡ a * n + n = omega arith in omega arith

lower_weight : (rk : ℕ → ℕ) (n u v p q : ℕ) → rk u < n → rk v < n → Lower rk u v p q → weight rk n u v < weight rk n p q
unfolding weight
lower_weight rk n u v p q hu hv (by_first l) = row_lt (min (rk u) (rk v)) (min (rk p) (rk q)) (max (rk u) (rk v)) (max (rk p) (rk q)) n (omega arith) l
lower_weight rk n u v p q hu hv (by_second e l) = rw e (let k : min (rk p) (rk q) * n + max (rk u) (rk v) < min (rk p) (rk q) * n + max (rk p) (rk q) = omega arith in k)

weight_le : (rk : ℕ → ℕ) (n u v : ℕ) → rk u < n → rk v < n → weight rk n u v ≤ n * n
unfolding weight
weight_le rk n u v hu hv = let k = row_lt (min (rk u) (rk v)) n (max (rk u) (rk v)) 0 n (omega arith) (omega arith) in omega arith

-- the weights of a triangle's edges
abbrev pub weights : (ℕ → ℕ) → ℕ → ℕ → ℕ → ℕ → ℕ
weights rk n a b c = weight rk n a b + weight rk n b c + weight rk n c a

-- ---- the measure

abbrev idn : ℕ → ℕ
idn x = x

unfoldable pub volume : (ℕ → Pt ℤ) → Net → ℕ
volume P m = nat_abs (sum_to m.tris (tri P m vol))

unfoldable pub ranks : (ℕ → ℕ) → ℕ → Net → ℕ
ranks rk n m = sum_n m.tris (tri idn m (weights rk n))

vol_nn : (a b c : Pt ℤ) → Pos (orient a b c) → NonNeg (vol a b c)
unfolding vol orient
vol_nn a b c o = nn*nn (nn+nn (nn+nn (lift_nn a) (lift_nn b)) (lift_nn c)) (pos_nn o)

volume_is : {P : ℕ → Pt ℤ} {B : Side → Pt ℤ} {k : ℕ} {m : Net} → Tiling P B k m → pos (volume P m) ≡ sum_to m.tris (tri P m vol)
unfolding volume
volume_is {P} {B} {k} {m} v = abs_is (sum_to m.tris (tri P m vol))
    (sum_nn m.tris (tri P m vol) (λ t l. vol_nn (P (m.org (3 * t))) (P (m.org (3 * t + 1))) (P (m.org (3 * t + 2))) (v.ccw t l)))

ranks_le : (P : ℕ → Pt ℤ) (B : Side → Pt ℤ) (k n : ℕ) (rk : ℕ → ℕ) (m : Net) → ((u : ℕ) → u < k → rk u < n) → Tiling P B k m → ranks rk n m ≤ m.tris * (3 * (n * n))
unfolding ranks
ranks_le P B k n rk m rb v = sum_le m.tris (3 * (n * n)) (tri idn m (weights rk n)) (λ i l. one i l)
  where
    one : (i : ℕ) → i < m.tris → tri idn m (weights rk n) i ≤ 3 * (n * n)
    one i l =
        let r0 = rb (m.org (3 * i)) (v.corners (3 * i) (omega arith)) in
        let r1 = rb (m.org (3 * i + 1)) (v.corners (3 * i + 1) (omega arith)) in
        let r2 = rb (m.org (3 * i + 2)) (v.corners (3 * i + 2) (omega arith)) in
        let a = weight_le rk n (m.org (3 * i)) (m.org (3 * i + 1)) r0 r1 in
        let b = weight_le rk n (m.org (3 * i + 1)) (m.org (3 * i + 2)) r1 r2 in
        let c = weight_le rk n (m.org (3 * i + 2)) (m.org (3 * i)) r2 r0 in
        omega arith

module _ {P : ℕ → Pt ℤ} {B : Side → Pt ℤ} {k : ℕ} {m : Net} (v : Tiling P B k m) (h g : ℕ) (hb : h < 3 * m.tris) (pair : m.adj h ≡ suc g) (v' : Tiling P B k (flip m h g)) where
  abbrev inc : ℤ
  inc = incircle (P (m.org h)) (P (m.org (nxt h))) (P (m.org (prv h))) (P (m.org (prv g)))

  volume_flip : pos (volume P (flip m h g)) +ℤ inc ≡ pos (volume P m)
  volume_flip = ap (λ (x : ℤ). x +ℤ inc) (volume_is v') ∙ flip_vol v h g hb pair ∙ sym (volume_is v)

  volume_falls : Pos inc → volume P (flip m h g) < volume P m
  volume_falls p = go inc p volume_flip
    where
      go : (z : ℤ) → Pos z → pos (volume P (flip m h g)) +ℤ z ≡ pos (volume P m) → volume P (flip m h g) < volume P m
      go (pos zero) q e = absurd q.lt
      go (pos (suc z)) q e = let w : volume P (flip m h g) + suc z ≡ volume P m = pos_inj (volume P (flip m h g) + suc z) (volume P m) e in omega arith
      go (negsuc z) q e = absurd q.lt

  volume_stays : inc ≡ pos 0 → volume P (flip m h g) ≡ volume P m
  volume_stays e = pos_inj (volume P (flip m h g)) (volume P m) (sym (+ℤ_idr (pos (volume P (flip m h g)))) ∙ ap (λ (x : ℤ). pos (volume P (flip m h g)) +ℤ x) (sym e) ∙ volume_flip)

  module _ (rk : ℕ → ℕ) (n : ℕ) where
    abbrev wz : ℕ → ℕ → ℕ → ℤ
    wz a b c = pos (weights rk n a b c)

    wz_cyc : Cyclic wz
    wz_cyc a b c = ap pos (turnsum (weight rk n a b) (weight rk n b c) (weight rk n c a))
      where
        turnsum : (x y z : ℕ) → x + y + z ≡ y + z + x
        turnsum x y z = omega arith

    abbrev wt : ℕ → ℕ → ℕ
    wt = weight rk n

    abbrev a : ℕ
    a = m.org h

    abbrev b : ℕ
    b = m.org (nxt h)

    abbrev c : ℕ
    c = m.org (prv h)

    abbrev d : ℕ
    d = m.org (prv g)

    ranks_z : pos (ranks rk n (flip m h g)) ≡ pos (ranks rk n m) +ℤ (wz a d c -ℤ wz a b c) +ℤ (wz d b c -ℤ wz b a d)
    unfolding ranks
    ranks_z =
        sum_pos (flip m h g).tris (tri idn (flip m h g) (weights rk n)) ∙ flip_sum v h g hb pair idn wz wz_cyc ∙
        ap (λ (x : ℤ). x +ℤ (wz (m.org h) (m.org (prv g)) (m.org (prv h)) -ℤ wz (m.org h) (m.org (nxt h)) (m.org (prv h))) +ℤ
        (wz (m.org (prv g)) (m.org (nxt h)) (m.org (prv h)) -ℤ wz (m.org (nxt h)) (m.org h) (m.org (prv g)))) (sym (sum_pos m.tris (tri idn m (weights rk n))))

    moved : (r x y z w : ℤ) → r +ℤ (x -ℤ y) +ℤ (z -ℤ w) +ℤ (y +ℤ w) ≡ r +ℤ (x +ℤ z)
    moved r x y z w = solve (var 0 ⊕ (var 1 ⊖ var 2) ⊕ (var 3 ⊖ var 4) ⊕ (var 2 ⊕ var 4)) (var 0 ⊕ (var 1 ⊕ var 3)) (r ∷ x ∷ y ∷ z ∷ w ∷ []) tt

    ranks_n : ranks rk n (flip m h g) + (weights rk n a b c + weights rk n b a d) ≡ ranks rk n m + (weights rk n a d c + weights rk n d b c)
    ranks_n =
        pos_inj (ranks rk n (flip m h g) + (weights rk n a b c + weights rk n b a d)) (ranks rk n m + (weights rk n a d c + weights rk n d b c))
        (ap (λ (x : ℤ). x +ℤ (wz a b c +ℤ wz b a d)) ranks_z ∙ moved (pos (ranks rk n m)) (wz a d c) (wz a b c) (wz d b c) (wz b a d))

    ranks_fall : rk c < n → rk d < n → Lower rk c d a b → ranks rk n (flip m h g) < ranks rk n m
    ranks_fall hc hd l =
        let e = ranks_n in
        let q = lower_weight rk n c d a b hc hd l in
        let p1 = weight_sym rk n a b in let p2 = weight_sym rk n c d in let p3 = weight_sym rk n d b in let p4 = weight_sym rk n a d in let p5 = weight_sym rk n b c in
        omega arith

-- ---- a turn lowers it

abbrev pub measure : (ℕ → Pt ℤ) → (ℕ → ℕ) → ℕ → ℕ → Net → ℕ → ℕ
measure P rk n K m s = 3 * (volume P m * K + ranks rk n m) + s

falls : (W W' M M' K s : ℕ) → M' < K → (W' < W) ⊎ ((W' ≡ W) × (M' < M)) → 3 * (W' * K + M') + suc s < 3 * (W * K + M) + s
falls W W' M M' K s b (inl l) = let k : W' * K + M' < W * K + M = row_lt W' W M' M K b l in omega arith
falls W W' M M' K s b (inr p) = rw p.0 (let l = p.1 in let k : W * K + M' < W * K + M = omega arith in let r : 3 * (W * K + M') + suc s < 3 * (W * K + M) + s = omega arith in r)

module _ {P : ℕ → Pt ℤ} {B : Side → Pt ℤ} {k : ℕ} {m : Net} (v : Tiling P B k m) (rk : ℕ → ℕ) (n K : ℕ) (rb : (u : ℕ) → u < k → rk u < n)
    (room : m.tris * (3 * (n * n)) < K) (h g : ℕ) (hb : h < 3 * m.tris) (w : Wants P rk m h g) where
  pub wanted_tile : Tiling P B k (flip m h g)
  wanted_tile = flip_tile v h g hb w.pair w.ccw_t w.ccw_n

  pub flip_falls : (s : ℕ) → measure P rk n K (flip m h g) (suc s) < measure P rk n K m s
  flip_falls s = falls (volume P m) (volume P (flip m h g)) (ranks rk n m) (ranks rk n (flip m h g)) K s small (go w.gain)
    where
      gb : g < 3 * m.tris
      gb = v.linked.low h g hb w.pair

      small : ranks rk n (flip m h g) < K
      small =
          let r = ranks_le P B k n rk (flip m h g) rb wanted_tile in
          let e : (flip m h g).tris ≡ m.tris = flip_tris v.linked (tile_apart v) h g hb w.pair (far v h g hb w.pair) in
          let r' : ranks rk n (flip m h g) ≤ m.tris * (3 * (n * n)) = subst (λ (x : ℕ). ranks rk n (flip m h g) ≤ x * (3 * (n * n))) e r in
          omega arith

      rank : (x : ℕ) → x < 3 * m.tris → rk (m.org x) < n
      rank x l = rb (m.org x) (v.corners x l)

      go : Pos (incircle (P (m.org h)) (P (m.org (nxt h))) (P (m.org (prv h)))
          (P (m.org (prv g)))) ⊎ ((incircle (P (m.org h)) (P (m.org (nxt h))) (P (m.org (prv h))) (P (m.org (prv g))) ≡ pos 0) ×
          Lower rk (m.org (prv h)) (m.org (prv g)) (m.org h) (m.org (nxt h))) →
          (volume P (flip m h g) < volume P m) ⊎ ((volume P (flip m h g) ≡ volume P m) × (ranks rk n (flip m h g) < ranks rk n m))
      go (inl p) = inl (volume_falls v h g hb w.pair wanted_tile p)
      go (inr p) =
          inr (
            volume_stays v h g hb w.pair wanted_tile p.0,
            ranks_fall v h g hb w.pair wanted_tile rk n (rank (prv h) (nxt_in (nxt h) m.tris (nxt_in h m.tris hb))) (rank (prv g) (nxt_in (nxt g) m.tris (nxt_in g m.tris gb))) p.1,
          )

-- room enough: K = 6 n³ + 1, with at most 2 n triangles
pub room6 : (n k : ℕ) → k ≤ 2 * n → k * (3 * (n * n)) < 6 * (n * (n * n)) + 1
room6 n k l =
    let a : k * (3 * (n * n)) ≤ 2 * n * (3 * (n * n)) = mul-le-mul_right (3 * (n * n)) l in
    let b : 2 * n * (3 * (n * n)) ≡ 2 * (n * (3 * (n * n))) = mul_assoc 2 n (3 * (n * n)) in
    let c : n * (3 * (n * n)) ≡ 3 * (n * (n * n)) = mul_left_comm n 3 (n * n) in
    omega arith
