-- What the steps write in the working area is what they make of the net, and they keep the ranks, the free places and the rest. Assumes
-- nothing.
use mathlib.Core.List.{List}
use mathlib.Core.Path.{◌≡◌, refl, ap, ◌∙◌}
use Prim.Native.Nat.{ℕ, zero, suc, ◌+◌, ◌*◌, ◌/◌, ◌%◌, ◌<◌, ◌≤◌}
use native.Mathlib.Omega.{arith}
use lib.ListN.{length, set, length-set}
use lib.Seq.{get_or-set_other}
use lib.IntN.{ℤ}
use Rattle.plane.specs.Base.{Side}
use Rattle.plane.specs.Halfedges.{nxt}
use Rattle.plane.specs.Points.{Pt}
use Rattle.nets.specs.Nets.{Net, prv}
use Rattle.nets.specs.Slots.{Rec, write, grow}
use Rattle.nets.specs.Moves.{Move, after}
use Rattle.nets.specs.Steps.{flip_moves, flip_a, flip_b, flip_raw, flip, inside_moves, in_a, in_b, in_c, inside_raw, inside, side_moves, side_a, side_b, side_raw, side_split, edge_moves, edge_a, edge_b, edge_c, edge_e, edge_raw, edge_split}
use Rattle.nets.specs.Layout.{cell, net_of, tells, put_rec, hint_cell, hint, born, flip_list, inside_list, side_list, edge_list, InRange}
use Rattle.nets.specs.Tilings.{Tiling}
use Rattle.nets.proofs.Slot.{nxt_in}
use Rattle.nets.proofs.Memory.{net_eq, put_length, net_put, net_tells}

-- ---- a place that is no cell

off_cell : (f h c : ℕ) → f ≤ 6 → 9 ≤ c % 16 → ¬ (cell f h ≡ c)
unfolding cell
off_cell f h c l k e = omega arith

pub net_set : (w : List ℕ) (T c x : ℕ) → 9 ≤ c % 16 → net_of (set w c x) T ≡ net_of w T
unfolding net_of
net_set w T c x k =
    net_eq (net_of (set w c x) T) (net_of w T) refl
    (λ h. get_or-set_other w c (cell 0 h) x 0 (off_cell 0 h c (omega arith) k))
    (λ h. get_or-set_other w c (cell 3 h) x 0 (off_cell 3 h c (omega arith) k))
    (λ h. get_or-set_other w c (cell 6 h) x 0 (off_cell 6 h c (omega arith) k))

net_hint : (w : List ℕ) (T s v : ℕ) → net_of (hint s v w) T ≡ net_of w T
unfolding hint
net_hint w T s v = net_set w T (hint_cell v) s (let e : 9 ≤ (16 * v + 12) % 16 = omega arith in e)

-- ---- a birth

pub born_length : (w : List ℕ) (s : ℕ) (x : Rec) → length (born w s x) ≡ length w
unfolding born hint
born_length w s x = simp length-set (put_length w s x)

pub net_born : (w : List ℕ) (T s : ℕ) (x : Rec) → 16 * s + 9 ≤ length w → net_of (born w s x) T ≡ write (net_of w T) s x
unfolding born
net_born w T s x l =
    net_hint (hint s x.v1 (hint s x.v0 (put_rec w s x))) T s x.v2 ∙ net_hint (hint s x.v0 (put_rec w s x)) T s x.v1
    ∙ net_hint (put_rec w s x) T s x.v0 ∙ net_put w T s x l

-- ---- the steps

after_eq : (m r r' : Net) (L : List Move) → r ≡ r' → after m r L ≡ after m r' L
after_eq m r r' L e = ap (λ (x : Net). after m x L) e

-- a half-edge's partner has a cell in a list of this length
fits_to : (T n x a : ℕ) → a ≤ 3 * T → 16 * T ≤ n → a ≡ suc x → cell 3 x < n
unfolding cell
fits_to T n x a l r e = omega arith

module _ (w : List ℕ) (T : ℕ) (i : InRange T w) where
  abbrev m : Net
  m = net_of w T

  -- the partner of a half-edge can be told
  fits : (w' : List ℕ) → length w' ≡ length w → (h : ℕ) → h < 3 * T → (x : ℕ) → m.adj h ≡ suc x → cell 3 x < length w'
  fits w' e h b x a = fits_to T (length w') x (m.adj h) (i.partners h b) (let r = i.room in omega arith) a

  low0 : (t : ℕ) → t < T → 3 * t < 3 * T
  low0 t b = omega arith

  low1 : (t : ℕ) → t < T → 3 * t + 1 < 3 * T
  low1 t b = omega arith

  low2 : (t : ℕ) → t < T → 3 * t + 2 < 3 * T
  low2 t b = omega arith

  slot_low : (h : ℕ) → h < 3 * T → h / 3 < T
  slot_low h b = omega arith

  module _ (h g : ℕ) (hb : h < 3 * T) (gb : g < 3 * T) where
    f1 : List ℕ
    f1 = born w (h / 3) (flip_a m h g)

    f2 : List ℕ
    f2 = born f1 (g / 3) (flip_b m h g)

    f1_length : length f1 ≡ length w
    unfolding f1
    f1_length = born_length w (h / 3) (flip_a m h g)

    f2_length : length f2 ≡ length w
    unfolding f2
    f2_length = born_length f1 (g / 3) (flip_b m h g) ∙ f1_length

    flip_raw_lem : net_of f2 T ≡ flip_raw m h g
    unfolding f1 f2 flip_raw write
    flip_raw_lem =
        net_born f1 T (g / 3) (flip_b m h g) (let e = f1_length in let r = i.room in let s = slot_low g gb in omega arith)
        ∙ ap (λ (x : Net). write x (g / 3) (flip_b m h g)) (net_born w T (h / 3) (flip_a m h g) (let r = i.room in let s = slot_low h hb in omega arith))

    flip_list_lem : flip_list w h g ≡ tells m.adj (flip_moves h g) f2
    unfolding flip_list net_of f1 f2
    flip_list_lem = refl

    pub flip_net : net_of (flip_list w h g) T ≡ flip m h g
    unfolding flip flip_moves after net_of
    flip_net =
        ap (λ (u : List ℕ). net_of u T) flip_list_lem
        ∙ net_tells m.adj f2 T (flip_moves h g) (
          fits f2 f2_length (nxt g) (nxt_in g T gb),
          (
            fits f2 f2_length (prv h) (nxt_in (nxt h) T (nxt_in h T hb)),
            (fits f2 f2_length (prv g) (nxt_in (nxt g) T (nxt_in g T gb)), (fits f2 f2_length (nxt h) (nxt_in h T hb), tt)),
          ),
        )
        ∙ after_eq m (net_of f2 T) (flip_raw m h g) (flip_moves h g) flip_raw_lem

  module _ (t p : ℕ) (tb : t < T) (more : 16 * (T + 2) ≤ length w) where
    i1 : List ℕ
    i1 = born w t (in_a m t p)

    i2 : List ℕ
    i2 = born i1 T (in_b m t p)

    i3 : List ℕ
    i3 = born i2 (T + 1) (in_c m t p)

    i1_length : length i1 ≡ length w
    unfolding i1
    i1_length = born_length w t (in_a m t p)

    i2_length : length i2 ≡ length w
    unfolding i2
    i2_length = born_length i1 T (in_b m t p) ∙ i1_length

    i3_length : length i3 ≡ length w
    unfolding i3
    i3_length = born_length i2 (T + 1) (in_c m t p) ∙ i2_length

    inside_raw_lem : net_of i3 (T + 2) ≡ inside_raw m t p
    unfolding i1 i2 i3 inside_raw write grow net_of
    inside_raw_lem =
        net_born i2 (T + 2) (T + 1) (in_c m t p) (let e = i2_length in omega arith)
        ∙ ap (λ (x : Net). write x (T + 1) (in_c m t p)) (net_born i1 (T + 2) T (in_b m t p) (let e = i1_length in omega arith))
        ∙ ap (λ (x : Net). write (write x T (in_b m t p)) (T + 1) (in_c m t p)) (net_born w (T + 2) t (in_a m t p) (omega arith))

    inside_list_lem : inside_list w T t p ≡ tells m.adj (inside_moves m t) i3
    unfolding inside_list i1 i2 i3
    inside_list_lem = refl

    pub inside_net : net_of (inside_list w T t p) (T + 2) ≡ inside m t p
    unfolding inside inside_moves after net_of inside_raw grow
    inside_net =
        ap (λ (u : List ℕ). net_of u (T + 2)) inside_list_lem
        ∙ net_tells m.adj i3 (T + 2) (inside_moves m t)
        (fits i3 i3_length (3 * t) (low0 t tb), (fits i3 i3_length (3 * t + 1) (low1 t tb), (fits i3 i3_length (3 * t + 2) (low2 t tb), tt)))
        ∙ after_eq m (net_of i3 (T + 2)) (inside_raw m t p) (inside_moves m t) inside_raw_lem

  module _ (h p : ℕ) (hb : h < 3 * T) (more : 16 * (T + 1) ≤ length w) where
    s1 : List ℕ
    s1 = born w (h / 3) (side_a m h p)

    s2 : List ℕ
    s2 = born s1 T (side_b m h p)

    s1_length : length s1 ≡ length w
    unfolding s1
    s1_length = born_length w (h / 3) (side_a m h p)

    s2_length : length s2 ≡ length w
    unfolding s2
    s2_length = born_length s1 T (side_b m h p) ∙ s1_length

    side_raw_lem : net_of s2 (T + 1) ≡ side_raw m h p
    unfolding s1 s2 side_raw write grow net_of
    side_raw_lem =
        net_born s1 (T + 1) T (side_b m h p) (let e = s1_length in omega arith)
        ∙ ap (λ (x : Net). write x T (side_b m h p)) (net_born w (T + 1) (h / 3) (side_a m h p) (let s = slot_low h hb in omega arith))

    side_list_lem : side_list w T h p ≡ tells m.adj (side_moves m h) s2
    unfolding side_list s1 s2
    side_list_lem = refl

    pub side_net : net_of (side_list w T h p) (T + 1) ≡ side_split m h p
    unfolding side_split side_moves after net_of side_raw grow
    side_net =
        ap (λ (u : List ℕ). net_of u (T + 1)) side_list_lem
        ∙ net_tells m.adj s2 (T + 1) (side_moves m h)
        (fits s2 s2_length (prv h) (nxt_in (nxt h) T (nxt_in h T hb)), (fits s2 s2_length (nxt h) (nxt_in h T hb), tt))
        ∙ after_eq m (net_of s2 (T + 1)) (side_raw m h p) (side_moves m h) side_raw_lem

  module _ (h g p : ℕ) (hb : h < 3 * T) (gb : g < 3 * T) (more : 16 * (T + 2) ≤ length w) where
    e1 : List ℕ
    e1 = born w (h / 3) (edge_a m h g p)

    e2 : List ℕ
    e2 = born e1 T (edge_b m h g p)

    e3 : List ℕ
    e3 = born e2 (g / 3) (edge_c m h g p)

    e4 : List ℕ
    e4 = born e3 (T + 1) (edge_e m h g p)

    e1_length : length e1 ≡ length w
    unfolding e1
    e1_length = born_length w (h / 3) (edge_a m h g p)

    e2_length : length e2 ≡ length w
    unfolding e2
    e2_length = born_length e1 T (edge_b m h g p) ∙ e1_length

    e3_length : length e3 ≡ length w
    unfolding e3
    e3_length = born_length e2 (g / 3) (edge_c m h g p) ∙ e2_length

    e4_length : length e4 ≡ length w
    unfolding e4
    e4_length = born_length e3 (T + 1) (edge_e m h g p) ∙ e3_length

    edge_raw_lem : net_of e4 (T + 2) ≡ edge_raw m h g p
    unfolding e1 e2 e3 e4 edge_raw write grow net_of
    edge_raw_lem =
        net_born e3 (T + 2) (T + 1) (edge_e m h g p) (let e = e3_length in omega arith)
        ∙ ap (λ (x : Net). write x (T + 1) (edge_e m h g p)) (net_born e2 (T + 2) (g / 3) (edge_c m h g p) (let e = e2_length in let s = slot_low g gb in omega arith))
        ∙ ap (λ (x : Net). write (write x (g / 3) (edge_c m h g p)) (T + 1) (edge_e m h g p)) (net_born e1 (T + 2) T (edge_b m h g p) (let e = e1_length in omega arith))
        ∙ ap (λ (x : Net). write (write (write x T (edge_b m h g p)) (g / 3) (edge_c m h g p)) (T + 1) (edge_e m h g p))
        (net_born w (T + 2) (h / 3) (edge_a m h g p) (let s = slot_low h hb in omega arith))

    edge_list_lem : edge_list w T h g p ≡ tells m.adj (edge_moves m h g) e4
    unfolding edge_list e1 e2 e3 e4
    edge_list_lem = refl

    pub edge_net : net_of (edge_list w T h g p) (T + 2) ≡ edge_split m h g p
    unfolding edge_split edge_moves after net_of edge_raw grow
    edge_net =
        ap (λ (u : List ℕ). net_of u (T + 2)) edge_list_lem
        ∙ net_tells m.adj e4 (T + 2) (edge_moves m h g) (
          fits e4 e4_length (prv h) (nxt_in (nxt h) T (nxt_in h T hb)),
          (fits e4 e4_length (nxt h) (nxt_in h T hb), (fits e4 e4_length (prv g) (nxt_in (nxt g) T (nxt_in g T gb)), (fits e4 e4_length (nxt g) (nxt_in g T gb), tt))),
        )
        ∙ after_eq m (net_of e4 (T + 2)) (edge_raw m h g p) (edge_moves m h g) edge_raw_lem

-- ---- the numbers of a tiling are in range

pub tiling_range : {P : ℕ → Pt ℤ} {B : Side → Pt ℤ} {k : ℕ} (n : ℕ) (w : List ℕ) (T : ℕ) → Tiling P B k (net_of w T) → k ≤ n → 64 * n ≤ length w → T ≤ 2 * n → n ≤ 4096 → InRange T w
unfolding net_of
tiling_range n w T v kn room few small = record {
  corners = λ h b. (let l = v.corners h b in omega arith);
  partners = λ h b. low ((net_of w T).adj h) (λ g e. v.linked.low h g b e);
  room = omega arith;
  small = omega arith;
}
  where
    low : (a : ℕ) → ((g : ℕ) → a ≡ suc g → g < 3 * T) → a ≤ 3 * T
    low zero f = omega arith
    low (suc g) f = let l = f g refl in omega arith
