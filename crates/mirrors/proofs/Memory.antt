-- A leaf of the code is a leaf of the model: what the leaves write in the working area is what the model's changes do to its net. Assumes
-- nothing.
use mathlib.Core.Bool.{Bool, true, false, cond}
use mathlib.Core.List.{List}
use mathlib.Core.Path.{◌≡◌, refl, sym, ap, ◌∙◌, fun_ext}
use Prim.Native.Nat.{ℕ, zero, suc, ◌+◌, ◌*◌, ◌/◌, ◌%◌, ◌≤◌, ◌<◌}
use native.Mathlib.Omega.{arith}
use borrow.Author.Tests.{le-ltb}
use lib.Dec.{ltb}
use lib.IntN.{ℤ}
use lib.ListN.{length, get_or, set, length-set}
use lib.Seq.{get_or-set_same, get_or-set_other}
use Rattle.plane.specs.Base.{Side}
use Rattle.plane.specs.Halfedges.{nxt}
use Rattle.plane.specs.Points.{Pt}
use Rattle.nets.specs.Layout.{cell, net_of, tell, hint}
use Rattle.cavities.specs.Leaves.{put, put3, cut_net, drop_net, join_net, relink, park_net}
use Rattle.cavities.specs.Nets.{Net, World, Inv}
use Rattle.cavities.specs.Recovery.{Tops}
use Rattle.cavities.proofs.Leaves.{put_same, put_other}
use Rattle.cavities.proofs.Net.{clash}
use Rattle.bridges.specs.Images.{has_mate, mate_of, image}
use Rattle.chains.specs.Areas.{org, adj, con, chain_cell, slot_cell, move_w, join_w, cut_w}
use Rattle.chains.specs.Walks.{enter_w}
use Rattle.mirrors.specs.Models.{Ghost, model_of, ghost_of, park_g, drop_g, join_g, ends_g}
use Rattle.mirrors.proofs.Puts.{put_at, put_map, put_by, put_id, mix_above, mix_below3, mix_same, put3_nxt}

pub net_eq : (σ σ' : Net) → σ.live ≡ σ'.live → ((h : ℕ) → σ.org h ≡ σ'.org h) → ((h : ℕ) → σ.dst h ≡ σ'.dst h) → ((h : ℕ) → σ.mark h ≡ σ'.mark h)
    → ((h : ℕ) → σ.has h ≡ σ'.has h) → ((h : ℕ) → σ.mate h ≡ σ'.mate h) → σ.side ≡ σ'.side → σ ≡ σ'
net_eq σ σ' l o d m a e s = λ i. record { live = l i; org = fun_ext o i; dst = fun_ext d i; mark = fun_ext m i; has = fun_ext a i; mate = fun_ext e i; side = s i }

-- ---- cells

cell_inj : (f h v : ℕ) → cell f h ≡ cell f v → h ≡ v
unfolding cell
cell_inj f h v e = omega arith

pub cell_low : (n f h : ℕ) → f ≤ 6 → h < 12 * n → cell f h < 64 * n
unfolding cell
cell_low n f h l k = omega arith

-- fields are three numbers wide
cell_off : (f g h v : ℕ) → f + 3 ≤ g → g ≤ 13 → ¬ (cell f h ≡ cell g v)
unfolding cell
cell_off f g h v l k e = omega arith

cell_up : (f g h v : ℕ) → f + 3 ≤ g → g ≤ 13 → ¬ (cell g h ≡ cell f v)
cell_up f g h v l k e = cell_off f g v h l k (sym e)

cell_aside : (f h c : ℕ) → f ≤ 6 → 9 ≤ c % 16 → ¬ (cell f h ≡ c)
unfolding cell
cell_aside f h c l k e = omega arith

set_put : (w : List ℕ) (f v a h : ℕ) → cell f v < length w → get_or (set w (cell f v) a) (cell f h) 0 ≡ put (λ x. get_or w (cell f x) 0) v a h
set_put w f v a h l =
    put_at (λ x. get_or w (cell f x) 0) v a (λ x. get_or (set w (cell f v) a) (cell f x) 0) h
    (λ e. ap (λ (x : ℕ). get_or (set w (cell f v) a) (cell f x) 0) e ∙ get_or-set_same w (cell f v) a 0 l)
    (λ n. get_or-set_other w (cell f v) (cell f h) a 0 (λ e. n (cell_inj f h v e)))

-- ---- the partner is told

tell_length : (m v : ℕ) (w : List ℕ) → length (tell m v w) ≡ length w
unfolding tell
tell_length zero v w = refl
tell_length (suc y) v w = length-set w (cell 3 y) (suc v)

tell_off : (m v : ℕ) (w : List ℕ) (c : ℕ) → ((y : ℕ) → ¬ (c ≡ cell 3 y)) → get_or (tell m v w) c 0 ≡ get_or w c 0
unfolding tell
tell_off zero v w c n = refl
tell_off (suc y) v w c n = get_or-set_other w (cell 3 y) c (suc v) 0 (n y)

tell_has : (n m v : ℕ) (w : List ℕ) → m ≤ 12 * n → 64 * n ≤ length w → ((y : ℕ) → m ≡ suc y → has_mate (adj w y) ≡ true) → (h : ℕ) → has_mate (adj (tell m v w) h) ≡ has_mate (adj w h)
unfolding tell
tell_has n zero v w l k p h = refl
tell_has n (suc y) v w l k p h =
    let d = cell_low n 3 y (omega arith) (omega arith) in
    ap has_mate (set_put w 3 y (suc v) h (omega arith)) ∙ put_map has_mate (λ x. adj w x) y (suc v) h ∙ sym (put_id (λ x. has_mate (adj w x)) y true h (p y refl))

tell_mate : (n m v : ℕ) (w : List ℕ) → m ≤ 12 * n → 64 * n ≤ length w → (h : ℕ) → mate_of (adj (tell m v w) h) ≡ cond (has_mate m) (put (λ x. mate_of (adj w x)) (mate_of m) v) (λ x. mate_of (adj w x)) h
unfolding tell
tell_mate n zero v w l k h = refl
tell_mate n (suc y) v w l k h =
    let d = cell_low n 3 y (omega arith) (omega arith) in
    ap mate_of (set_put w 3 y (suc v) h (omega arith)) ∙ put_map mate_of (λ x. adj w x) y (suc v) h

-- ---- move

pub move_length : (w : List ℕ) (o v : ℕ) → length (move_w w o v) ≡ length w
unfolding move_w
move_length w o v = length-set (set (tell (adj w o) v w) (cell 3 v) (adj w o)) (cell 6 v) (con w o) ∙ length-set (tell (adj w o) v w) (cell 3 v) (adj w o) ∙ tell_length (adj w o) v w

module _ (n : ℕ) (w : List ℕ) (o v : ℕ) (long : 64 * n ≤ length w) (v_low : v < 12 * n) (fits : adj w o ≤ 12 * n) (back : (y : ℕ) → adj w o ≡ suc y → has_mate (adj w y) ≡ true) where
  wt : List ℕ
  wt = tell (adj w o) v w

  move_org : (h : ℕ) → org (move_w w o v) h ≡ org w h
  unfolding move_w
  move_org h =
      get_or-set_other (set (tell (adj w o) v w) (cell 3 v) (adj w o)) (cell 6 v) (cell 0 h) (con w o) 0 (cell_off 0 6 h v (omega arith) (omega arith)) ∙
      get_or-set_other (tell (adj w o) v w) (cell 3 v) (cell 0 h) (adj w o) 0 (cell_off 0 3 h v (omega arith) (omega arith)) ∙
      tell_off (adj w o) v w (cell 0 h) (λ y. cell_off 0 3 h y (omega arith) (omega arith))

  move_adj : (h : ℕ) → adj (move_w w o v) h ≡ put (λ x. adj wt x) v (adj w o) h
  unfolding move_w wt
  move_adj h =
      get_or-set_other (set (tell (adj w o) v w) (cell 3 v) (adj w o)) (cell 6 v) (cell 3 h) (con w o) 0 (cell_off 3 6 h v (omega arith) (omega arith)) ∙
      set_put (tell (adj w o) v w) 3 v (adj w o) h (rw (tell_length (adj w o) v w) (let d = cell_low n 3 v (omega arith) v_low in omega arith))

  move_con : (h : ℕ) → con (move_w w o v) h ≡ put (λ x. con w x) v (con w o) h
  unfolding move_w
  move_con h =
      set_put (set (tell (adj w o) v w) (cell 3 v) (adj w o)) 6 v (con w o) h (rw (length-set, tell_length) (let d = cell_low n 6 v (omega arith) v_low in omega arith)) ∙
      put_by (λ x. con (set (tell (adj w o) v w) (cell 3 v) (adj w o)) x) (λ x. con w x) v (con w o) h
      (λ x. get_or-set_other (tell (adj w o) v w) (cell 3 v) (cell 6 x) (adj w o) 0 (cell_up 3 6 x v (omega arith) (omega arith)) ∙
      tell_off (adj w o) v w (cell 6 x) (λ y. cell_up 3 6 x y (omega arith) (omega arith)))

  move_has : (h : ℕ) → has_mate (adj (move_w w o v) h) ≡ put (λ x. has_mate (adj w x)) v (has_mate (adj w o)) h
  unfolding wt
  move_has h =
      ap has_mate (move_adj h) ∙ put_map has_mate (λ x. adj wt x) v (adj w o) h ∙
      put_by (λ x. has_mate (adj wt x)) (λ x. has_mate (adj w x)) v (has_mate (adj w o)) h (tell_has n (adj w o) v w fits long back)

  abbrev linked : ℕ → ℕ
  linked = cond (has_mate (adj w o)) (put (λ x. mate_of (adj w x)) (mate_of (adj w o)) v) (λ x. mate_of (adj w x))

  move_mate : (h : ℕ) → mate_of (adj (move_w w o v) h) ≡ put linked v (mate_of (adj w o)) h
  unfolding wt
  move_mate h =
      ap mate_of (move_adj h) ∙ put_map mate_of (λ x. adj wt x) v (adj w o) h ∙
      put_by (λ x. mate_of (adj wt x)) linked v (mate_of (adj w o)) h (tell_mate n (adj w o) v w fits long)

  -- Half-edge o moves to v. The ends of a half-edge of a triangle stand in the area, and are those of o already.
  pub model_move : (G : Ghost) → (v < 6 * n → (model_of n w G).org v ≡ (model_of n w G).org o) → (v < 6 * n → (model_of n w G).dst v ≡ (model_of n w G).dst o)
      → model_of n (move_w w o v) (park_g n w G o v) ≡ park_net (model_of n w G) o v
  unfolding model_of park_g park_net relink
  model_move G eo ed =
      net_eq (model_of n (move_w w o v) (park_g n w G o v)) (park_net (model_of n w G) o v) refl
      (λ h. ap (λ (x : ℕ). cond (ltb h (6 * n)) x (put G.from v ((model_of n w G).org o) h)) (move_org h) ∙ mix_above (6 * n) (λ x. org w x) G.from v ((model_of n w G).org o) h eo)
      (λ h. ap (λ (x : ℕ). cond (ltb h (6 * n)) x (put G.to v ((model_of n w G).dst o) h)) (move_org (nxt h)) ∙ mix_above (6 * n) (λ x. org w (nxt x)) G.to v ((model_of n w G).dst o) h ed)
      move_con move_has move_mate refl

  -- a parked half-edge brings its ends along
  pub model_park : (G : Ghost) → 6 * n ≤ v → model_of n (move_w w o v) (park_g n w G o v) ≡ park_net (model_of n w G) o v
  model_park G l = model_move G (λ k. omega arith) (λ k. omega arith)

-- ---- join

pub join_length : (w : List ℕ) (x y : ℕ) → length (join_w w x y) ≡ length w
unfolding join_w
join_length w x y = simp length-set

module _ (n : ℕ) (w : List ℕ) (x y : ℕ) (long : 64 * n ≤ length w) (x-low : x < 12 * n) (y-low : y < 12 * n) where
  a1 : List ℕ
  a1 = set w (cell 3 x) (suc y)

  a2 : List ℕ
  a2 = set a1 (cell 6 x) 0

  a3 : List ℕ
  a3 = set a2 (cell 3 y) (suc x)

  long2 : 64 * n ≤ length a2
  unfolding a1 a2
  long2 = rw (length-set, length-set) long

  long3 : 64 * n ≤ length a3
  unfolding a3
  long3 = rw length-set long2

  join_is : join_w w x y ≡ set a3 (cell 6 y) 0
  unfolding join_w a1 a2 a3
  join_is = refl

  join_org : (h : ℕ) → org (join_w w x y) h ≡ org w h
  unfolding a1 a2 a3
  join_org h =
      ap (λ (u : List ℕ). org u h) join_is ∙ get_or-set_other a3 (cell 6 y) (cell 0 h) 0 0 (cell_off 0 6 h y (omega arith) (omega arith)) ∙
      get_or-set_other a2 (cell 3 y) (cell 0 h) (suc x) 0 (cell_off 0 3 h y (omega arith) (omega arith)) ∙
      get_or-set_other a1 (cell 6 x) (cell 0 h) 0 0 (cell_off 0 6 h x (omega arith) (omega arith)) ∙
      get_or-set_other w (cell 3 x) (cell 0 h) (suc y) 0 (cell_off 0 3 h x (omega arith) (omega arith))

  join_adj : (h : ℕ) → adj (join_w w x y) h ≡ put (put (λ z. adj w z) x (suc y)) y (suc x) h
  unfolding a1 a2 a3
  join_adj h =
      ap (λ (u : List ℕ). adj u h) join_is ∙ get_or-set_other a3 (cell 6 y) (cell 3 h) 0 0 (cell_off 3 6 h y (omega arith) (omega arith)) ∙
      set_put a2 3 y (suc x) h (let l = long2 in let d = cell_low n 3 y (omega arith) y-low in omega arith) ∙
      put_by (λ z. adj a2 z) (put (λ z. adj w z) x (suc y)) y (suc x) h
      (λ z. get_or-set_other a1 (cell 6 x) (cell 3 z) 0 0 (cell_off 3 6 z x (omega arith) (omega arith)) ∙
      set_put w 3 x (suc y) z (let d = cell_low n 3 x (omega arith) x-low in omega arith))

  join_con : (h : ℕ) → con (join_w w x y) h ≡ put (put (λ z. con w z) x 0) y 0 h
  unfolding a1 a2 a3
  join_con h =
      ap (λ (u : List ℕ). con u h) join_is ∙ set_put a3 6 y 0 h (let l = long3 in let d = cell_low n 6 y (omega arith) y-low in omega arith) ∙
      put_by (λ z. con a3 z) (put (λ z. con w z) x 0) y 0 h
      (λ z. get_or-set_other a2 (cell 3 y) (cell 6 z) (suc x) 0 (cell_up 3 6 z y (omega arith) (omega arith)) ∙
      set_put a1 6 x 0 z (rw length-set (let d = cell_low n 6 x (omega arith) x-low in omega arith)) ∙
      put_by (λ u. con a1 u) (λ u. con w u) x 0 z (λ u. get_or-set_other w (cell 3 x) (cell 6 u) (suc y) 0 (cell_up 3 6 u x (omega arith) (omega arith))))

  put2_map : {B : Type 0} (g : ℕ → B) (h : ℕ) → g (put (put (λ z. adj w z) x (suc y)) y (suc x) h) ≡ put (put (λ z. g (adj w z)) x (g (suc y))) y (g (suc x)) h
  put2_map g h =
      put_map g (put (λ z. adj w z) x (suc y)) y (suc x) h ∙
      put_by (λ z. g (put (λ u. adj w u) x (suc y) z)) (put (λ u. g (adj w u)) x (g (suc y))) y (g (suc x)) h (λ z. put_map g (λ u. adj w u) x (suc y) z)

  pub model_join : (G : Ghost) → model_of n (join_w w x y) (join_g G x y) ≡ join_net (model_of n w G) x y
  unfolding model_of join_g join_net
  model_join G =
      net_eq (model_of n (join_w w x y) (join_g G x y)) (join_net (model_of n w G) x y) refl
      (λ h. ap (λ (z : ℕ). cond (ltb h (6 * n)) z (G.from h)) (join_org h)) (λ h. ap (λ (z : ℕ). cond (ltb h (6 * n)) z (G.to h)) (join_org (nxt h))) join_con
      (λ h. ap has_mate (join_adj h) ∙ put2_map has_mate h) (λ h. ap mate_of (join_adj h) ∙ put2_map mate_of h) refl

-- ---- drop

pub model_drop : (n : ℕ) (w : List ℕ) (G : Ghost) (x y : ℕ) → model_of n w (drop_g G x y) ≡ drop_net (model_of n w G) x y
unfolding model_of drop_g drop_net
model_drop n w G x y = refl

-- ---- stores that meet no cell

aside : (w : List ℕ) (c x f h : ℕ) → f ≤ 6 → 9 ≤ c % 16 → get_or (set w c x) (cell f h) 0 ≡ get_or w (cell f h) 0
aside w c x f h l k = get_or-set_other w c (cell f h) x 0 (cell_aside f h c l k)

pub model_aside : (n : ℕ) (w : List ℕ) (G : Ghost) (c x : ℕ) → 9 ≤ c % 16 → model_of n (set w c x) G ≡ model_of n w G
unfolding model_of
model_aside n w G c x k =
    net_eq (model_of n (set w c x) G) (model_of n w G) refl (λ h. ap (λ (z : ℕ). cond (ltb h (6 * n)) z (G.from h)) (aside w c x 0 h (omega arith) k))
    (λ h. ap (λ (z : ℕ). cond (ltb h (6 * n)) z (G.to h)) (aside w c x 0 (nxt h) (omega arith) k)) (λ h. aside w c x 6 h (omega arith) k) (λ h. ap has_mate (aside w c x 3 h (omega arith) k))
    (λ h. ap mate_of (aside w c x 3 h (omega arith) k)) refl

-- ---- cut

pub cut_length : (w : List ℕ) (s a b c : ℕ) → length (cut_w w s a b c) ≡ length w
unfolding cut_w hint
cut_length w s a b c = simp length-set

module _ (n : ℕ) (w : List ℕ) (s a b c : ℕ) (long : 64 * n ≤ length w) (s_low : 3 * s + 2 < 6 * n) where
  b1 : List ℕ
  b1 = set w (16 * s) a

  b2 : List ℕ
  b2 = set b1 (16 * s + 1) b

  b3 : List ℕ
  b3 = set b2 (16 * s + 2) c

  at0 : 16 * s ≡ cell 0 (3 * s)
  unfolding cell
  at0 = omega arith

  at1 : 16 * s + 1 ≡ cell 0 (3 * s + 1)
  unfolding cell
  at1 = omega arith

  at2 : 16 * s + 2 ≡ cell 0 (3 * s + 2)
  unfolding cell
  at2 = omega arith

  low : (h : ℕ) → h < 6 * n → cell 0 h < length w
  low h l = let d = cell_low n 0 h (omega arith) (omega arith) in omega arith

  b3_org : (h : ℕ) → org b3 h ≡ put3 (λ x. org w x) s a b c h
  unfolding b1 b2 b3 put3
  b3_org h =
      ap (λ (z : ℕ). org (set b2 z c) h) at2 ∙ set_put b2 0 (3 * s + 2) c h (rw (length-set, length-set) (low (3 * s + 2) s_low)) ∙
      put_by (λ x. org b2 x) (put (put (λ x. org w x) (3 * s) a) (3 * s + 1) b) (3 * s + 2) c h
      (λ x. ap (λ (z : ℕ). org (set b1 z b) x) at1 ∙ set_put b1 0 (3 * s + 1) b x (rw length-set (low (3 * s + 1) (omega arith))) ∙
      put_by (λ y. org b1 y) (put (λ y. org w y) (3 * s) a) (3 * s + 1) b x
      (λ y. ap (λ (z : ℕ). org (set w z a) y) at0 ∙ set_put w 0 (3 * s) a y (low (3 * s) (omega arith))))

  cell_16 : (f g h : ℕ) → g < 3 → 3 ≤ f → f ≤ 6 → ¬ (cell f h ≡ 16 * s + g)
  unfolding cell
  cell_16 f g h k l m e = omega arith

  b3_other : (f h : ℕ) → 3 ≤ f → f ≤ 6 → get_or b3 (cell f h) 0 ≡ get_or w (cell f h) 0
  unfolding b1 b2 b3
  b3_other f h l m =
      get_or-set_other b2 (16 * s + 2) (cell f h) c 0 (cell_16 f 2 h (omega arith) l m) ∙ get_or-set_other b1 (16 * s + 1) (cell f h) b 0 (cell_16 f 1 h (omega arith) l m) ∙
      get_or-set_other w (16 * s) (cell f h) a 0 (λ e. cell_16 f 0 h (omega arith) l m (let z : cell f h ≡ 16 * s + 0 = omega arith in z))

  hint_aside : (v : ℕ) → 9 ≤ (16 * v + 12) % 16
  hint_aside v = omega arith

  corners : (G : Ghost) → model_of n b3 G ≡ cut_net (model_of n w G) s a b c
  unfolding model_of cut_net
  corners G =
      net_eq (model_of n b3 G) (cut_net (model_of n w G) s a b c) refl
      (λ h. ap (λ (z : ℕ). cond (ltb h (6 * n)) z (G.from h)) (b3_org h) ∙ mix_below3 (6 * n) (λ x. org w x) G.from s a b c h s_low)
      (λ h. ap (λ (z : ℕ). cond (ltb h (6 * n)) z (G.to h)) (b3_org (nxt h) ∙ put3_nxt (λ x. org w x) s a b c h) ∙ mix_below3 (6 * n) (λ x. org w (nxt x)) G.to s b c a h s_low)
      (λ h. b3_other 6 h (omega arith) (omega arith)) (λ h. ap has_mate (b3_other 3 h (omega arith) (omega arith))) (λ h. ap mate_of (b3_other 3 h (omega arith) (omega arith))) refl

  -- the slot s gets its corners; what else is written, the model does not see
  pub model_cut : (G : Ghost) → model_of n (cut_w w s a b c) G ≡ cut_net (model_of n w G) s a b c
  unfolding cut_w hint b1 b2 b3
  model_cut G =
      model_aside n (set (set b3 (16 * a + 12) s) (16 * b + 12) s) G (16 * c + 12) s (hint_aside c) ∙
      model_aside n (set b3 (16 * a + 12) s) G (16 * b + 12) s (hint_aside b) ∙ model_aside n b3 G (16 * a + 12) s (hint_aside a) ∙ corners G

-- ---- a triangle is entered

module _ (n : ℕ) (w : List ℕ) (k y o g e c : ℕ) (long : 64 * n ≤ length w) (v_low : 6 * n + g < 12 * n) (fits : adj w o ≤ 12 * n) (back : (z : ℕ) → adj w o ≡ suc z → has_mate (adj w z) ≡ true) where
  slotted : List ℕ
  slotted = set w (slot_cell n k) (y / 3)

  slot_aside : (n k : ℕ) → 9 ≤ (16 * (2 * n + k) + 10) % 16
  slot_aside n k = omega arith

  chain_aside : (n e : ℕ) → 9 ≤ (16 * (2 * n + e) + 9) % 16
  chain_aside n e = omega arith

  same_adj : (h : ℕ) → adj slotted h ≡ adj w h
  unfolding slotted
  same_adj h = aside w (slot_cell n k) (y / 3) 3 h (omega arith) (slot_aside n k)

  same_park : (G : Ghost) → park_g n slotted G o (6 * n + g) ≡ park_g n w G o (6 * n + g)
  unfolding park_g slotted
  same_park G =
      let q = model_aside n w G (slot_cell n k) (y / 3) (slot_aside n k) in
      λ i. record {
        live = put (put G.live o false) (6 * n + g) true;
        from = put G.from (6 * n + g) ((q i).org o);
        to = put G.to (6 * n + g) ((q i).dst o);
        side = put G.side (6 * n + g) (G.side o);
      }

  slotted_long : 64 * n ≤ length slotted
  unfolding slotted
  slotted_long = rw length-set long

  slotted_back : (z : ℕ) → adj slotted o ≡ suc z → has_mate (adj slotted z) ≡ true
  slotted_back z q = ap has_mate (same_adj z) ∙ back z (sym (same_adj o) ∙ q)

  -- the walk's stores of a slot and of a corner are no part of the net
  pub model_enter : (G : Ghost) → model_of n (enter_w n w k y o g e c) (park_g n w G o (6 * n + g)) ≡ park_net (model_of n w G) o (6 * n + g)
  unfolding enter_w slotted
  model_enter G =
      model_aside n (move_w slotted o (6 * n + g)) (park_g n w G o (6 * n + g)) (chain_cell n e) c (chain_aside n e) ∙
      ap (λ (H : Ghost). model_of n (move_w slotted o (6 * n + g)) H) (sym (same_park G)) ∙
      model_park n slotted o (6 * n + g) slotted_long v_low (rw (same_adj o) fits) slotted_back G (omega arith) ∙
      ap (λ (σ : Net). park_net σ o (6 * n + g)) (model_aside n w G (slot_cell n k) (y / 3) (slot_aside n k))

-- ---- the start

pub model_start : (P : ℕ → Pt ℤ) (B : Side → Pt ℤ) (n : ℕ) (w : List ℕ) (t : ℕ) → model_of n w (ghost_of P B w t) ≡ image P B (net_of w t)
unfolding model_of ghost_of image net_of
model_start P B n w t =
    net_eq (model_of n w (ghost_of P B w t)) (image P B (net_of w t)) refl (λ h. mix_same (6 * n) (org w h) h) (λ h. mix_same (6 * n) (org w (nxt h)) h) (λ h. refl) (λ h. refl) (λ h. refl) refl

-- ---- the two half-edges above the roots get their ends

above : (n h x y : ℕ) → 6 * n ≤ h → cond (ltb h (6 * n)) x y ≡ y
above n h x y l = ap (λ (b : Bool). cond b x y) (le-ltb h (6 * n) l)

pub model_tops : (n : ℕ) (w : List ℕ) (G : Ghost) (a b : ℕ) → G.live (8 * n) ≡ false → G.live (8 * n + 1) ≡ false
    → Tops (model_of n w G) (model_of n w (ends_g (ends_g G (8 * n) b a) (8 * n + 1) a b)) (8 * n) (8 * n + 1) a b
unfolding model_of ends_g
model_tops n w G a b dl dr = record {
  wrote = record {
    live = λ h. refl;
    same = λ h l. record {
      org = away (λ x. org w x) G.from b a h (not_l h l) (not_r h l);
      dst = away (λ x. org w (nxt x)) G.to a b h (not_l h l) (not_r h l);
      mark = refl;
      has = refl;
      mate = refl;
      side = refl;
    };
  };
  left_org = above n (8 * n) (org w (8 * n)) (put (put G.from (8 * n) b) (8 * n + 1) a (8 * n)) (omega arith) ∙ left G.from b a;
  left_dst = above n (8 * n) (org w (nxt (8 * n))) (put (put G.to (8 * n) a) (8 * n + 1) b (8 * n)) (omega arith) ∙ left G.to a b;
  right_org = above n (8 * n + 1) (org w (8 * n + 1)) (put (put G.from (8 * n) b) (8 * n + 1) a (8 * n + 1)) (omega arith) ∙ put_same (put G.from (8 * n) b) (8 * n + 1) a;
  right_dst = above n (8 * n + 1) (org w (nxt (8 * n + 1))) (put (put G.to (8 * n) a) (8 * n + 1) b (8 * n + 1)) (omega arith) ∙ put_same (put G.to (8 * n) a) (8 * n + 1) b;
  org = λ h p q. away (λ x. org w x) G.from b a h p q;
  dst = λ h p q. away (λ x. org w (nxt x)) G.to a b h p q;
}
  where
    not_l : (h : ℕ) → G.live h ≡ true → ¬ (h ≡ 8 * n)
    not_l h l e = clash l (ap G.live e ∙ dl)

    not_r : (h : ℕ) → G.live h ≡ true → ¬ (h ≡ 8 * n + 1)
    not_r h l e = clash l (ap G.live e ∙ dr)

    left : (f : ℕ → ℕ) (x y : ℕ) → put (put f (8 * n) x) (8 * n + 1) y (8 * n) ≡ x
    left f x y = put_other (put f (8 * n) x) (8 * n + 1) y (8 * n) (λ e. omega arith) ∙ put_same f (8 * n) x

    away : (g f : ℕ → ℕ) (x y h : ℕ) → ¬ (h ≡ 8 * n) → ¬ (h ≡ 8 * n + 1) → cond (ltb h (6 * n)) (g h) (put (put f (8 * n) x) (8 * n + 1) y h) ≡ cond (ltb h (6 * n)) (g h) (f h)
    away g f x y h p q = ap (λ (z : ℕ). cond (ltb h (6 * n)) (g h) z) (put_other (put f (8 * n) x) (8 * n + 1) y h q ∙ put_other f (8 * n) x h p)

-- ---- what a live half-edge's partner is, in the area

pub has_suc : (m : ℕ) → has_mate m ≡ true → m ≡ suc (mate_of m)
has_suc zero e = clash refl (sym e)
has_suc (suc m) e = refl

module _ (W : World) (n : ℕ) (w : List ℕ) (G : Ghost) (inv : Inv W (model_of n w G)) (o : ℕ) (lo : G.live o ≡ true) where
  pub live_low : o < W.bound
  unfolding model_of
  live_low = inv.below o lo

  pub adj_back : (y : ℕ) → adj w o ≡ suc y → has_mate (adj w y) ≡ true
  unfolding model_of
  adj_back y e = ap (λ (x : ℕ). has_mate (adj w (mate_of x))) (sym e) ∙ ((inv.good o lo).mated (ap has_mate e)).has

  pub adj_fits : adj w o ≤ W.bound
  unfolding model_of
  adj_fits = go (adj w o) refl
    where
      go : (m : ℕ) → adj w o ≡ m → m ≤ W.bound
      go zero e = omega arith
      go (suc y) e = let l = inv.below (mate_of (adj w o)) ((inv.good o lo).mated (ap has_mate e)).live in let q : mate_of (adj w o) ≡ y = ap mate_of e in omega arith
