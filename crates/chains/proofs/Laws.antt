-- The laws of the leaves: what stands in the working area after each of them, and that the area stays sound. Assumes nothing.
use mathlib.Core.List.{List}
use mathlib.Core.Path.{◌≡◌, refl, sym, ap, ◌∙◌, fun_ext}
use Prim.Native.Nat.{ℕ, zero, suc, ◌+◌, ◌*◌, ◌/◌, ◌%◌, ◌≤◌, ◌<◌}
use native.Mathlib.Decide.{ℕ_discrete}
use native.Mathlib.Omega.{arith}
use lib.ListN.{length, get_or, set, length-set}
use lib.Seq.{get_or-set_same, get_or-set_other}
use Rattle.nets.specs.Layout.{cell, tell, hint, hint_cell}
use Rattle.cavities.specs.Leaves.{put, put3}
use Rattle.cavities.proofs.Leaves.{put_same, put_other}
use Rattle.chains.specs.Areas.{org, adj, con, chain_cell, slot_cell, move_w, join_w, cut_w, mark_w}

-- ---- the cells

pub cell_inj : (f h q : ℕ) → cell f h ≡ cell f q → h ≡ q
unfolding cell
cell_inj f h q e = omega arith

-- fields that are three apart never meet
pub cell_apart : (f g h q : ℕ) → f + 3 ≤ g → g ≤ 13 → ¬ (cell f h ≡ cell g q)
unfolding cell
cell_apart f g h q l b e = omega arith

pub cell_away : (f g h q : ℕ) → g + 3 ≤ f → f ≤ 13 → ¬ (cell f h ≡ cell g q)
unfolding cell
cell_away f g h q l b e = omega arith

-- a place that is no cell
pub cell_off : (f h c : ℕ) → f ≤ 6 → 9 ≤ c % 16 → ¬ (cell f h ≡ c)
unfolding cell
cell_off f h c l k e = omega arith

pub off_cell : (f h c : ℕ) → f ≤ 6 → 9 ≤ c % 16 → ¬ (c ≡ cell f h)
unfolding cell
off_cell f h c l k e = omega arith

pub cell_low : (f h n : ℕ) → f ≤ 6 → h < 12 * n → cell f h < 64 * n
unfolding cell
cell_low f h n l k = omega arith

pub row_low : (h n : ℕ) → h < 12 * n → 16 * (h / 3) + 16 ≤ 64 * n
row_low h n k = omega arith

-- a number above is no cell
pub above_cell : (f h n c : ℕ) → f ≤ 6 → h < 12 * n → 64 * n ≤ c → ¬ (c ≡ cell f h)
unfolding cell
above_cell f h n c l k b e = omega arith

pub cell_0 : (s : ℕ) → cell 0 (3 * s) ≡ 16 * s
unfolding cell
cell_0 s = omega arith

pub cell_1 : (s : ℕ) → cell 0 (3 * s + 1) ≡ 16 * s + 1
unfolding cell
cell_1 s = omega arith

pub cell_2 : (s : ℕ) → cell 0 (3 * s + 2) ≡ 16 * s + 2
unfolding cell
cell_2 s = omega arith

pub chain_mod : (n x : ℕ) → 9 ≤ chain_cell n x % 16
chain_mod n x = omega arith

pub slot_mod : (n y : ℕ) → 9 ≤ slot_cell n y % 16
slot_mod n y = omega arith

pub hint_mod : (v : ℕ) → 9 ≤ hint_cell v % 16
hint_mod v = omega arith

-- ---- a function with one place changed

pub put_by : {A : Type 0} (f f' : ℕ → A) (k : ℕ) (a : A) (h : ℕ) → ((x : ℕ) → f x ≡ f' x) → put f k a h ≡ put f' k a h
put_by f f' k a h e = ap (λ (g : ℕ → _). put g k a h) (fun_ext e)

-- a cell written
pub set_put : (w : List ℕ) (f v a h : ℕ) → cell f v < length w → get_or (set w (cell f v) a) (cell f h) 0 ≡ put (λ x. get_or w (cell f x) 0) v a h
set_put w f v a h l = go (ℕ_discrete h v)
  where
    go : Dec (h ≡ v) → get_or (set w (cell f v) a) (cell f h) 0 ≡ put (λ x. get_or w (cell f x) 0) v a h
    go (yes e) =
        ap (λ (x : ℕ). get_or (set w (cell f v) a) (cell f x) 0) e ∙ get_or-set_same w (cell f v) a 0 l
        ∙ sym (put_same (λ x. get_or w (cell f x) 0) v a) ∙ ap (put (λ x. get_or w (cell f x) 0) v a) (sym e)
    go (no n) = get_or-set_other w (cell f v) (cell f h) a 0 (λ e. n (cell_inj f h v e)) ∙ sym (put_other (λ x. get_or w (cell f x) 0) v a h n)

-- one of another field written, and a place that is no cell
pub set_up : (w : List ℕ) (f g v a h : ℕ) → f + 3 ≤ g → g ≤ 13 → get_or (set w (cell g v) a) (cell f h) 0 ≡ get_or w (cell f h) 0
set_up w f g v a h l b = get_or-set_other w (cell g v) (cell f h) a 0 (cell_apart f g h v l b)

pub set_down : (w : List ℕ) (f g v a h : ℕ) → g + 3 ≤ f → f ≤ 13 → get_or (set w (cell g v) a) (cell f h) 0 ≡ get_or w (cell f h) 0
set_down w f g v a h l b = get_or-set_other w (cell g v) (cell f h) a 0 (cell_away f g h v l b)

pub set_beside : (w : List ℕ) (f c a h : ℕ) → f ≤ 6 → 9 ≤ c % 16 → get_or (set w c a) (cell f h) 0 ≡ get_or w (cell f h) 0
set_beside w f c a h l b = get_or-set_other w c (cell f h) a 0 (cell_off f h c l b)

-- ---- lengths

pub tell_length : (m v : ℕ) (w : List ℕ) → length (tell m v w) ≡ length w
unfolding tell
tell_length zero v w = refl
tell_length (suc m) v w = length-set w (cell 3 m) (suc v)

pub move_length : (w : List ℕ) (o v : ℕ) → length (move_w w o v) ≡ length w
unfolding move_w
move_length w o v = simp length-set (tell_length (adj w o) v w)

pub join_length : (w : List ℕ) (x y : ℕ) → length (join_w w x y) ≡ length w
unfolding join_w
join_length w x y = simp length-set

pub cut_length : (w : List ℕ) (s a b c : ℕ) → length (cut_w w s a b c) ≡ length w
unfolding cut_w hint
cut_length w s a b c = simp length-set

pub mark_length : (w : List ℕ) (h m : ℕ) → length (mark_w w h m) ≡ length w
unfolding mark_w
mark_length w h zero = length-set w (cell 6 h) 1
mark_length w h (suc g) = simp length-set

-- ---- a number that is none of those written

pub tell_off : (m v : ℕ) (w : List ℕ) (x : ℕ) → ((k : ℕ) → m ≡ suc k → ¬ (x ≡ cell 3 k)) → get_or (tell m v w) x 0 ≡ get_or w x 0
unfolding tell
tell_off zero v w x n = refl
tell_off (suc m) v w x n = get_or-set_other w (cell 3 m) x (suc v) 0 (n m refl)

pub move_off : (w : List ℕ) (o v x : ℕ) → ((k : ℕ) → adj w o ≡ suc k → ¬ (x ≡ cell 3 k)) → ¬ (x ≡ cell 3 v) → ¬ (x ≡ cell 6 v) → get_or (move_w w o v) x 0 ≡ get_or w x 0
unfolding move_w
move_off w o v x n p q =
    get_or-set_other (set (tell (adj w o) v w) (cell 3 v) (adj w o)) (cell 6 v) x (con w o) 0 q
    ∙ get_or-set_other (tell (adj w o) v w) (cell 3 v) x (adj w o) 0 p ∙ tell_off (adj w o) v w x n

pub join_off : (w : List ℕ) (x y z : ℕ) → ¬ (z ≡ cell 3 x) → ¬ (z ≡ cell 6 x) → ¬ (z ≡ cell 3 y) → ¬ (z ≡ cell 6 y) → get_or (join_w w x y) z 0 ≡ get_or w z 0
unfolding join_w
join_off w x y z a b c d =
    get_or-set_other (set (set (set w (cell 3 x) (suc y)) (cell 6 x) 0) (cell 3 y) (suc x)) (cell 6 y) z 0 0 d
    ∙ get_or-set_other (set (set w (cell 3 x) (suc y)) (cell 6 x) 0) (cell 3 y) z (suc x) 0 c
    ∙ get_or-set_other (set w (cell 3 x) (suc y)) (cell 6 x) z 0 0 b ∙ get_or-set_other w (cell 3 x) z (suc y) 0 a

-- the corners alone, without the hints
unfoldable pub cor_w : List ℕ → ℕ → ℕ → ℕ → ℕ → List ℕ
cor_w w s a b c = set (set (set w (16 * s) a) (16 * s + 1) b) (16 * s + 2) c

pub cor_off : (w : List ℕ) (s a b c z : ℕ) → ¬ (z ≡ 16 * s) → ¬ (z ≡ 16 * s + 1) → ¬ (z ≡ 16 * s + 2) → get_or (cor_w w s a b c) z 0 ≡ get_or w z 0
unfolding cor_w
cor_off w s a b c z n0 n1 n2 =
    get_or-set_other (set (set w (16 * s) a) (16 * s + 1) b) (16 * s + 2) z c 0 n2
    ∙ get_or-set_other (set w (16 * s) a) (16 * s + 1) z b 0 n1 ∙ get_or-set_other w (16 * s) z a 0 n0

pub hints_off : (w : List ℕ) (s a b c z : ℕ) → ¬ (z ≡ hint_cell a) → ¬ (z ≡ hint_cell b) → ¬ (z ≡ hint_cell c) → get_or (cut_w w s a b c) z 0 ≡ get_or (cor_w w s a b c) z 0
unfolding cut_w cor_w hint
hints_off w s a b c z na nb nc =
    get_or-set_other (set (set (set (set (set w (16 * s) a) (16 * s + 1) b) (16 * s + 2) c) (hint_cell a) s) (hint_cell b) s) (hint_cell c) z s 0 nc
    ∙ get_or-set_other (set (set (set (set w (16 * s) a) (16 * s + 1) b) (16 * s + 2) c) (hint_cell a) s) (hint_cell b) z s 0 nb
    ∙ get_or-set_other (set (set (set w (16 * s) a) (16 * s + 1) b) (16 * s + 2) c) (hint_cell a) z s 0 na

pub cut_off : (w : List ℕ) (s a b c z : ℕ) → ¬ (z ≡ 16 * s) → ¬ (z ≡ 16 * s + 1) → ¬ (z ≡ 16 * s + 2) → ¬ (z ≡ hint_cell a) → ¬ (z ≡ hint_cell b) → ¬ (z ≡ hint_cell c) →
    get_or (cut_w w s a b c) z 0 ≡ get_or w z 0
cut_off w s a b c z n0 n1 n2 na nb nc = hints_off w s a b c z na nb nc ∙ cor_off w s a b c z n0 n1 n2

pub mark_off : (w : List ℕ) (h m z : ℕ) → ¬ (z ≡ cell 6 h) → ((g : ℕ) → m ≡ suc g → ¬ (z ≡ cell 6 g)) → get_or (mark_w w h m) z 0 ≡ get_or w z 0
unfolding mark_w
mark_off w h zero z n k = get_or-set_other w (cell 6 h) z 1 0 n
mark_off w h (suc g) z n k = get_or-set_other (set w (cell 6 h) 1) (cell 6 g) z 1 0 (k g refl) ∙ get_or-set_other w (cell 6 h) z 1 0 n

-- ---- what stands at every half-edge afterwards

-- the partner's partner changed, where there is a partner
abbrev pub told : ℕ → ℕ → (ℕ → ℕ) → ℕ → ℕ
told zero v f = f
told (suc k) v f = put f k (suc v)

pub told_by : (m v : ℕ) (f f' : ℕ → ℕ) (h : ℕ) → ((x : ℕ) → f x ≡ f' x) → told m v f h ≡ told m v f' h
told_by m v f f' h e = ap (λ (g : ℕ → ℕ). told m v g h) (fun_ext e)

pub tell_adj : (n m v : ℕ) (w : List ℕ) (h : ℕ) → 64 * n ≤ length w → m ≤ 12 * n → adj (tell m v w) h ≡ told m v (λ z. adj w z) h
unfolding tell
tell_adj n zero v w h l b = refl
tell_adj n (suc k) v w h l b = set_put w 3 k (suc v) h (let e = cell_low 3 k n (omega arith) (omega arith) in omega arith)

pub tell_con : (m v : ℕ) (w : List ℕ) (h : ℕ) → con (tell m v w) h ≡ con w h
tell_con m v w h = tell_off m v w (cell 6 h) (λ k e. cell_away 6 3 h k (omega arith) (omega arith))

pub tell_org : (m v : ℕ) (w : List ℕ) (h : ℕ) → org (tell m v w) h ≡ org w h
tell_org m v w h = tell_off m v w (cell 0 h) (λ k e. cell_apart 0 3 h k (omega arith) (omega arith))

pub move_org : (w : List ℕ) (o v h : ℕ) → org (move_w w o v) h ≡ org w h
move_org w o v h =
    move_off w o v (cell 0 h) (λ k e. cell_apart 0 3 h k (omega arith) (omega arith)) (cell_apart 0 3 h v (omega arith) (omega arith)) (cell_apart 0 6 h v (omega arith) (omega arith))

module _ (n : ℕ) (w : List ℕ) (o v : ℕ) (long : 64 * n ≤ length w) (low : v < 12 * n) where
  fits : (f : ℕ) → f ≤ 6 → cell f v < length (tell (adj w o) v w)
  fits f b = rw (tell_length (adj w o) v w) (let e = cell_low f v n b low in omega arith)

  pub move_adj : adj w o ≤ 12 * n → (h : ℕ) → adj (move_w w o v) h ≡ put (told (adj w o) v (λ z. adj w z)) v (adj w o) h
  unfolding move_w
  move_adj near h =
      set_up (set (tell (adj w o) v w) (cell 3 v) (adj w o)) 3 6 v (con w o) h (omega arith) (omega arith)
      ∙ set_put (tell (adj w o) v w) 3 v (adj w o) h (fits 3 (omega arith))
      ∙ put_by (λ x. adj (tell (adj w o) v w) x) (told (adj w o) v (λ z. adj w z)) v (adj w o) h (λ x. tell_adj n (adj w o) v w x long near)

  pub move_con : (h : ℕ) → con (move_w w o v) h ≡ put (λ z. con w z) v (con w o) h
  unfolding move_w
  move_con h =
      set_put (set (tell (adj w o) v w) (cell 3 v) (adj w o)) 6 v (con w o) h (rw (length-set (tell (adj w o) v w) (cell 3 v) (adj w o)) (fits 6 (omega arith)))
      ∙ put_by (λ x. con (set (tell (adj w o) v w) (cell 3 v) (adj w o)) x) (λ z. con w z) v (con w o) h
      (λ x. set_down (tell (adj w o) v w) 6 3 v (adj w o) x (omega arith) (omega arith) ∙ tell_con (adj w o) v w x)

pub join_org : (w : List ℕ) (x y h : ℕ) → org (join_w w x y) h ≡ org w h
join_org w x y h =
    join_off w x y (cell 0 h) (cell_apart 0 3 h x (omega arith) (omega arith)) (cell_apart 0 6 h x (omega arith) (omega arith))
    (cell_apart 0 3 h y (omega arith) (omega arith)) (cell_apart 0 6 h y (omega arith) (omega arith))

module _ (n : ℕ) (w : List ℕ) (x y : ℕ) (long : 64 * n ≤ length w) (lx : x < 12 * n) (ly : y < 12 * n) where
  j1 : List ℕ
  j1 = set w (cell 3 x) (suc y)

  j2 : List ℕ
  j2 = set j1 (cell 6 x) 0

  j3 : List ℕ
  j3 = set j2 (cell 3 y) (suc x)

  fit : (f v : ℕ) (u : List ℕ) → f ≤ 6 → v < 12 * n → length u ≡ length w → cell f v < length u
  fit f v u b l e = rw e (let z = cell_low f v n b l in omega arith)

  long1 : length j1 ≡ length w
  unfolding j1
  long1 = length-set w (cell 3 x) (suc y)

  long2 : length j2 ≡ length w
  unfolding j2
  long2 = length-set j1 (cell 6 x) 0 ∙ long1

  long3 : length j3 ≡ length w
  unfolding j3
  long3 = length-set j2 (cell 3 y) (suc x) ∙ long2

  pub join_adj : (h : ℕ) → adj (join_w w x y) h ≡ put (put (λ z. adj w z) x (suc y)) y (suc x) h
  unfolding join_w j1 j2 j3
  join_adj h =
      set_up j3 3 6 y 0 h (omega arith) (omega arith) ∙ set_put j2 3 y (suc x) h (fit 3 y j2 (omega arith) ly long2)
      ∙ put_by (λ z. adj j2 z) (put (λ z. adj w z) x (suc y)) y (suc x) h
      (λ z. set_up j1 3 6 x 0 z (omega arith) (omega arith) ∙ set_put w 3 x (suc y) z (fit 3 x w (omega arith) lx refl))

  pub join_con : (h : ℕ) → con (join_w w x y) h ≡ put (put (λ z. con w z) x 0) y 0 h
  unfolding join_w j1 j2 j3
  join_con h =
      set_put j3 6 y 0 h (fit 6 y j3 (omega arith) ly long3)
      ∙ put_by (λ z. con j3 z) (put (λ z. con w z) x 0) y 0 h
      (λ z. set_down j2 6 3 y (suc x) z (omega arith) (omega arith) ∙ set_put j1 6 x 0 z (fit 6 x j1 (omega arith) lx long1)
      ∙ put_by (λ u. con j1 u) (λ u. con w u) x 0 z (λ u. set_down w 6 3 x (suc y) u (omega arith) (omega arith)))

-- a cut changes no partner and no mark
cut_field : (w : List ℕ) (s a b c f h : ℕ) → 3 ≤ f → f ≤ 6 → get_or (cut_w w s a b c) (cell f h) 0 ≡ get_or w (cell f h) 0
cut_field w s a b c f h l u =
    cut_off w s a b c (cell f h) (λ e. cell_away f 0 h (3 * s) l (omega arith) (e ∙ sym (cell_0 s))) (λ e. cell_away f 0 h (3 * s + 1) l (omega arith) (e ∙ sym (cell_1 s)))
    (λ e. cell_away f 0 h (3 * s + 2) l (omega arith) (e ∙ sym (cell_2 s)))
    (cell_off f h (hint_cell a) u (hint_mod a)) (cell_off f h (hint_cell b) u (hint_mod b)) (cell_off f h (hint_cell c) u (hint_mod c))

pub cut_adj : (w : List ℕ) (s a b c h : ℕ) → adj (cut_w w s a b c) h ≡ adj w h
cut_adj w s a b c h = cut_field w s a b c 3 h (omega arith) (omega arith)

pub cut_con : (w : List ℕ) (s a b c h : ℕ) → con (cut_w w s a b c) h ≡ con w h
cut_con w s a b c h = cut_field w s a b c 6 h (omega arith) (omega arith)

module _ (w : List ℕ) (s a b c : ℕ) (long : 16 * s + 3 ≤ length w) where
  c1 : List ℕ
  c1 = set w (cell 0 (3 * s)) a

  c2 : List ℕ
  c2 = set c1 (cell 0 (3 * s + 1)) b

  c3 : List ℕ
  c3 = set c2 (cell 0 (3 * s + 2)) c

  cor_is : cor_w w s a b c ≡ c3
  unfolding cor_w c1 c2 c3
  cor_is = rw (cell_0 s, cell_1 s, cell_2 s)

  long_1 : length c1 ≡ length w
  unfolding c1
  long_1 = length-set w (cell 0 (3 * s)) a

  long_2 : length c2 ≡ length w
  unfolding c2
  long_2 = length-set c1 (cell 0 (3 * s + 1)) b ∙ long_1

  pub cut_org : (h : ℕ) → org (cut_w w s a b c) h ≡ put3 (λ z. org w z) s a b c h
  unfolding put3 c1 c2 c3
  cut_org h =
      hints_off w s a b c (cell 0 h) (cell_off 0 h (hint_cell a) (omega arith) (hint_mod a)) (cell_off 0 h (hint_cell b) (omega arith) (hint_mod b))
      (cell_off 0 h (hint_cell c) (omega arith) (hint_mod c))
      ∙ ap (λ (u : List ℕ). org u h) cor_is ∙ set_put c2 0 (3 * s + 2) c h (rw (long_2, cell_2 s) (omega arith))
      ∙ put_by (λ z. org c2 z) (put (put (λ z. org w z) (3 * s) a) (3 * s + 1) b) (3 * s + 2) c h
      (λ z. set_put c1 0 (3 * s + 1) b z (rw (long_1, cell_1 s) (omega arith))
      ∙ put_by (λ u. org c1 u) (put (λ u. org w u) (3 * s) a) (3 * s + 1) b z (λ u. set_put w 0 (3 * s) a u (rw (cell_0 s) (omega arith))))

pub mark_org : (w : List ℕ) (h m q : ℕ) → org (mark_w w h m) q ≡ org w q
mark_org w h m q = mark_off w h m (cell 0 q) (cell_apart 0 6 q h (omega arith) (omega arith)) (λ g e. cell_apart 0 6 q g (omega arith) (omega arith))

pub mark_adj : (w : List ℕ) (h m q : ℕ) → adj (mark_w w h m) q ≡ adj w q
mark_adj w h m q = mark_off w h m (cell 3 q) (cell_apart 3 6 q h (omega arith) (omega arith)) (λ g e. cell_apart 3 6 q g (omega arith) (omega arith))

-- the marks of h and of its partner
abbrev pub marked : ℕ → (ℕ → ℕ) → ℕ → ℕ
marked zero f = f
marked (suc g) f = put f g 1

pub mark_con : (n : ℕ) (w : List ℕ) (h m q : ℕ) → 64 * n ≤ length w → h < 12 * n → m ≤ 12 * n → con (mark_w w h m) q ≡ marked m (put (λ z. con w z) h 1) q
unfolding mark_w
mark_con n w h zero q l lh lm = set_put w 6 h 1 q (let e = cell_low 6 h n (omega arith) lh in omega arith)
mark_con n w h (suc g) q l lh lm =
    set_put (set w (cell 6 h) 1) 6 g 1 q (rw (length-set w (cell 6 h) 1) (let e = cell_low 6 g n (omega arith) (omega arith) in omega arith))
    ∙ put_by (λ z. con (set w (cell 6 h) 1) z) (put (λ z. con w z) h 1) g 1 q (λ z. set_put w 6 h 1 z (let e = cell_low 6 h n (omega arith) lh in omega arith))
