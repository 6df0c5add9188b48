-- A net in a slice: 16 numbers a slot, corners at 0, neighbours at 3, marks at 6. A record put in the slice is written in the net, and the
-- writes that tell the partners are the net's links: the model is what exact leaves compute. Assumes nothing.
use mathlib.Core.Bool.{Bool, cond}
use mathlib.Core.List.{List, [], ◌∷◌}
use mathlib.Core.Path.{◌≡◌, refl, sym, ap, ◌∙◌, fun_ext}
use Prim.Native.Nat.{ℕ, zero, suc, ◌+◌, ◌*◌, ◌/◌, ◌%◌, ◌<◌, ◌≤◌}
use native.Mathlib.Decide.{ℕ_discrete}
use native.Mathlib.Omega.{arith}
use lib.Dec.{eqb}
use lib.ListN.{length, get_or, set, length-set}
use lib.Seq.{get_or-set_same, get_or-set_other}
use Rattle.algebra.proofs.Sum.{eqb_no, eqb_yes}
use Rattle.nets.specs.Layout.{cell, net_of, tell, tells, put_rec}
use Rattle.nets.specs.Moves.{Move, links}
use Rattle.nets.specs.Nets.{Net}
use Rattle.nets.specs.Slots.{put, Rec, write}
use Rattle.nets.proofs.Slot.{Edge, e0, e1, e2, edge, put_0, put_1, put_2, put_off}
use Rattle.nets.proofs.Surgery.{All}

pub net_eq : (m m' : Net) → m.tris ≡ m'.tris → ((h : ℕ) → m.org h ≡ m'.org h) → ((h : ℕ) → m.adj h ≡ m'.adj h) → ((h : ℕ) → m.con h ≡ m'.con h) → m ≡ m'
net_eq m m' e f g k = λ i. record { tris = e i; org = fun_ext f i; adj = fun_ext g i; con = fun_ext k i }

-- ---- a partner is told

cell_inj : (h q : ℕ) → cell 3 h ≡ cell 3 q → h ≡ q
unfolding cell
cell_inj h q e = omega arith

cell_0 : (h q : ℕ) → ¬ (cell 0 h ≡ cell 3 q)
unfolding cell
cell_0 h q = omega arith

cell_6 : (h q : ℕ) → ¬ (cell 6 h ≡ cell 3 q)
unfolding cell
cell_6 h q = omega arith

tell_adj : (o y : ℕ) (w : List ℕ) (q : ℕ) → ((x : ℕ) → o ≡ suc x → cell 3 x < length w) → get_or (tell o y w) (cell 3 q) 0 ≡ cond (eqb o (suc q)) (suc y) (get_or w (cell 3 q) 0)
unfolding tell
tell_adj zero y w q r = rw (eqb_no 0 (suc q) (let z : ¬ (0 ≡ suc q) = omega arith in z))
tell_adj (suc o) y w q r = go (ℕ_discrete o q)
  where
    go : Dec (o ≡ q) → get_or (set w (cell 3 o) (suc y)) (cell 3 q) 0 ≡ cond (eqb (suc o) (suc q)) (suc y) (get_or w (cell 3 q) 0)
    go (yes e) =
        ap (λ (x : ℕ). get_or (set w (cell 3 o) (suc y)) (cell 3 x) 0) (sym e) ∙ get_or-set_same w (cell 3 o) (suc y) 0 (r o refl) ∙
        ap (λ (b : Bool). cond b (suc y) (get_or w (cell 3 q) 0)) (sym (eqb_yes (suc o) (suc q) (ap suc e)))
    go (no n) =
        get_or-set_other w (cell 3 o) (cell 3 q) (suc y) 0 (λ e. n (sym (cell_inj q o e))) ∙
        ap (λ (b : Bool). cond b (suc y) (get_or w (cell 3 q) 0)) (sym (eqb_no (suc o) (suc q) (λ e. n (let z : o ≡ q = omega arith in z))))

tell_other : (o y : ℕ) (w : List ℕ) (c : ℕ) → ((x : ℕ) → ¬ (c ≡ cell 3 x)) → get_or (tell o y w) c 0 ≡ get_or w c 0
unfolding tell
tell_other zero y w c n = refl
tell_other (suc o) y w c n = get_or-set_other w (cell 3 o) c (suc y) 0 (n o)

tell_length : (o y : ℕ) (w : List ℕ) → length (tell o y w) ≡ length w
unfolding tell
tell_length zero y w = refl
tell_length (suc o) y w = length-set w (cell 3 o) (suc y)

module _ (adj : ℕ → ℕ) (w : List ℕ) (T : ℕ) where
  abbrev Fits : Move → Type 0
  Fits v = (x : ℕ) → adj v.old ≡ suc x → cell 3 x < length w

  pub tells_length : (L : List Move) → length (tells adj L w) ≡ length w
  unfolding tells
  tells_length [] = refl
  tells_length (v ∷ L) = tell_length (adj v.old) v.new (tells adj L w) ∙ tells_length L

  tells_adj : (L : List Move) → All Fits L → (q : ℕ) → get_or (tells adj L w) (cell 3 q) 0 ≡ links adj L (λ h. get_or w (cell 3 h) 0) q
  unfolding tells links
  tells_adj [] a q = refl
  tells_adj (v ∷ L) a q =
      tell_adj (adj v.old) v.new (tells adj L w) q (λ x e. rw (tells_length L) (a.0 x e)) ∙
      ap (λ (z : ℕ). cond (eqb (adj v.old) (suc q)) (suc v.new) z) (tells_adj L a.1 q)

  tells_other : (L : List Move) (c : ℕ) → ((x : ℕ) → ¬ (c ≡ cell 3 x)) → get_or (tells adj L w) c 0 ≡ get_or w c 0
  unfolding tells
  tells_other [] c n = refl
  tells_other (v ∷ L) c n = tell_other (adj v.old) v.new (tells adj L w) c n ∙ tells_other L c n

  pub net_tells : (L : List Move) → All Fits L → net_of (tells adj L w) T ≡ record { tris = T; org = (net_of w T).org; adj = links adj L (net_of w T).adj; con = (net_of w T).con }
  unfolding net_of
  net_tells L a =
      net_eq (net_of (tells adj L w) T) (record { tris = T; org = (net_of w T).org; adj = links adj L (net_of w T).adj; con = (net_of w T).con }) refl
      (λ h. tells_other L (cell 0 h) (cell_0 h)) (λ h. tells_adj L a h) (λ h. tells_other L (cell 6 h) (cell_6 h))

-- ---- a record is put

-- three numbers from place i on
unfoldable set3 : List ℕ → ℕ → ℕ → ℕ → ℕ → List ℕ
set3 w i x y z = set (set (set w i x) (i + 1) y) (i + 2) z

set3_length : (w : List ℕ) (i x y z : ℕ) → length (set3 w i x y z) ≡ length w
unfolding set3
set3_length w i x y z = simp length-set

set3_off : (w : List ℕ) (i x y z c : ℕ) → ¬ (c ≡ i) → ¬ (c ≡ i + 1) → ¬ (c ≡ i + 2) → get_or (set3 w i x y z) c 0 ≡ get_or w c 0
unfolding set3
set3_off w i x y z c p q r = get_or-set_other (set (set w i x) (i + 1) y) (i + 2) c z 0 r ∙ get_or-set_other (set w i x) (i + 1) c y 0 q ∙ get_or-set_other w i c x 0 p

set3_0 : (w : List ℕ) (i x y z : ℕ) → i < length w → get_or (set3 w i x y z) i 0 ≡ x
unfolding set3
set3_0 w i x y z l = get_or-set_other (set (set w i x) (i + 1) y) (i + 2) i z 0 (omega arith) ∙ get_or-set_other (set w i x) (i + 1) i y 0 (omega arith) ∙ get_or-set_same w i x 0 l

set3_1 : (w : List ℕ) (i x y z : ℕ) → i + 1 < length w → get_or (set3 w i x y z) (i + 1) 0 ≡ y
unfolding set3
set3_1 w i x y z l = get_or-set_other (set (set w i x) (i + 1) y) (i + 2) (i + 1) z 0 (omega arith) ∙ get_or-set_same (set w i x) (i + 1) y 0 (rw length-set l)

set3_2 : (w : List ℕ) (i x y z : ℕ) → i + 2 < length w → get_or (set3 w i x y z) (i + 2) 0 ≡ z
unfolding set3
set3_2 w i x y z l = get_or-set_same (set (set w i x) (i + 1) y) (i + 2) z 0 (rw (length-set, length-set) l)

-- field f of slot s
set3_put : (w : List ℕ) (f s x y z : ℕ) → 16 * s + f + 2 < length w → (h : ℕ) → get_or (set3 w (16 * s + f) x y z) (cell f h) 0 ≡ put (λ h. get_or w (cell f h) 0) s x y z h
unfolding cell
set3_put w f s x y z l h = go (ℕ_discrete (h / 3) s)
  where
    i : ℕ
    i = 16 * s + f

    g : ℕ → ℕ
    g h = get_or w (cell f h) 0

    c0 : (s : ℕ) → cell f (3 * s) ≡ 16 * s + f
    c0 s = omega arith

    c1 : (s : ℕ) → cell f (3 * s + 1) ≡ 16 * s + f + 1
    c1 s = omega arith

    c2 : (s : ℕ) → cell f (3 * s + 2) ≡ 16 * s + f + 2
    c2 s = omega arith

    at : Edge s h → get_or (set3 w i x y z) (cell f h) 0 ≡ put g s x y z h
    at (e0 e) = ap (λ (u : ℕ). get_or (set3 w i x y z) (cell f u) 0) e ∙ ap (λ (u : ℕ). get_or (set3 w i x y z) u 0) (c0 s)
        ∙ set3_0 w i x y z (omega arith) ∙ sym (put_0 g s x y z) ∙ ap (put g s x y z) (sym e)
    at (e1 e) = ap (λ (u : ℕ). get_or (set3 w i x y z) (cell f u) 0) e ∙ ap (λ (u : ℕ). get_or (set3 w i x y z) u 0) (c1 s)
        ∙ set3_1 w i x y z (omega arith) ∙ sym (put_1 g s x y z) ∙ ap (put g s x y z) (sym e)
    at (e2 e) = ap (λ (u : ℕ). get_or (set3 w i x y z) (cell f u) 0) e ∙ ap (λ (u : ℕ). get_or (set3 w i x y z) u 0) (c2 s) ∙ set3_2 w i x y z l ∙ sym (put_2 g s x y z) ∙ ap (put g s x y z) (sym e)

    go : Dec (h / 3 ≡ s) → get_or (set3 w i x y z) (cell f h) 0 ≡ put g s x y z h
    go (yes e) = at (edge s h e)
    go (no n) = set3_off w i x y z (cell f h) (far n) (far1 n) (far2 n) ∙ sym (put_off g s x y z h n)
      where
        far : ¬ (h / 3 ≡ s) → ¬ (cell f h ≡ i)
        far n = omega arith

        far1 : ¬ (h / 3 ≡ s) → ¬ (cell f h ≡ i + 1)
        far1 n = omega arith

        far2 : ¬ (h / 3 ≡ s) → ¬ (cell f h ≡ i + 2)
        far2 n = omega arith

-- another field stays
set3_other : (w : List ℕ) (f f' s x y z : ℕ) → f' + 2 < f → f < 14 → (h : ℕ) → get_or (set3 w (16 * s + f) x y z) (cell f' h) 0 ≡ get_or w (cell f' h) 0
unfolding cell
set3_other w f f' s x y z l b h = set3_off w (16 * s + f) x y z (16 * (h / 3) + f' + h % 3) (omega arith) (omega arith) (omega arith)

set3_above : (w : List ℕ) (f f' s x y z : ℕ) → f + 2 < f' → f' < 14 → (h : ℕ) → get_or (set3 w (16 * s + f) x y z) (cell f' h) 0 ≡ get_or w (cell f' h) 0
unfolding cell
set3_above w f f' s x y z l b h = set3_off w (16 * s + f) x y z (16 * (h / 3) + f' + h % 3) (omega arith) (omega arith) (omega arith)

-- the record by its three fields
put3 : List ℕ → ℕ → Rec → List ℕ
put3 w s x = set3 (set3 (set3 w (16 * s + 0) x.v0 x.v1 x.v2) (16 * s + 3) x.a0 x.a1 x.a2) (16 * s + 6) x.c0 x.c1 x.c2

put_is : (w : List ℕ) (s : ℕ) (x : Rec) → put_rec w s x ≡ put3 w s x
unfolding put_rec put3 set3
put_is w s x =
    let e : 16 * s + 0 ≡ 16 * s = omega arith in
    let a : 16 * s + 3 + 1 ≡ 16 * s + 4 = omega arith in
    let b : 16 * s + 3 + 2 ≡ 16 * s + 5 = omega arith in
    let c : 16 * s + 6 + 1 ≡ 16 * s + 7 = omega arith in
    let d : 16 * s + 6 + 2 ≡ 16 * s + 8 = omega arith in
    rw (e, a, b, c, d)

pub put_length : (w : List ℕ) (s : ℕ) (x : Rec) → length (put_rec w s x) ≡ length w
unfolding put3
put_length w s x = ap length (put_is w s x) ∙ set3_length (set3 (set3 w (16 * s + 0) x.v0 x.v1 x.v2) (16 * s + 3) x.a0 x.a1 x.a2)
    (16 * s + 6) x.c0 x.c1 x.c2 ∙ set3_length (set3 w (16 * s + 0) x.v0 x.v1 x.v2) (16 * s + 3) x.a0 x.a1 x.a2
    ∙ set3_length w (16 * s + 0) x.v0 x.v1 x.v2

pub net_put : (w : List ℕ) (T s : ℕ) (x : Rec) → 16 * s + 9 ≤ length w → net_of (put_rec w s x) T ≡ write (net_of w T) s x
unfolding net_of put3 write
net_put w T s x l = ap (λ (u : List ℕ). net_of u T) (put_is w s x) ∙ net_eq (net_of (put3 w s x) T) (write (net_of w T) s x) refl org adj con
  where
    w1 : List ℕ
    w1 = set3 w (16 * s + 0) x.v0 x.v1 x.v2

    w2 : List ℕ
    w2 = set3 w1 (16 * s + 3) x.a0 x.a1 x.a2

    w3 : List ℕ
    w3 = set3 w2 (16 * s + 6) x.c0 x.c1 x.c2

    l1 : length w1 ≡ length w
    l1 = set3_length w (16 * s + 0) x.v0 x.v1 x.v2

    l2 : length w2 ≡ length w
    l2 = set3_length w1 (16 * s + 3) x.a0 x.a1 x.a2 ∙ l1

    same : (f : ℕ) (u u' : ℕ → ℕ) (a b c h : ℕ) → ((q : ℕ) → u q ≡ u' q) → put u s a b c h ≡ put u' s a b c h
    same f u u' a b c h e = ap (λ (k : ℕ → ℕ). put k s a b c h) (fun_ext e)

    org : (h : ℕ) → get_or w3 (cell 0 h) 0 ≡ put (λ q. get_or w (cell 0 q) 0) s x.v0 x.v1 x.v2 h
    org h = set3_other w2 6 0 s x.c0 x.c1 x.c2 (omega arith) (omega arith) h
        ∙ set3_other w1 3 0 s x.a0 x.a1 x.a2 (omega arith) (omega arith) h ∙ set3_put w 0 s x.v0 x.v1 x.v2 (omega arith) h

    adj : (h : ℕ) → get_or w3 (cell 3 h) 0 ≡ put (λ q. get_or w (cell 3 q) 0) s x.a0 x.a1 x.a2 h
    adj h =
        set3_other w2 6 3 s x.c0 x.c1 x.c2 (omega arith) (omega arith) h ∙ set3_put w1 3 s x.a0 x.a1 x.a2 (let e = l1 in omega arith) h ∙
        same 3 (λ q. get_or w1 (cell 3 q) 0) (λ q. get_or w (cell 3 q) 0) x.a0 x.a1 x.a2 h (λ q. set3_above w 0 3 s x.v0 x.v1 x.v2 (omega arith) (omega arith) q)

    con : (h : ℕ) → get_or w3 (cell 6 h) 0 ≡ put (λ q. get_or w (cell 6 q) 0) s x.c0 x.c1 x.c2 h
    con h =
        set3_put w2 6 s x.c0 x.c1 x.c2 (let e = l2 in omega arith) h ∙
        same 6 (λ q. get_or w2 (cell 6 q) 0) (λ q. get_or w (cell 6 q) 0) x.c0 x.c1 x.c2 h
        (λ q. set3_above w1 3 6 s x.a0 x.a1 x.a2 (omega arith) (omega arith) q ∙ set3_above w 0 6 s x.v0 x.v1 x.v2 (omega arith) (omega arith) q)
