-- COVER: a tiling covers its base. Each place strictly inside the base lies in a triangle, no place there lies strictly inside two, and one
-- that is on no edge lies strictly inside exactly one. Assumes nothing.
use mathlib.Core.Path.{◌≡◌, refl, sym, ap, ◌∙◌, subst}
use mathlib.Core.Bool.{Bool, true, false}
use Prim.Native.Nat.{ℕ, suc, ◌+◌, ◌*◌, ◌<◌}
use native.Mathlib.Omega.{arith}
use lib.IntN.{ℤ, pos, ◌+ℤ◌, ◌-ℤ◌, ◌*ℤ◌, neg_ℤ, nat_abs, zero-*ℤ, +ℤ_idr}
use Rattle.algebra.specs.Order.{Pos, NonNeg}
use Rattle.algebra.specs.Sum.{sum_to}
use Rattle.algebra.proofs.Ring.{Expr, ◌⊕◌, ◌⊖◌, ◌⊗◌, ⊝◌, and}
use Rattle.algebra.proofs.Order.{pos_by, nn_by, pos*pos, nn*nn, nn+nn, sq_nn, not_zero}
use Rattle.algebra.proofs.Sum.{sum_cong, thirds}
use Rattle.plane.specs.Points.{Pt}
use Rattle.plane.specs.Determinants.{orient}
use Rattle.plane.specs.Places.{Place, line}
use Rattle.plane.specs.Inside.{In, Strictly, dot_at, OnEdge}
use Rattle.plane.specs.Base.{Side, s0, s1, s2, next, Within}
use Rattle.plane.specs.Halfedges.{nxt}
use Rattle.plane.specs.Mesh.{Mesh, Covers}
use Rattle.plane.specs.Cover.{InClosed, StrictlyIn, Clear, One, Covered}
use Rattle.plane.proofs.Polynomials.{PtE, orient_e, line_e, by_q3}
use Rattle.plane.proofs.Orient.{orient_cyc, thin_aab}
use Rattle.algebra.specs.Tests.{posb}
use Rattle.plane.proofs.Sign.{posb_yes, posb_pos, ind, and_1, and_2, nn_strict, nn_cancel}
use Rattle.plane.proofs.Crossed.{inside}
use Rattle.plane.proofs.Halfedges.{nxt0, nxt1, nxt2, third, third1, third2}
use Rattle.plane.proofs.Near.{near, tilt, near_pos, near_back, near_line, near_above, max_to, max_to_le, pos_num}
use Rattle.plane.proofs.Count.{the_one, only_one}
use Rattle.plane.proofs.Mesh.{Generic, in_tri, cover}

-- ---- on an edge

abbrev dot_at_e : PtE → PtE → Place Expr → Expr
dot_at_e u v q = (q.qx ⊖ q.qw ⊗ u.x) ⊗ (q.qx ⊖ q.qw ⊗ v.x) ⊕ (q.qy ⊖ q.qw ⊗ u.y) ⊗ (q.qy ⊖ q.qw ⊗ v.y)

-- This is the product (b - a) · (d - c).
unfoldable along : Pt ℤ → Pt ℤ → Pt ℤ → Pt ℤ → ℤ
along a b c d = (b.x -ℤ a.x) *ℤ (d.x -ℤ c.x) +ℤ (b.y -ℤ a.y) *ℤ (d.y -ℤ c.y)

abbrev along_e : PtE → PtE → PtE → PtE → Expr
along_e a b c d = (b.x ⊖ a.x) ⊗ (d.x ⊖ c.x) ⊕ (b.y ⊖ a.y) ⊗ (d.y ⊖ c.y)

edge_poly : (q : Place ℤ) (a b c : Pt ℤ) →
    orient a b c *ℤ orient a b c *ℤ neg_ℤ (dot_at a b q) ≡
    line b c q *ℤ line c a q *ℤ along a b a b +ℤ
    line a b q *ℤ (line b c q *ℤ along a c a b -ℤ line c a q *ℤ along a b b c -ℤ line a b q *ℤ along a c b c)
unfolding dot_at orient line along
edge_poly =
    by_q3 (λ q a b c. orient_e a b c ⊗ orient_e a b c ⊗ (⊝ dot_at_e a b q))
    (λ q a b c. line_e b c q ⊗ line_e c a q ⊗ along_e a b a b ⊕
    line_e a b q ⊗ (line_e b c q ⊗ along_e a c a b ⊖ line_e c a q ⊗ along_e a b b c ⊖ line_e a b q ⊗ along_e a c b c)) tt

along_nn : (a b : Pt ℤ) → NonNeg (along a b a b)
unfolding along
along_nn a b = nn+nn (sq_nn (b.x -ℤ a.x)) (sq_nn (b.y -ℤ a.y))

-- A place in the triangle that is on the line of its edge a b is on that edge.
edge_in : (q : Place ℤ) (a b c : Pt ℤ) → Pos (orient a b c) → line a b q ≡ pos 0 → NonNeg (line b c q) → NonNeg (line c a q) → OnEdge a b q
edge_in q a b c o e i j = record {
  on_line = e;
  between =
      nn_cancel (pos*pos o o)
      (nn_by (edge_poly q a b c ∙ ap (λ (z : ℤ). main +ℤ z) (ap (λ (z : ℤ). z *ℤ rest) e ∙ zero-*ℤ rest) ∙ +ℤ_idr main)
      (nn*nn (nn*nn i j) (along_nn a b)));
}
  where
    main : ℤ
    main = line b c q *ℤ line c a q *ℤ along a b a b

    rest : ℤ
    rest = line b c q *ℤ along a c a b -ℤ line c a q *ℤ along a b b c -ℤ line a b q *ℤ along a c b c

-- ---- in a triangle

pub inside_of : (q : Place ℤ) (a b c : Pt ℤ) → Strictly q a b c → inside q a b c ≡ true
inside_of q a b c s = rw (posb_yes (line a b q) s.ab, posb_yes (line b c q) s.bc, posb_yes (line c a q) s.ca) refl

pub of_inside : (q : Place ℤ) (a b c : Pt ℤ) → inside q a b c ≡ true → Strictly q a b c
of_inside q a b c e = record {
  ab = posb_pos (line a b q) (and_1 x (and y z) e);
  bc = posb_pos (line b c q) (and_1 y z (and_2 x (and y z) e));
  ca = posb_pos (line c a q) (and_2 y z (and_2 x (and y z) e));
}
  where
    x : Bool
    x = posb (line a b q)

    y : Bool
    y = posb (line b c q)

    z : Bool
    z = posb (line c a q)

-- What lies in a triangle and on no edge of it lies strictly inside.
pub strict : (q : Place ℤ) (a b c : Pt ℤ) → Pos (orient a b c) → ¬ OnEdge a b q → ¬ OnEdge b c q → ¬ OnEdge c a q → In q a b c → Strictly q a b c
strict q a b c o n1 n2 n3 s = record {
  ab = nn_strict (line a b q) s.ab (λ e. n1 (edge_in q a b c o e s.bc s.ca));
  bc = nn_strict (line b c q) s.bc (λ e. n2 (edge_in q b c a (pos_by (sym (orient_cyc a b c)) o) e s.ca s.ab));
  ca = nn_strict (line c a q) s.ca (λ e. n3 (edge_in q c a b (pos_by (orient_cyc c a b) o) e s.ab s.bc));
}

-- The ends of an edge of a triangle with an area are two points.
pub apart : (a b c : Pt ℤ) → Pos (orient a b c) → ¬ (a ≡ b)
apart a b c o e = not_zero (subst (λ (p : Pt ℤ). Pos (orient p b c)) e o) (thin_aab b c)

bool_eq : (a b : Bool) → (a ≡ true → b ≡ true) → (b ≡ true → a ≡ true) → a ≡ b
bool_eq true b f g = sym (f refl)
bool_eq false true f g = g refl
bool_eq false false f g = refl

module _ (m : Mesh) (ok : Covers m) (q : Place ℤ) (w : Pos q.qw) (within : Within m.base q) where
  abbrev a0 : ℕ → Pt ℤ
  a0 t = m.org (3 * t)

  abbrev a1 : ℕ → Pt ℤ
  a1 t = m.org (3 * t + 1)

  abbrev a2 : ℕ → Pt ℤ
  a2 t = m.org (3 * t + 2)

  -- ---- the place moved, so that it is generic

  run : ℕ → ℕ
  run h = nat_abs ((m.dst h).x -ℤ (m.org h).x)

  M : ℕ
  M = suc (max_to (3 * m.tris) run)

  lean : ℕ → ℕ
  lean h = nat_abs (tilt M (m.org h) (m.dst h))

  lean_b : Side → ℕ
  lean_b i = nat_abs (tilt M (m.base i) (m.base (next i)))

  K : ℕ
  K = 2 + max_to (3 * m.tris) lean + lean_b s0 + lean_b s1 + lean_b s2

  run_low : (h : ℕ) → h < 3 * m.tris → nat_abs ((m.dst h).x -ℤ (m.org h).x) < M
  unfolding M run
  run_low h l = let r = max_to_le (3 * m.tris) run h l in omega arith

  lean_low : (h : ℕ) → h < 3 * m.tris → nat_abs (tilt M (m.org h) (m.dst h)) < K
  unfolding K lean
  lean_low h l = let r = max_to_le (3 * m.tris) lean h l in omega arith

  base_low : (i : Side) → nat_abs (tilt M (m.base i) (m.base (next i))) < K
  unfolding K lean_b
  base_low s0 = omega arith
  base_low s1 = omega arith
  base_low s2 = omega arith

  one_low : 1 < K
  unfolding K
  one_low = omega arith

  q' : Place ℤ
  q' = near K M q

  w' : Pos q'.qw
  unfolding q' near
  w' = pos*pos (pos_num K (let r = one_low in omega arith)) w

  within' : Within m.base q'
  unfolding q'
  within' i = near_pos K M q (m.base i) (m.base (next i)) (base_low i) (within i)

  distinct : (h : ℕ) → h < 3 * m.tris → ¬ (m.org h ≡ m.dst h)
  distinct =
      thirds m.tris (λ h. ¬ (m.org h ≡ m.dst h))
      (λ t l e. apart (a0 t) (a1 t) (a2 t) (ok.ccw t l) (e ∙ ok.dst0 t l))
      (λ t l e. apart (a1 t) (a2 t) (a0 t) (pos_by (sym (orient_cyc (a0 t) (a1 t) (a2 t))) (ok.ccw t l)) (e ∙ ok.dst1 t l))
      (λ t l e. apart (a2 t) (a0 t) (a1 t) (pos_by (orient_cyc (a2 t) (a0 t) (a1 t)) (ok.ccw t l)) (e ∙ ok.dst2 t l))

  generic' : Generic m q'
  unfolding q'
  generic' = record {
    no_line = λ h l. near_line K M q (m.org h) (m.dst h) (lean_low h l) (run_low h l) (distinct h l);
    no_level = λ h l. near_above K M q (m.org h) one_low;
    no_base = λ i. near_above K M q (m.base i) one_low;
  }

  near_one : sum_to m.tris (λ t. ind (in_tri m q' t)) ≡ pos 1
  near_one = cover m ok q' w' within' generic'

  -- ---- and back

  there : (h : ℕ) (v : Pt ℤ) → h < 3 * m.tris → m.dst h ≡ v → Pos (line (m.org h) v q) → Pos (line (m.org h) v q')
  unfolding q'
  there h v l e = near_pos K M q (m.org h) v (subst (λ (p : Pt ℤ). nat_abs (tilt M (m.org h) p) < K) e (lean_low h l))

  back : (h : ℕ) (v : Pt ℤ) → h < 3 * m.tris → m.dst h ≡ v → Pos (line (m.org h) v q') → NonNeg (line (m.org h) v q)
  unfolding q'
  back h v l e = near_back K M q (m.org h) v (subst (λ (p : Pt ℤ). nat_abs (tilt M (m.org h) p) < K) e (lean_low h l))

  in_near : (t : ℕ) → t < m.tris → in_tri m q t ≡ true → in_tri m q' t ≡ true
  in_near t l e =
      let s = of_inside q (a0 t) (a1 t) (a2 t) e in
      inside_of q' (a0 t) (a1 t) (a2 t) (record {
        ab = there (3 * t) (a1 t) (third t m.tris l) (ok.dst0 t l) s.ab;
        bc = there (3 * t + 1) (a2 t) (third1 t m.tris l) (ok.dst1 t l) s.bc;
        ca = there (3 * t + 2) (a0 t) (third2 t m.tris l) (ok.dst2 t l) s.ca;
      })

  in_back : (t : ℕ) → t < m.tris → in_tri m q' t ≡ true → InClosed m.org q t
  in_back t l e =
      let s = of_inside q' (a0 t) (a1 t) (a2 t) e in
      record {
        ab = back (3 * t) (a1 t) (third t m.tris l) (ok.dst0 t l) s.ab;
        bc = back (3 * t + 1) (a2 t) (third1 t m.tris l) (ok.dst1 t l) s.bc;
        ca = back (3 * t + 2) (a0 t) (third2 t m.tris l) (ok.dst2 t l) s.ca;
      }

  -- The place lies in a triangle or on its boundary.
  pub cover_closed : (t : ℕ) × (t < m.tris) × In q (m.org (3 * t)) (m.org (3 * t + 1)) (m.org (3 * t + 2))
  cover_closed =
      let r = the_one m.tris (in_tri m q') near_one in
      (r.0, r.1, in_back r.0 r.1 r.2)

  -- It lies strictly inside no two.
  pub cover_apart : (i j : ℕ) → i < m.tris → j < m.tris → in_tri m q i ≡ true → in_tri m q j ≡ true → i ≡ j
  cover_apart i j k l d e = only_one m.tris (in_tri m q') near_one i j k l (in_near i k d) (in_near j l e)

  module _ (clear : (h : ℕ) → h < 3 * m.tris → ¬ OnEdge (m.org h) (m.dst h) q) where
    same_tri : (t : ℕ) → t < m.tris → in_tri m q t ≡ in_tri m q' t
    same_tri t l =
        bool_eq (in_tri m q t) (in_tri m q' t) (in_near t l)
        (λ e. inside_of q (a0 t) (a1 t) (a2 t)
        (strict q (a0 t) (a1 t) (a2 t) (ok.ccw t l)
        (λ s. clear (3 * t) (third t m.tris l) (subst (λ (p : Pt ℤ). OnEdge (a0 t) p q) (sym (ok.dst0 t l)) s))
        (λ s. clear (3 * t + 1) (third1 t m.tris l) (subst (λ (p : Pt ℤ). OnEdge (a1 t) p q) (sym (ok.dst1 t l)) s))
        (λ s. clear (3 * t + 2) (third2 t m.tris l) (subst (λ (p : Pt ℤ). OnEdge (a2 t) p q) (sym (ok.dst2 t l)) s))
        (in_back t l e)))

    -- Where it is on no edge, it lies strictly inside exactly one: the count of them is one.
    pub cover_one : sum_to m.tris (λ t. ind (in_tri m q t)) ≡ pos 1
    cover_one = sum_cong m.tris (λ t. ind (in_tri m q t)) (λ t. ind (in_tri m q' t)) (λ t l. ap ind (same_tri t l)) ∙ near_one

    pub cover_some : (t : ℕ) × (t < m.tris) × (in_tri m q t ≡ true)
    cover_some = the_one m.tris (in_tri m q) cover_one

  -- ---- COVER, in the words of specs/Cover

  -- A half-edge of a tiling ends where the next one begins.
  dst_nxt : (h : ℕ) → h < 3 * m.tris → m.dst h ≡ m.org (nxt h)
  dst_nxt =
      thirds m.tris (λ h. m.dst h ≡ m.org (nxt h))
      (λ t l. ok.dst0 t l ∙ ap m.org (sym (nxt0 t)))
      (λ t l. ok.dst1 t l ∙ ap m.org (sym (nxt1 t)))
      (λ t l. ok.dst2 t l ∙ ap m.org (sym (nxt2 t)))

  alone : (i j : ℕ) → i < m.tris → j < m.tris → StrictlyIn m.org q i → StrictlyIn m.org q j → i ≡ j
  alone i j k l d e = cover_apart i j k l (inside_of q (a0 i) (a1 i) (a2 i) d) (inside_of q (a0 j) (a1 j) (a2 j) e)

  exactly : Clear m.tris m.org q → One m.tris (StrictlyIn m.org q)
  exactly clear =
      let r = cover_some (λ h l s. clear h l (subst (λ (p : Pt ℤ). OnEdge (m.org h) p q) (dst_nxt h l) s)) in
      let s = of_inside q (a0 r.0) (a1 r.0) (a2 r.0) r.2 in
      record { it = r.0; below = r.1; holds = s; only = λ i l e. alone i r.0 l r.1 e s }

  pub covered : Covered m.tris m.org q
  covered = record { some = cover_closed; apart = alone; one = exactly }
