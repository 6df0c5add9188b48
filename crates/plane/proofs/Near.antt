-- A place is moved by so little that it keeps its strict signs, and comes to lie on no line of an edge and level with no point.
-- Assumes nothing.
use mathlib.Core.Path.{◌≡◌, sym, ap, ◌∙◌, subst}
use mathlib.Core.Bool.{Bool, true, false, not, cond}
use mathlib.Core.List.{[], ◌∷◌}
use Prim.Native.Nat.{ℕ, zero, suc, ◌+◌, ◌*◌, ◌-◌, ◌≤◌, ◌<◌, max}
use native.Mathlib.Nat.{not-suc-le-zero, le-max_right}
use native.Mathlib.Decide.{dec_lt}
use native.Mathlib.Omega.{arith}
use lib.Dec.{T, ltb, ltb→lt, lt→ltb}
use lib.IntN.{ℤ, pos, negsuc, ◌+ℤ◌, ◌-ℤ◌, ◌*ℤ◌, neg_ℤ, nat_abs, pos-ne-negsuc, +ℤ_idl, *ℤ-zero}
use lib.Signed.{lt_z_yes, <ℤ_irrefl}
use Rattle.algebra.specs.Order.{Pos, NonNeg}
use Rattle.algebra.proofs.Laws.{eq_of_sub_zero}
use Rattle.algebra.proofs.Ring.{var, con, ◌⊕◌, ◌⊖◌, ◌⊗◌, ⊝◌, solve}
use Rattle.algebra.proofs.Order.{pos_by, pos_nn, not_both, not_zero, Sign, is_pos, is_below_zero, is_zero, sign}
use Rattle.algebra.proofs.Size.{abs_neg}
use Rattle.plane.specs.Points.{Pt}
use Rattle.plane.specs.Places.{Place, line}
use Rattle.plane.proofs.Polynomials.{line_e, q_e, p_e}
use Rattle.plane.proofs.Sign.{nn_zero}
use Rattle.plane.proofs.Crossed.{above}
use Rattle.plane.proofs.Base.{pt_eq}

-- ---- a multiple outweighs what is smaller

pub pos_num : (n : ℕ) → 0 < n → Pos (pos n)
pos_num n h = lt_z_yes (lt→ltb 0 n h)

pos_cond : (b : Bool) (x y : ℤ) → (T b → Pos x) → (T (not b) → Pos y) → Pos (cond b x y)
pos_cond true x y f g = f tt
pos_cond false x y f g = g tt

pos_abs : (K : ℕ) (e : ℤ) → nat_abs e < K → Pos (pos K +ℤ e)
pos_abs K (pos m) l = pos_num (K + m) (omega arith)
pos_abs K (negsuc m) l =
    pos_cond (ltb K (suc m)) (negsuc (suc m - suc K)) (pos (K - suc m)) (λ t. absurd (no_way K m l (ltb→lt K (suc m) t))) (λ t. pos_num (K - suc m) (omega arith))
  where
    no_way : (K m : ℕ) → suc m < K → K < suc m → ⊥
    no_way K m l h = omega arith

pub dom : (K : ℕ) (z e : ℤ) → nat_abs e < K → Pos z → Pos (pos K *ℤ z +ℤ e)
dom K (pos zero) e l h = absurd (<ℤ_irrefl h)
dom K (pos (suc n)) e l h = pos_abs (K * suc n) e (wide K n (nat_abs e) l)
  where
    wide : (K n a : ℕ) → a < K → a < K * suc n
    wide K n a l = omega arith
dom K (negsuc n) e l h = absurd h.lt

pub dom_neg : (K : ℕ) (z e : ℤ) → nat_abs e < K → Pos (neg_ℤ z) → Pos (neg_ℤ (pos K *ℤ z +ℤ e))
dom_neg K z e l h =
    pos_by (solve (⊝ (var 0 ⊗ var 1 ⊕ var 2)) (var 0 ⊗ (⊝ var 1) ⊕ (⊝ var 2)) (pos K ∷ z ∷ e ∷ []) tt)
    (dom K (neg_ℤ z) (neg_ℤ e) (subst (λ (n : ℕ). n < K) (sym (abs_neg e)) l) h)

pub dom_back : (K : ℕ) (z e : ℤ) → nat_abs e < K → Pos (pos K *ℤ z +ℤ e) → NonNeg z
dom_back K z e l h = go (sign z)
  where
    go : Sign z → NonNeg z
    go (is_pos p) = pos_nn p
    go (is_zero r) = nn_zero z r
    go (is_below_zero n) = absurd (not_both h (dom_neg K z e l n))

pub dom_nz : (K : ℕ) (z e : ℤ) → nat_abs e < K → (z ≡ pos 0 → ¬ (e ≡ pos 0)) → ¬ (pos K *ℤ z +ℤ e ≡ pos 0)
dom_nz K z e l f h = go (sign z)
  where
    go : Sign z → ⊥
    go (is_pos p) = not_zero (dom K z e l p) h
    go (is_below_zero n) = not_zero (dom_neg K z e l n) (ap neg_ℤ h)
    go (is_zero r) = f r (sym (+ℤ_idl e) ∙ ap (λ (x : ℤ). x +ℤ e) (sym (*ℤ-zero (pos K)) ∙ ap (λ (x : ℤ). pos K *ℤ x) (sym r)) ∙ h)

-- ---- the greatest of a range

pub max_to : ℕ → (ℕ → ℕ) → ℕ
max_to zero f = 0
max_to (suc n) f = max (max_to n f) (f n)

pub max_to_le : (n : ℕ) (f : ℕ → ℕ) (i : ℕ) → i < n → f i ≤ max_to n f
unfolding max_to
max_to_le zero f i l = absurd (not-suc-le-zero l)
max_to_le (suc n) f i l = go (dec_lt i n) (max_to_le n f i)
  where
    go : Dec (i < n) → (i < n → f i ≤ max_to n f) → f i ≤ max (max_to n f) (f n)
    go (yes k) ih = let r = ih k in omega arith
    go (no k) ih = let q : i ≡ n = omega arith in subst (λ (j : ℕ). f j ≤ max (max_to n f) (f n)) (sym q) (le-max_right (max_to n f) (f n))

-- ---- the place moved

-- It moves by M/(K W) to the right and 1/(K W) up, where the place has the denominator W.
unfoldable pub near : ℕ → ℕ → Place ℤ → Place ℤ
near K M q = record { qx = pos K *ℤ q.qx +ℤ pos M; qy = pos K *ℤ q.qy +ℤ pos 1; qw = pos K *ℤ q.qw }

-- This is what the move adds to the value of an edge's line, which is taken K times.
unfoldable pub tilt : ℕ → Pt ℤ → Pt ℤ → ℤ
tilt M u v = pos M *ℤ (u.y -ℤ v.y) +ℤ (v.x -ℤ u.x)

line_near : (K M : ℕ) (q : Place ℤ) (u v : Pt ℤ) → line u v (near K M q) ≡ pos K *ℤ line u v q +ℤ tilt M u v
unfolding line near tilt
line_near K M q u v =
    solve (line_e (p_e 0) (p_e 1) (record { qx = var 7 ⊗ var 0 ⊕ var 8; qy = var 7 ⊗ var 1 ⊕ con (pos 1); qw = var 7 ⊗ var 2 }))
    (var 7 ⊗ line_e (p_e 0) (p_e 1) q_e ⊕ (var 8 ⊗ (var 4 ⊖ var 6) ⊕ (var 5 ⊖ var 3)))
    (q.qx ∷ q.qy ∷ q.qw ∷ u.x ∷ u.y ∷ v.x ∷ v.y ∷ pos K ∷ pos M ∷ []) tt

above_near : (K M : ℕ) (q : Place ℤ) (p : Pt ℤ) → above (near K M q) p ≡ pos K *ℤ above q p +ℤ negsuc 0
unfolding above near
above_near K M q p =
    solve (var 2 ⊗ var 0 ⊗ var 3 ⊖ (var 2 ⊗ var 1 ⊕ con (pos 1))) (var 2 ⊗ (var 0 ⊗ var 3 ⊖ var 1) ⊕ con (negsuc 0))
    (q.qw ∷ q.qy ∷ pos K ∷ p.y ∷ []) tt

module _ (K M : ℕ) (q : Place ℤ) where
  pub near_pos : (u v : Pt ℤ) → nat_abs (tilt M u v) < K → Pos (line u v q) → Pos (line u v (near K M q))
  near_pos u v l h = pos_by (line_near K M q u v) (dom K (line u v q) (tilt M u v) l h)

  pub near_back : (u v : Pt ℤ) → nat_abs (tilt M u v) < K → Pos (line u v (near K M q)) → NonNeg (line u v q)
  near_back u v l h = dom_back K (line u v q) (tilt M u v) l (pos_by (sym (line_near K M q u v)) h)

  -- An edge that is not a point, and whose run is below M, tilts.
  tilt_nz : (u v : Pt ℤ) → nat_abs (v.x -ℤ u.x) < M → ¬ (u ≡ v) → ¬ (tilt M u v ≡ pos 0)
  unfolding tilt
  tilt_nz u v l n =
      dom_nz M (u.y -ℤ v.y) (v.x -ℤ u.x) l (λ e k. n (pt_eq u v (sym (eq_of_sub_zero v.x u.x k)) (eq_of_sub_zero u.y v.y e)))

  pub near_line : (u v : Pt ℤ) → nat_abs (tilt M u v) < K → nat_abs (v.x -ℤ u.x) < M → ¬ (u ≡ v) → ¬ (line u v (near K M q) ≡ pos 0)
  near_line u v l k n e = dom_nz K (line u v q) (tilt M u v) l (λ z. tilt_nz u v k n) (sym (line_near K M q u v) ∙ e)

  pub near_above : (p : Pt ℤ) → 1 < K → ¬ (above (near K M q) p ≡ pos 0)
  near_above p l e = dom_nz K (above q p) (negsuc 0) l (λ z r. pos-ne-negsuc 0 0 (sym r)) (sym (above_near K M q p) ∙ e)
