-- The corridor's gates are needles: each pierces the segment from a to b, they rise along it, and no two of them cross or touch. So the
-- corners on the left are a chain with needles over a b, and those on the right, from b back to a, over b a. Assumes nothing.
use mathlib.Core.List.{[], ◌∷◌}
use mathlib.Core.Path.{◌≡◌, sym, ap, ◌∙◌, subst}
use Prim.Native.Nat.{ℕ, zero, suc, ◌+◌, ◌-◌, ◌<◌}
use native.Mathlib.Omega.{arith}
use lib.IntN.{ℤ, pos, ◌+ℤ◌, ◌-ℤ◌, ◌*ℤ◌, neg_ℤ, zero-*ℤ, *ℤ_comm}
use Rattle.algebra.proofs.Order.{pos_by, pos_nn, nn_pos, pos+nn, pos+pos, pos*pos, nn*nn, pos_cancel}
use Rattle.algebra.proofs.Ring.{Expr, var, ◌⊕◌, ◌⊖◌, ◌⊗◌, ⊝◌, solve}
use Rattle.algebra.specs.Order.{Pos}
use Rattle.plane.proofs.Convex.{lift_nn}
use Rattle.plane.proofs.Orient.{orient_cyc}
use Rattle.plane.proofs.Polynomials.{PtE, minus_e, lift_e, orient_e, pt, flat, by3, by4}
use Rattle.plane.specs.Determinants.{orient}
use Rattle.plane.specs.Points.{Pt, minus, lift}
use Rattle.cavities.specs.Choices.{dot}
use Rattle.routes.specs.Gates.{lead, Before, Between, Cross, Corridor, Witness}
use Rattle.routes.specs.Needles.{Pierce, Apart, Needles}
use Rattle.routes.proofs.Step.{dot_e, turn, both}

-- ---- two gates

abbrev lead_e : PtE → PtE → PtE → PtE → PtE → PtE → Expr
lead_e a b v r c R = orient_e R c a ⊗ orient_e v r b ⊖ orient_e r v a ⊗ orient_e c R b

ord1 : (a b v r c R : Pt ℤ) → orient a b v *ℤ orient R c r ≡ lead a b v r c R +ℤ orient b a r *ℤ orient c R v
unfolding orient lead
ord1 a b v r c R =
    solve (orient_e (pt 0) (pt 1) (pt 2) ⊗ orient_e (pt 5) (pt 4) (pt 3)) (lead_e (pt 0) (pt 1) (pt 2) (pt 3) (pt 4) (pt 5) ⊕ orient_e (pt 1) (pt 0) (pt 3) ⊗ orient_e (pt 4) (pt 5) (pt 2))
    (flat (a ∷ b ∷ v ∷ r ∷ c ∷ R ∷ [])) tt

ord2 : (a b v r c R : Pt ℤ) → orient a b c *ℤ orient v r R ≡ lead a b v r c R +ℤ orient b a R *ℤ orient r v c
unfolding orient lead
ord2 a b v r c R =
    solve (orient_e (pt 0) (pt 1) (pt 4) ⊗ orient_e (pt 2) (pt 3) (pt 5)) (lead_e (pt 0) (pt 1) (pt 2) (pt 3) (pt 4) (pt 5) ⊕ orient_e (pt 1) (pt 0) (pt 5) ⊗ orient_e (pt 3) (pt 2) (pt 4))
    (flat (a ∷ b ∷ v ∷ r ∷ c ∷ R ∷ [])) tt

betw : (p q u v : Pt ℤ) → orient q p v *ℤ neg_ℤ (dot u v p) ≡ orient p q u *ℤ lift (minus v p) +ℤ orient u v p *ℤ dot q v p
unfolding orient dot
betw = by4 (λ p q u v. orient_e q p v ⊗ (⊝ dot_e u v p)) (λ p q u v. orient_e p q u ⊗ lift_e (minus_e v p) ⊕ orient_e u v p ⊗ dot_e q v p) tt

-- u and v on the two sides of a line through p, and p on the line u v
pub between : (p q u v : Pt ℤ) → Pos (orient p q u) → Pos (orient q p v) → orient u v p ≡ pos 0 → Between u v p
between p q u v h k e = record {
  on = e;
  inner = pos_cancel (pos_nn k) (pos_by (betw p q u v ∙ ap (λ (t : ℤ). orient p q u *ℤ lift (minus v p) +ℤ t)
      (ap (λ (t : ℤ). t *ℤ dot q v p) e ∙ zero-*ℤ (dot q v p))) (pos+nn (pos*pos h long) (nn_pos 0)));
}
  where
    long : Pos (lift (minus v p))
    long = pos_cancel (lift_nn (minus q p)) (pos_by (*ℤ_comm (lift (minus q p)) (lift (minus v p))) (both v q p (pos_by (orient_cyc v q p) k)))

dot_comm : (u v p : Pt ℤ) → dot v u p ≡ dot u v p
unfolding dot
dot_comm = by3 (λ u v p. dot_e v u p) dot_e tt

pub between_turn : (u v p : Pt ℤ) → Between u v p → Between v u p
between_turn u v p h = record { on = turn u v p ∙ ap neg_ℤ h.on; inner = pos_by (ap neg_ℤ (dot_comm u v p)) h.inner }

-- two gates, the one before the other, that neither cross nor touch from the left
pub gates_apart : (a b v r c R : Pt ℤ) → Pierce a b v r → Pierce a b c R → Before a b v r c R → ¬ Cross v r c R → ¬ Between v r c → ¬ Between c R v → Apart v r c R
gates_apart a b v r c R p q l x t s = record {
  q1 = λ h. pos_cancel (pos_nn p.left) (pos_by (ord1 a b v r c R) (pos+nn l (nn*nn (pos_nn p.right) h)));
  q2 = λ h. pos_cancel (pos_nn q.left) (pos_by (ord2 a b v r c R) (pos+nn l (nn*nn (pos_nn q.right) h)));
  qa = λ f g h k. x (record { right = f; left = g; right' = h; left' = k });
  qb = λ e h k. t (between c R v r k h (turn r v c ∙ ap neg_ℤ e));
  qc = λ e h k. s (between_turn R c v (between v r R c k h (turn c R v ∙ ap neg_ℤ e)));
}

-- ---- the order of the gates

lead_chain : (A B A' B' A'' B'' : ℤ) → B' *ℤ (A'' *ℤ B -ℤ A *ℤ B'') ≡ B'' *ℤ (A' *ℤ B -ℤ A *ℤ B') +ℤ B *ℤ (A'' *ℤ B' -ℤ A' *ℤ B'')
lead_chain A B A' B' A'' B'' =
    solve (var 3 ⊗ (var 4 ⊗ var 1 ⊖ var 0 ⊗ var 5)) (var 5 ⊗ (var 2 ⊗ var 1 ⊖ var 0 ⊗ var 3) ⊕ var 1 ⊗ (var 4 ⊗ var 3 ⊖ var 2 ⊗ var 5)) (A ∷ B ∷ A' ∷ B' ∷ A'' ∷ B'' ∷ []) tt

pub before_trans : (a b v r c R d S : Pt ℤ) → Pos (orient v r b) → Pos (orient c R b) → Pos (orient d S b) → Before a b v r c R → Before a b c R d S → Before a b v r d S
unfolding lead
before_trans a b v r c R d S h k m p q =
    pos_cancel (pos_nn k) (pos_by (lead_chain (orient r v a) (orient v r b) (orient R c a) (orient c R b) (orient S d a) (orient d S b)) (pos+pos (pos*pos m p) (pos*pos h q)))

-- seen from the other side
pub lead_turn : (a b v r c R : Pt ℤ) → lead b a R c r v ≡ lead a b v r c R
unfolding orient lead
lead_turn a b v r c R = solve (lead_e (pt 1) (pt 0) (pt 5) (pt 4) (pt 3) (pt 2)) (lead_e (pt 0) (pt 1) (pt 2) (pt 3) (pt 4) (pt 5)) (flat (a ∷ b ∷ v ∷ r ∷ c ∷ R ∷ [])) tt

pub pierce_turn : {a b v r : Pt ℤ} → Pierce a b v r → Pierce b a r v
pierce_turn p = record { left = p.right; right = p.left; before = p.after; after = p.before }

-- ---- the corridor

pierce_by : {a b v r a' b' v' r' : Pt ℤ} → a ≡ a' → b ≡ b' → v ≡ v' → r ≡ r' → Pierce a' b' v' r' → Pierce a b v r
pierce_by e f g h p = subst (λ (X : Type 0). X) (sym (λ t. Pierce (e t) (f t) (g t) (h t))) p

apart_by : {a b v r a' b' v' r' : Pt ℤ} → a ≡ a' → b ≡ b' → v ≡ v' → r ≡ r' → Apart a' b' v' r' → Apart a b v r
apart_by e f g h p = subst (λ (X : Type 0). X) (sym (λ t. Apart (e t) (f t) (g t) (h t))) p

module _ (a b : Pt ℤ) (gl gr : ℕ → Pt ℤ) (n : ℕ) (cor : Corridor a b gl gr n) where
  rises : (g d : ℕ) → g + suc d < n → Before a b (gl g) (gr g) (gl (g + suc d)) (gr (g + suc d))
  rises g zero l = subst (λ (t : ℕ). Before a b (gl g) (gr g) (gl t) (gr t)) (one g) (cor.rise g (omega arith))
    where
      one : (g : ℕ) → suc g ≡ g + suc zero
      one g = omega arith
  rises g (suc d) l =
      before_trans a b (gl g) (gr g) (gl (g + suc d)) (gr (g + suc d)) (gl (g + suc (suc d))) (gr (g + suc (suc d)))
      (cor.pierce g (omega arith)).after (cor.pierce (g + suc d) (omega arith)).after (cor.pierce (g + suc (suc d)) l).after (rises g d (omega arith))
      (subst (λ (t : ℕ). Before a b (gl (g + suc d)) (gr (g + suc d)) (gl t) (gr t)) (next g d) (cor.rise (g + suc d) (omega arith)))
    where
      next : (g d : ℕ) → suc (g + suc d) ≡ g + suc (suc d)
      next g d = omega arith

  pub in_order : (g h : ℕ) → g < h → h < n → Before a b (gl g) (gr g) (gl h) (gr h)
  in_order g h l m = subst (λ (t : ℕ). Before a b (gl g) (gr g) (gl t) (gr t)) (sum g h l) (rises g (h - suc g) (omega arith))
    where
      sum : (g h : ℕ) → g < h → g + suc (h - suc g) ≡ h
      sum g h l = omega arith

  left_apart : (g h : ℕ) → g < h → h < n → Apart (gl g) (gr g) (gl h) (gr h)
  left_apart g h l m =
      let k : g < n = omega arith in
      gates_apart a b (gl g) (gr g) (gl h) (gr h) (cor.pierce g k) (cor.pierce h m) (in_order g h l m) (cor.cross g h k m) (cor.clear_left g h k m) (cor.clear_left h g m k)

  right_apart : (g h : ℕ) → g < h → h < n → Apart (gr h) (gl h) (gr g) (gl g)
  right_apart g h l m =
      let k : g < n = omega arith in
      gates_apart b a (gr h) (gl h) (gr g) (gl g) (pierce_turn (cor.pierce h m)) (pierce_turn (cor.pierce g k))
      (pos_by (lead_turn a b (gl g) (gr g) (gl h) (gr h)) (in_order g h l m)) (cor.cross' h g m k)
      (λ t. cor.clear_right h g m k (between_turn (gr h) (gl h) (gr g) t)) (λ t. cor.clear_right g h k m (between_turn (gr g) (gl g) (gr h) t))

  -- THE LEFT CHAIN: its gates rise
  pub left_needles : (z w : ℕ → Pt ℤ) (i j : ℕ) (at : ℕ → ℕ) → Witness z w gl gr a b n i j at → ((k l : ℕ) → i < k → k < l → l < j → at k < at l) → Needles z w i j
  left_needles z w i j at wit up = record {
    pierce = λ k l h. pierce_by wit.from wit.to (wit.corner k l h) (wit.needle k l h) (cor.pierce (at k) (wit.real k l h));
    apart = λ k l g m h. let ik : k < j = omega arith in let jl : i < l = omega arith in
        apart_by (wit.corner k g ik) (wit.needle k g ik) (wit.corner l jl h) (wit.needle l jl h) (left_apart (at k) (at l) (up k l g m h) (wit.real l jl h));
    differ = wit.differ;
  }

  -- THE RIGHT CHAIN, from b to a: its gates fall
  pub right_needles : (z w : ℕ → Pt ℤ) (i j : ℕ) (at : ℕ → ℕ) → Witness z w gr gl b a n i j at → ((k l : ℕ) → i < k → k < l → l < j → at l < at k) → Needles z w i j
  right_needles z w i j at wit down = record {
    pierce = λ k l h. pierce_by wit.from wit.to (wit.corner k l h) (wit.needle k l h) (pierce_turn (cor.pierce (at k) (wit.real k l h)));
    apart = λ k l g m h. let ik : k < j = omega arith in let jl : i < l = omega arith in
        apart_by (wit.corner k g ik) (wit.needle k g ik) (wit.corner l jl h) (wit.needle l jl h) (right_apart (at l) (at k) (down k l g m h) (wit.real k g ik));
    differ = wit.differ;
  }
