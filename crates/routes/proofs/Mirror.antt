-- The step of the filling, mirrored by reflecting the points. Assumes nothing.
use mathlib.Core.Path.{◌≡◌, sym, ap, ◌∙◌}
use lib.IntN.{ℤ, neg_ℤ, neg_ℤ-neg_ℤ}
use Rattle.algebra.proofs.Order.{pos_by, nn_by}
use Rattle.algebra.proofs.Ring.{⊝◌}
use Rattle.algebra.specs.Order.{Pos, NonNeg}
use Rattle.plane.proofs.Polynomials.{PtE, orient_e, incircle_e, by3, by4}
use Rattle.plane.specs.Determinants.{orient, incircle}
use Rattle.plane.specs.Points.{Pt}
use Rattle.cavities.specs.Choices.{Clear}
use Rattle.routes.specs.Needles.{Pierce, Apart, Over}
use Rattle.routes.proofs.Step.{step}

abbrev pub mir : Pt ℤ → Pt ℤ
mir p = record { x = neg_ℤ p.x; y = p.y }

abbrev pub mir_e : PtE → PtE
mir_e p = record { x = ⊝ p.x; y = p.y }

pub mir_orient : (a b c : Pt ℤ) → orient (mir a) (mir b) (mir c) ≡ orient b a c
unfolding orient
mir_orient = by3 (λ a b c. orient_e (mir_e a) (mir_e b) (mir_e c)) (λ a b c. orient_e b a c) tt

mir_circle : (a b c d : Pt ℤ) → incircle (mir b) (mir a) (mir c) (mir d) ≡ incircle a b c d
unfolding incircle
mir_circle = by4 (λ a b c d. incircle_e (mir_e b) (mir_e a) (mir_e c) (mir_e d)) (λ a b c d. incircle_e a b c d) tt

pub mir_same : (a b : Pt ℤ) → mir a ≡ mir b → a ≡ b
mir_same a b e = λ i. record { x = (sym (neg_ℤ-neg_ℤ a.x) ∙ ap (λ (p : Pt ℤ). neg_ℤ p.x) e ∙ neg_ℤ-neg_ℤ b.x) i; y = (e i).y }

pub pos_mir : (a b c : Pt ℤ) → Pos (orient b a c) → Pos (orient (mir a) (mir b) (mir c))
pos_mir a b c h = pos_by (mir_orient a b c) h

pub mir_pos : (a b c : Pt ℤ) → Pos (orient (mir a) (mir b) (mir c)) → Pos (orient b a c)
mir_pos a b c h = pos_by (sym (mir_orient a b c)) h

pub mir_nn : (a b c : Pt ℤ) → NonNeg (orient (mir a) (mir b) (mir c)) → NonNeg (orient b a c)
mir_nn a b c h = nn_by (sym (mir_orient a b c)) h

mir_apart : (v r c R : Pt ℤ) → Apart c R v r → Apart (mir v) (mir r) (mir c) (mir R)
mir_apart v r c R a = record {
  q1 = λ h. pos_mir R c r (a.q2 (mir_nn c R v h));
  q2 = λ h. pos_mir v r R (a.q1 (mir_nn r v c h));
  qa = λ f g h k. a.qa (mir_pos c R v k) (mir_pos R c r h) (mir_pos v r R g) (mir_pos r v c f);
  qb = λ e h k. a.qc (sym (mir_orient r v c) ∙ e) (mir_pos c R v k) (mir_pos R c r h);
  qc = λ e h k. a.qb (sym (mir_orient c R v) ∙ e) (mir_pos v r R k) (mir_pos r v c h);
}

-- THE STEP, mirrored: a needle behind the apex's pierces the base behind the apex
pub step' : (x y v r c R : Pt ℤ) → Pierce x y v r → Over x y c R → Apart c R v r → ¬ (v ≡ c) → Clear x y c v → Pierce c y v r
step' x y v r c R p o a n i =
    let s = step (mir y) (mir x) (mir v) (mir r) (mir c) (mir R)
    (record {
      left = pos_mir y x v p.left;
      right = pos_mir x y r p.right;
      before = pos_mir r v y p.after;
      after = pos_mir v r x p.before;
    }) (record {
      left = pos_mir y x c o.left;
      before = pos_mir R c y o.after;
      after = pos_mir c R x o.before;
    }) (mir_apart v r c R a) (λ e. n (mir_same v c e)) (nn_by (ap neg_ℤ (mir_circle x y c v)) i) in
    record { left = mir_pos y c v s.left; right = mir_pos c y r s.right; before = mir_pos v r c s.after; after = mir_pos r v y s.before }
