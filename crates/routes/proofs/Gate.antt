-- The walk's step on bare points: behind a gate with apex w there is a gate again, on the side where w is not, and it is later. Assumes
-- nothing.
use mathlib.Core.Path.{◌≡◌, ap, ◌∙◌}
use lib.IntN.{ℤ, pos, ◌+ℤ◌, ◌*ℤ◌, neg_ℤ}
use Rattle.algebra.proofs.Order.{pos_by, nn_by, pos_nn, nn_pos, pos+nn, nn+nn, pos*pos, nn*nn, Sign, is_below_zero, is_zero, is_pos, sign, not_zero}
use Rattle.algebra.proofs.Ring.{con, ◌⊕◌, ◌⊖◌, ◌⊗◌}
use Rattle.algebra.specs.Order.{Pos, NonNeg}
use Rattle.plane.proofs.Polynomials.{orient_e, by5}
use Rattle.plane.specs.Determinants.{orient}
use Rattle.plane.specs.Points.{Pt}
use Rattle.routes.specs.Gates.{Between, lead, Before, Beyond, Next, to_left, to_right}
use Rattle.routes.specs.Needles.{Pierce}
use Rattle.routes.proofs.Start.{between, between_turn}
use Rattle.routes.proofs.Step.{pos_or, turn}
use Rattle.routes.proofs.Mirror.{mir, pos_mir, mir_pos, mir_nn}

lean_a : (a b p q w : Pt ℤ) → orient b a q *ℤ (orient p q w +ℤ (orient w q a +ℤ orient q p a)) +ℤ (orient a b p *ℤ orient w q a +ℤ orient a b w *ℤ orient q p a) ≡ pos 0
unfolding orient
lean_a = by5 (λ a b p q w. orient_e b a q ⊗ (orient_e p q w ⊕ (orient_e w q a ⊕ orient_e q p a)) ⊕ (orient_e a b p ⊗ orient_e w q a ⊕ orient_e a b w ⊗ orient_e q p a)) (λ a b p q w. con (pos 0)) tt

lean_b_lem : (a b p q w : Pt ℤ) → orient b a q *ℤ orient p w b +ℤ (orient a b p *ℤ orient q w b +ℤ orient a b w *ℤ orient p q b) ≡ pos 0
unfolding orient
lean_b_lem = by5 (λ a b p q w. orient_e b a q ⊗ orient_e p w b ⊕ (orient_e a b p ⊗ orient_e q w b ⊕ orient_e a b w ⊗ orient_e p q b)) (λ a b p q w. con (pos 0)) tt

module _ (a b p q w : Pt ℤ) (g : Pierce a b p q) (d : Pos (orient p q w)) (out : Beyond p q w b) where
  exit_a : NonNeg (orient a b w) → Pos (orient q w a)
  exit_a f = pos_or (orient q w a) (orient w q a) (turn q w a) (λ h. h)
      (λ h. absurd (not_zero (pos+nn (pos*pos g.right (pos+nn d (nn+nn h (pos_nn g.before))))
      (nn+nn (nn*nn (pos_nn g.left) h) (nn*nn f (pos_nn g.before)))) (lean_a a b p q w)))

  exit_b : NonNeg (orient a b w) → Pos (orient w q b)
  exit_b f =
      pos_or (orient w q b) (orient q w b) (turn w q b) (λ h. h)
      (λ h. absurd (pos_or (orient p w b) (orient w p b) (turn p w b)
      (λ k. not_zero (pos+nn (pos*pos g.right k) (nn+nn (nn*nn (pos_nn g.left) h) (nn*nn f (pos_nn g.after)))) (lean_b_lem a b p q w)) (λ k. out h k)))

  pub go_left : Pos (orient a b w) → Pierce a b w q
  go_left f = record { left = f; right = g.right; before = exit_a (pos_nn f); after = exit_b (pos_nn f) }

  on_line : orient a b w ≡ pos 0 → Between a b w
  on_line e =
      let f = nn_by e (nn_pos 0) in
      between_turn b a w (between w q b a (exit_b f) (exit_a f) (turn a b w ∙ ap neg_ℤ e))

pub go_right : (a b p q w : Pt ℤ) → Pierce a b p q → Pos (orient p q w) → Beyond p q w b → Pos (orient b a w) → Pierce a b p w
go_right a b p q w g d out f =
    let s = go_left (mir a) (mir b) (mir q) (mir p) (mir w) (record {
      left = pos_mir a b q g.right;
      right = pos_mir b a p g.left;
      before = pos_mir p q a g.before;
      after = pos_mir q p b g.after;
    }) (pos_mir q p w d) (λ h k. out (mir_nn w q b k) (mir_nn p w b h)) (pos_mir a b w f) in
    record { left = mir_pos b a p s.right; right = mir_pos a b w s.left; before = mir_pos p w a s.before; after = mir_pos w p b s.after }

-- THE WALK'S STEP
pub next : (a b p q w : Pt ℤ) → Pierce a b p q → Pos (orient p q w) → Beyond p q w b → ¬ Between a b w → Next a b p q w
next a b p q w g d out free = go (sign (orient a b w))
  where
    go : Sign (orient a b w) → Next a b p q w
    go (is_pos h) = to_left h (go_left a b p q w g d out h)
    go (is_zero e) = absurd (free (on_line a b p q w g d out e))
    go (is_below_zero h) = to_right (pos_by (turn a b w) h) (go_right a b p q w g d out (pos_by (turn a b w) h))

lead_left : (a b p q w : Pt ℤ) → lead a b p q w q ≡ orient p q w *ℤ orient b a q
unfolding orient lead
lead_left = by5 (λ a b p q w. orient_e q w a ⊗ orient_e p q b ⊖ orient_e q p a ⊗ orient_e w q b) (λ a b p q w. orient_e p q w ⊗ orient_e b a q) tt

lead_right : (a b p q w : Pt ℤ) → lead a b p q p w ≡ orient p q w *ℤ orient a b p
unfolding orient lead
lead_right = by5 (λ a b p q w. orient_e w p a ⊗ orient_e p q b ⊖ orient_e q p a ⊗ orient_e p w b) (λ a b p q w. orient_e p q w ⊗ orient_e a b p) tt

-- and it is later
pub later_left : (a b p q w : Pt ℤ) → Pierce a b p q → Pos (orient p q w) → Before a b p q w q
later_left a b p q w g d = pos_by (lead_left a b p q w) (pos*pos d g.right)

pub later_right : (a b p q w : Pt ℤ) → Pierce a b p q → Pos (orient p q w) → Before a b p q p w
later_right a b p q w g d = pos_by (lead_right a b p q w) (pos*pos d g.left)
