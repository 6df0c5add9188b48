-- The laws of the signs, at every limit. Assumes nothing.
use mathlib.Core.Path.{◌≡◌, refl, sym, ap, ap₂, ◌∙◌}
use mathlib.Core.Bool.{Bool, true, false, cond, ◌&&◌}
use Prim.Native.Nat.{ℕ, zero, suc}
use lib.IntN.{ℤ, pos, negsuc, neg_ℤ}
use Rattle.std.proofs.Common.{Option, Some, None}
use Rattle.plane.specs.Points.{Pt}
use Rattle.plane.specs.Determinants.{orient, incircle}
use Rattle.plane.proofs.Orient.{orient_cyc, orient_swap}
use Rattle.plane.proofs.Circle.{incircle_cyc, incircle_swap, incircle_flip}
use Rattle.signs.specs.Signs.{sign_z, flipped}
use Rattle.signs.specs.Answers.{within, orient_answer, circle_answer, opposite}
use Rattle.signs.specs.Laws.{SignLaws}
use Rattle.signs.specs.declared.Sign.{Sign}

pub sign_neg : (z : ℤ) → sign_z (neg_ℤ z) ≡ flipped (sign_z z)
unfolding sign_z
sign_neg (pos zero) = refl
sign_neg (pos (suc n)) = refl
sign_neg (negsuc n) = refl

-- ---- a test of several does not depend on their order

swap : (a b : Bool) → (a && b) ≡ (b && a)
swap true true = refl
swap true false = refl
swap false true = refl
swap false false = refl

turn : (a b c : Bool) → (a && b && c) ≡ (b && c && a)
turn true true true = refl
turn true true false = refl
turn true false c = refl
turn false true true = refl
turn false true false = refl
turn false false c = refl

back : (a b c : Bool) → (a && b && c) ≡ (a && c && b)
back true b c = swap b c
back false b c = refl

-- ---- an answer by a test and a sign

answer : Bool → Sign → Option Sign
answer t s = cond t (Some s) None

turned : (t : Bool) (s : Sign) → answer t (flipped s) ≡ opposite (answer t s)
unfolding answer
turned true s = refl
turned false s = refl

same : (t u : Bool) (y z : ℤ) → t ≡ u → y ≡ z → answer t (sign_z y) ≡ answer u (sign_z z)
same t u y z e h = ap₂ (λ (b : Bool) (w : ℤ). answer b (sign_z w)) e h

contrary : (t u : Bool) (y z : ℤ) → t ≡ u → y ≡ neg_ℤ z → answer t (sign_z y) ≡ opposite (answer u (sign_z z))
contrary t u y z e h = same t u y (neg_ℤ z) e h ∙ ap (answer u) (sign_neg z) ∙ turned u (sign_z z)

pub laws : (k : ℕ) → SignLaws k
unfolding orient_answer circle_answer answer
laws k = record {
  orient_cyclic = λ a b c. same (within k a && within k b && within k c) (within k b && within k c && within k a) (orient a b c) (orient b c a)
      (turn (within k a) (within k b) (within k c)) (orient_cyc a b c);
  orient_antisymmetric = λ a b c. contrary (within k a && within k c && within k b) (within k a && within k b && within k c) (orient a c b)
      (orient a b c) (back (within k a) (within k c) (within k b)) (orient_last a b c);
  orient_reversed = λ a b c. contrary (within k b && within k a && within k c) (within k a && within k b && within k c) (orient b a c) (orient a b c)
      (first (within k b) (within k a) (within k c)) (orient_swap b a c);
  circle_cyclic = λ a b c d. same (all k a b c d) (all k b c a d) (incircle a b c d) (incircle b c a d)
      (ap (λ (t : Bool). t && within k d) (turn (within k a) (within k b) (within k c))) (incircle_cyc a b c d);
  circle_antisymmetric = λ a b c d. contrary (all k a c b d) (all k a b c d) (incircle a c b d) (incircle a b c d)
      (ap (λ (t : Bool). t && within k d) (back (within k a) (within k c) (within k b))) (circle_last a b c d);
  circle_reversed = λ a b c d. contrary (all k b a c d) (all k a b c d) (incircle b a c d) (incircle a b c d)
      (ap (λ (t : Bool). t && within k d) (first (within k b) (within k a) (within k c))) (incircle_swap b a c d);
  circle_either_side = λ a b c d h. same (all k a b c d) (all k b a d c) (incircle a b c d) (incircle b a d c) (four (within k a) (within k b) (within k c) (within k d)) (incircle_flip a b c d);
}
  where
    all : ℕ → Pt ℤ → Pt ℤ → Pt ℤ → Pt ℤ → Bool
    all k a b c d = within k a && within k b && within k c && within k d

    first : (a b c : Bool) → (a && b && c) ≡ (b && a && c)
    first a b c = ap (λ (t : Bool). t && c) (swap a b)

    four : (a b c d : Bool) → (a && b && c && d) ≡ (b && a && d && c)
    four true true c d = swap c d
    four true false c d = refl
    four false true c d = refl
    four false false c d = refl

    orient_last : (a b c : Pt ℤ) → orient a c b ≡ neg_ℤ (orient a b c)
    orient_last a b c = orient_cyc a c b ∙ orient_swap c b a ∙ ap neg_ℤ (sym (orient_cyc a b c))

    circle_last : (a b c d : Pt ℤ) → incircle a c b d ≡ neg_ℤ (incircle a b c d)
    circle_last a b c d = incircle_cyc a c b d ∙ incircle_swap c b a d ∙ ap neg_ℤ (sym (incircle_cyc a b c d))
