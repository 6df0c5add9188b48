-- The parts of the checker's work, put together. Assumes nothing.
use mathlib.Core.Path.{◌≡◌, refl, sym, ap, ◌∙◌, subst}
use mathlib.Core.Bool.{Bool, true, false, not}
use mathlib.Core.List.{List}
use Prim.Native.Nat.{ℕ, zero, suc, ◌+◌, ◌*◌, ◌/◌, ◌%◌, ◌≤◌, ◌<◌}
use native.Mathlib.Omega.{arith}
use borrow.Author.Tests.{eqb-true}
use lib.Dec.{eqb}
use lib.IntN.{ℤ}
use lib.ListN.{length, get_or}
use Rattle.algebra.proofs.Sum.{thirds}
use Rattle.tables.specs.Answers.{Paper, yes, breaks, rule, of_refusal, of_rule}
use Rattle.tables.specs.declared.Rule.{Rule}
use Rattle.tables.specs.declared.Rule.TheVariants.{TriplesProper, EdgesOnce, EdgesMet, PointsMet, AreasFill, PairsMet, EdgesStay, HouseOrder}
use Rattle.tables.specs.Data.{point_count, pair_count, end_a, end_b}
use Rattle.tables.specs.Rules.{triples, corner, rule1, rule2, rule3, rule4, rule5, rule6, rule7, rule8}
use Rattle.tables.specs.Verdicts.{and_then, rules, verdict, refusals, cleared, left_work}
use Rattle.tables.specs.declared.Refusal.{Refusal}
use Rattle.tables.specs.declared.Refusal.TheVariants.{OddLength, Counts, Room, FarPoint, NoArea, OutsidePoint, EqualPoint, BadPair, BlockedPair, CrossingPair, StuckPair}
use Rattle.tables.proofs.Table.{true_t}
use Rattle.tables.proofs.Rules.{Rule1, reads_1}
use Rattle.rooms.specs.Rest.{Rest}
use Rattle.edges.specs.Index.{Corners, Indexed, last_of}
use Rattle.rooms.proofs.Cleared.{cleared_length, cleared_zero, cleared_over, rest_then, rest_cleared}
use Rattle.list_rules.proofs.Once.{not_false}
use Rattle.checker.specs.Parts.{rules12, rules345, rules678}

-- ---- what rule 1 tells of the list
module _ (ps : List ℤ) (xs : List ℕ) (whole : length xs % 3 ≡ 0) (r : rule1 ps xs ≡ true) where
  is : Rule1 ps xs
  is = (reads_1 ps xs).says (true_t r)

  pub corners_of : Corners (point_count ps) xs
  corners_of h l =
      thirds (triples xs) (λ (k : ℕ). corner xs k < point_count ps) (λ t m. (is.proper t m).a_below) (λ t m. (is.proper t m).b_below) (λ t m. (is.proper t m).c_below) h (omega arith)

  pub few_of : length xs ≤ 6 * point_count ps
  few_of = let m = is.most in omega arith

  pub length_of : point_count ps ≤ 4096 → length xs ≤ 24561
  length_of n = let m = is.most in omega arith

-- ---- the index of nothing, in a room of zeros
pub index_none : (n : ℕ) (xs w : List ℕ) → ((p : ℕ) → p < 64 * n → get_or w p 0 ≡ 0) → Indexed n xs 0 w
unfolding last_of
index_none n xs w z = record { heads = λ u l. z u (omega arith); links = λ h l. absurd (let b : ⊥ = omega arith in b) }

-- ---- the rules in parts
pub rule_no : (k : ℕ) {b : Bool} (after : Paper) → b ≡ false → breaks k ≡ rule k b after
rule_no k after e = rw e

pub rule_so : (k : ℕ) {b : Bool} {p : Paper} (after : Paper) → b ≡ true → p ≡ after → p ≡ rule k b after
rule_so k after e h = rw e h

rule_then : (k : ℕ) (b : Bool) (rest after : Paper) → and_then (rule k b rest) after ≡ rule k b (and_then rest after)
rule_then k true rest after = refl
rule_then k false rest after = refl

pub in_parts : (ps : List ℤ) (qs xs : List ℕ) → rules ps qs xs ≡ and_then (rules12 ps xs) (and_then (rules345 ps xs) (rules678 ps qs xs))
in_parts ps qs xs =
    let last = rules678 ps qs xs in
    let third : and_then (rules345 ps xs) last ≡ rule 3 (rule3 ps xs) (rule 4 (rule4 ps xs) (rule 5 (rule5 ps xs) last)) =
    rule_then 3 (rule3 ps xs) (rule 4 (rule4 ps xs) (rule 5 (rule5 ps xs) yes)) last
    ∙ ap (rule 3 (rule3 ps xs)) (rule_then 4 (rule4 ps xs) (rule 5 (rule5 ps xs) yes) last ∙ ap (rule 4 (rule4 ps xs)) (rule_then 5 (rule5 ps xs) yes last)) in
    sym (rule_then 1 (rule1 ps xs) (rule 2 (rule2 xs) yes) (and_then (rules345 ps xs) last)
    ∙ ap (rule 1 (rule1 ps xs)) (rule_then 2 (rule2 xs) yes (and_then (rules345 ps xs) last) ∙ ap (rule 2 (rule2 xs)) third))

-- a broken part is the answer, and one that is kept leaves it to the next
rule_stays : (k : Rule) (after : Paper) → and_then (of_rule k) after ≡ of_rule k
rule_stays TriplesProper after = refl
rule_stays EdgesOnce after = refl
rule_stays EdgesMet after = refl
rule_stays PointsMet after = refl
rule_stays AreasFill after = refl
rule_stays PairsMet after = refl
rule_stays EdgesStay after = refl
rule_stays HouseOrder after = refl

pub stops : (k : Rule) (p after : Paper) → of_rule k ≡ p → of_rule k ≡ and_then p after
stops k p after e = sym (rule_stays k after) ∙ ap (λ (q : Paper). and_then q after) e

pub passes : (p after : Paper) → yes ≡ p → and_then p after ≡ after
passes p after e = ap (λ (q : Paper). and_then q after) (sym e)

-- rules 1 and 2 hold where their part is kept
pub both_hold : (ps : List ℤ) (xs : List ℕ) → yes ≡ rules12 ps xs → (rule1 ps xs ≡ true) × (rule2 xs ≡ true)
both_hold ps xs = go (rule1 ps xs) (rule2 xs)
  where
    go : (b c : Bool) → yes ≡ rule 1 b (rule 2 c yes) → (b ≡ true) × (c ≡ true)
    go true true q = (refl, refl)
    go true false q = absurd (let k : ◌≡◌ {A = ℕ} 0 1 = cc in omega arith)
    go false c q = absurd (let k : ◌≡◌ {A = ℕ} 0 1 = cc in omega arith)

-- no refusal, and the verdict is the rules'
pub verdict_rules : (ps : List ℤ) (qs xs : List ℕ) (work : ℕ) → yes ≡ refusals ps qs xs work → verdict ps qs xs work ≡ rules ps qs xs
verdict_rules ps qs xs work e = sym (ap (λ (p : Paper). and_then p (rules ps qs xs)) e)

pub verdict_refusal : (ps : List ℤ) (qs xs : List ℕ) (work : ℕ) (r : Refusal) → of_refusal r ≡ refusals ps qs xs work → of_refusal r ≡ verdict ps qs xs work
verdict_refusal ps qs xs work r e = go r ∙ ap (λ (p : Paper). and_then p (rules ps qs xs)) e
  where
    go : (r : Refusal) → of_refusal r ≡ and_then (of_refusal r) (rules ps qs xs)
    go OddLength = refl
    go Counts = refl
    go Room = refl
    go (FarPoint i) = refl
    go NoArea = refl
    go (OutsidePoint i) = refl
    go (EqualPoint i) = refl
    go (BadPair k) = refl
    go (BlockedPair k) = refl
    go (CrossingPair k) = refl
    go (StuckPair k) = refl

-- an answer of the rules leaves the room cleared
pub rules_leave : (ps : List ℤ) (qs xs : List ℕ) (n : ℕ) (w : List ℕ) → left_work (rules ps qs xs) n w ≡ cleared (64 * n) w
rules_leave ps qs xs n w = go (rule1 ps xs) (rule2 xs) (rule3 ps xs) (rule4 ps xs) (rule5 ps xs) (rule6 qs xs) (rule7 ps qs xs) (rule8 xs)
  where
    one : (k : ℕ) (b : Bool) (after : Paper) → left_work after n w ≡ cleared (64 * n) w → left_work (rule k b after) n w ≡ cleared (64 * n) w
    one k true after h = h
    one k false after h = refl

    go : (a b c d e f g h : Bool) → left_work (rule 1 a (rule 2 b (rule 3 c (rule 4 d (rule 5 e (rule 6 f (rule 7 g (rule 8 h yes)))))))) n w ≡ cleared (64 * n) w
    go a b c d e f g h =
        one 1 a _ (one 2 b _ (one 3 c _ (one 4 d _ (one 5 e _ (one 6 f _ (one 7 g _ (one 8 h yes refl)))))))

-- ---- the room, cleared and used and cleared again
pub cleared_size : (k : ℕ) (w w₁ : List ℕ) → w₁ ≡ cleared k w → length w₁ ≡ length w
cleared_size k w w₁ e = ap length e ∙ cleared_length k w

pub cleared_zeros : (k : ℕ) (w w₁ : List ℕ) → w₁ ≡ cleared k w → (p : ℕ) → p < k → get_or w₁ p 0 ≡ 0
cleared_zeros k w w₁ e p l = ap (λ (x : List ℕ). get_or x p 0) e ∙ cleared_zero k w p l

pub cleared_thrice : (k : ℕ) (w w₁ w₂ w₃ : List ℕ) → w₁ ≡ cleared k w → Rest k w₁ w₂ → w₃ ≡ cleared k w₂ → w₃ ≡ cleared k w
cleared_thrice k w w₁ w₂ w₃ e r f = f ∙ cleared_over k w w₂ (rest_then (rest_cleared k e) r)

-- ---- the ends of the pairs
pub ends_of : (n : ℕ) (qs : List ℕ) → length qs ≡ 2 * pair_count qs → ((k : ℕ) → k < pair_count qs → end_a qs k < n) →
    ((k : ℕ) → k < pair_count qs → end_b qs k < n) → (i : ℕ) → i < length qs → get_or qs i 0 < n
ends_of n qs e a b i l = go (i % 2) refl (omega arith)
  where
    at : (j : ℕ) → j ≡ i → get_or qs j 0 < n → get_or qs i 0 < n
    at j q h = subst (λ (k : ℕ). get_or qs k 0 < n) q h

    go : (r : ℕ) → i % 2 ≡ r → r < 2 → get_or qs i 0 < n
    go zero q h = at (2 * (i / 2)) (omega arith) (a (i / 2) (omega arith))
    go (suc zero) q h = at (2 * (i / 2) + 1) (omega arith) (b (i / 2) (omega arith))
    go (suc (suc r)) q h = absurd (let z : ⊥ = omega arith in z)

pub whole_of : (k : ℕ) → not (eqb k 0) ≡ false → k ≡ 0
whole_of k e = eqb-true k 0 (not_false (eqb k 0) e)
