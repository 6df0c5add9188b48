use Rattle.std.proofs.Common.{◌≡◌, [], ◌∷◌, Bool, true, false, not, List, ℤ, pos, refl, sym, ap, ◌∙◌, true≢false}
use Rattle.algebra.specs.Size.{Small}
use Rattle.algebra.specs.Tests.{eq_z}
use Rattle.algebra.proofs.Ring.{look}
use Rattle.algebra.proofs.Machine.{backs}
use Rattle.plane.specs.Determinants.{orient}
use Rattle.signs.specs.Answers.{limit}
use Rattle.signs.specs.Points.{pt_of}
use Rattle.signs.specs.declared.Point.{Point}
use Rattle.tables.specs.Refusals.{between, in_segment}
use Rattle.segments.proofs.SignTests.{same_zero, zero_told}
use Rattle.crossings.proofs.Passed.{looks, told}
use Rattle.crossings.proofs.Inside.{inside, off, not_told, same_is}
use Rattle.crossings.proofs.in_segment_xy.Goals as goal
use Rattle.crossings.proofs.in_segment_xy.Goals.{Joined-between, Else-ne, then-eq, else-eq, then-between, else-between, then-between-2, else-between-2}
use mir.Syntax.{w32}

abbrev ρ : Point → Point → Point → List ℤ
ρ a b p = a.x ∷ a.y ∷ b.x ∷ b.y ∷ p.x ∷ p.y ∷ []

abbrev test : List ℤ → Bool
test xs = between (look xs 0) (look xs 1) (look xs 2)

-- Each call was passed coordinates that went through bits, so its answer is that of the coordinates themselves.
module _ (a b p : Point) (h : Small limit (ρ a b p)) {r v : Bool} where
  in_x : r ≡ test (backs w32 (looks (ρ a b p) (0 ∷ 2 ∷ 4 ∷ []))) → r ≡ v → between a.x b.x p.x ≡ v
  in_x = told (ρ a b p) h (0 ∷ 2 ∷ 4 ∷ []) test

  in_y : r ≡ test (backs w32 (looks (ρ a b p) (1 ∷ 3 ∷ 5 ∷ []))) → r ≡ v → between a.y b.y p.y ≡ v
  in_y = told (ρ a b p) h (1 ∷ 3 ∷ 5 ∷ []) test

record Held (a b p : Point) : Type 0 where
  x : between a.x b.x p.x ≡ true
  y : between a.y b.y p.y ≡ true
  flat : eq_z (orient (pt_of a) (pt_of b) (pt_of p)) (pos 0) ≡ true

-- The first three tests.
held : (c : Joined-between) → c.if-between.value ≡ true → Held c.args.a c.args.b c.args.p
held c h = elim c.if-between.branch [
  | then-between u ↦ elim c.if-eq.branch [
    | then-eq t ↦ record {
      x = in_x c.args.a c.args.b c.args.p c.requires t.between.ensures (sym t.value-is ∙ u.if-between.true);
      y = in_y c.args.a c.args.b c.args.p c.requires u.between-then-between.ensures (sym u.value-is ∙ h);
      flat = sym (zero_told _ c.orient_xy.ensures (c.eq.ensures ∙ same_zero c.orient_xy.result)) ∙ t.if-eq.true;
    }
    | else-eq t ↦ absurd (true≢false (sym u.if-between.true ∙ t.value-is ∙ t.if-eq.false))
  ]
  | else-between u ↦ absurd (true≢false (sym h ∙ u.value-is ∙ u.if-between.false))
]

none : (c : Joined-between) → c.if-between.value ≡ false → in_segment (pt_of c.args.a) (pt_of c.args.b) (pt_of c.args.p) ≡ false
none c h = elim c.if-eq.branch [
  | else-eq t ↦ off _ _ _ (sym (zero_told _ c.orient_xy.ensures (c.eq.ensures ∙ same_zero c.orient_xy.result)) ∙ t.if-eq.false)
  | then-eq t ↦ elim c.if-between.branch [
    | else-between u ↦ inside _ _ _ (in_x c.args.a c.args.b c.args.p c.requires t.between.ensures (sym t.value-is ∙ u.if-between.false)) refl refl refl refl
    | then-between u ↦ inside _ _ _ (in_x c.args.a c.args.b c.args.p c.requires t.between.ensures (sym t.value-is ∙ u.if-between.true))
        (in_y c.args.a c.args.b c.args.p c.requires u.between-then-between.ensures (sym u.value-is ∙ h)) refl refl refl
  ]
]

pub returns-then-ne : goal.returns-then-ne
returns-then-ne c = elim c.if-between-2.branch [
  | then-between-2 w ↦
      let k = held (goal.at.returns-then-ne c).Joined-between w.if-between-2.true in
      c.ne-then-ne.ensures ∙ ap not (same_is c.args.p c.args.b) ∙ sym (inside _ _ _ k.x k.y k.flat (sym (same_is c.args.p c.args.a) ∙ not_told _ (sym w.ne.ensures ∙ sym w.value-is ∙ c.if-ne.true)) refl)
  | else-between-2 w ↦ absurd (true≢false (sym c.if-ne.true ∙ w.value-is ∙ w.if-between-2.false))
]

pub returns-else-ne : goal.returns-else-ne
returns-else-ne c = c.if-ne.false ∙ sym (elim c.if-between-2.branch [
  | then-between-2 w ↦
      let k = held (goal.at.returns-else-ne c).Joined-between w.if-between-2.true in
      inside _ _ _ k.x k.y k.flat (sym (same_is c.args.p c.args.a) ∙ not_told _ (sym w.ne.ensures ∙ sym w.value-is ∙ c.if-ne.false)) refl
  | else-between-2 w ↦ none (goal.at.returns-else-ne c).Joined-between w.if-between-2.false
])
