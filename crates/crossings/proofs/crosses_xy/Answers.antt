use mathlib.Core.Path.{◌≡◌, refl, sym, ◌∙◌}
use mathlib.Core.Bool.{false, true≢false}
use mathlib.Core.List.{List, [], ◌∷◌}
use lib.IntN.{ℤ}
use Rattle.algebra.proofs.Ring.{look}
use Rattle.signs.specs.Points.{pt_of}
use Rattle.tables.specs.Refusals.{crosses}
use Rattle.crossings.specs.Boxes.{apart}
use Rattle.crossings.proofs.Passed.{told}
use Rattle.crossings.proofs.Inside.{crossing, not_told}
use Rattle.crossings.proofs.Apart.{apart_x, apart_y}
use Rattle.crossings.proofs.crosses_xy.Goals as goal
use Rattle.crossings.proofs.crosses_xy.Goals.{Start, Else-on_both_sides, then-not-ranges_apart, else-not-ranges_apart, then-not-ranges_apart-2, else-not-ranges_apart-2}

abbrev ρ : Start → List ℤ
ρ c = c.args.a.x ∷ c.args.a.y ∷ c.args.b.x ∷ c.args.b.y ∷ c.args.c.x ∷ c.args.c.y ∷ c.args.d.x ∷ c.args.d.y ∷ []

pub returns-then-on_both_sides : goal.returns-then-on_both_sides
returns-then-on_both_sides c = elim c.if-not-ranges_apart-2.branch [
  | then-not-ranges_apart-2 w ↦ sym (crossing _ _ _ _ (sym w.on_both_sides.ensures ∙ sym w.value-is ∙ c.if-on_both_sides.true) (sym c.on_both_sides-then-on_both_sides.ensures))
  | else-not-ranges_apart-2 w ↦ absurd (true≢false (sym c.if-on_both_sides.true ∙ w.value-is ∙ w.if-not-ranges_apart-2.false))
]

-- Ranges with a gap were passed coordinates that went through bits.
none : (c : Else-on_both_sides) → crosses (pt_of c.args.a) (pt_of c.args.b) (pt_of c.args.c) (pt_of c.args.d) ≡ false
none c = elim c.if-not-ranges_apart-2.branch [
  | then-not-ranges_apart-2 w ↦ crossing _ _ _ _ (sym w.on_both_sides.ensures ∙ sym w.value-is ∙ c.if-on_both_sides.false) refl
  | else-not-ranges_apart-2 w ↦ elim c.if-not-ranges_apart.branch [
    | then-not-ranges_apart u ↦ apart_x _ _ _ _ (told (ρ (goal.at.returns-else-on_both_sides c).Start) c.requires (0 ∷ 2 ∷ 4 ∷ 6 ∷ [])
        (λ (xs : List ℤ). apart (look xs 0) (look xs 1) (look xs 2) (look xs 3)) u.ranges_apart-then-not-ranges_apart.ensures (not_told _ (sym u.value-is ∙ w.if-not-ranges_apart-2.false)))
    | else-not-ranges_apart u ↦ apart_y _ _ _ _ (told (ρ (goal.at.returns-else-on_both_sides c).Start) c.requires (1 ∷ 3 ∷ 5 ∷ 7 ∷ [])
        (λ (ys : List ℤ). apart (look ys 0) (look ys 1) (look ys 2) (look ys 3)) c.ranges_apart.ensures u.if-not-ranges_apart.false)
  ]
]

pub returns-else-on_both_sides : goal.returns-else-on_both_sides
returns-else-on_both_sides c = c.if-on_both_sides.false ∙ sym (none c)
