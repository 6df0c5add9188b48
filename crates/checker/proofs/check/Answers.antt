use mathlib.Core.Path.{◌≡◌, refl, sym, ap, ◌∙◌}
use mathlib.Core.Bool.{Bool, not}
use mathlib.Core.List.{List}
use Prim.Native.Nat.{ℕ, ◌*◌, ◌/◌, ◌%◌, ◌≤◌}
use native.Mathlib.Omega.{arith}
use lib.Dec.{eqb, ltb}
use lib.IntN.{ℤ}
use lib.ListN.{length}
use Rattle.std.specs.Prelude.{Result, Ok, Err}
use Rattle.std.specs.Result.{MatchResult}
use Rattle.tables.specs.Answers.{Paper, yes, of_checked}
use Rattle.tables.specs.Data.{point_count}
use Rattle.tables.specs.Refusals.{rows}
use Rattle.tables.specs.Verdicts.{refusals, left_work, cleared}
use Rattle.tables.specs.declared.Refusal.{Refusal}
use Rattle.tables.proofs.Table.{Silent, silent, points_least, points_most, coordinates, pairs_length, end_a_low, end_b_low, not_odd}
use Rattle.rooms.proofs.Rooms.{short_is, room_is}
use Rattle.checker.proofs.Parts.{verdict_rules, rules_leave, cleared_size, cleared_zeros, cleared_thrice, ends_of, whole_of}
use Rattle.checker.proofs.check.Goals as goal

-- what the rows answer, by the words of the call and by those of the table
abbrev answered : List ℤ → List ℕ → List ℕ → List ℕ → Paper
answered ps qs list w = rows (not (eqb (length list % 3) 0)) (ltb (length w / 64) (point_count ps)) ps qs

same : (ps : List ℤ) (qs list w : List ℕ) → answered ps qs list w ≡ refusals ps qs list (length w)
same ps qs list w = ap (λ (b : Bool). rows (not (eqb (length list % 3) 0)) b ps qs) (short_is (point_count ps) (length w))

-- where the `?` went on, the rows refused nothing
kept : (r : Result (Unit {0}) Refusal) (P : Unit {0} → Type 0) (Q : Refusal → Type 0) → MatchResult r P Q → ((e : Refusal) → Q e → ⊥) → yes ≡ of_checked r
kept (Ok x) P Q h f = refl
kept (Err e) P Q h f = absurd (f e h)

module _ (ps : List ℤ) (qs list w : List ℕ) (none : yes ≡ answered ps qs list w) where
  quiet : Silent (not (eqb (length list % 3) 0)) (ltb (length w / 64) (point_count ps)) ps qs
  quiet = silent _ _ ps qs (sym none)

  room : 64 * point_count ps ≤ length w
  room = room_is (point_count ps) (length w) quiet.row3

  -- the working area then
  clear1 : (w₁ : List ℕ) → w₁ ≡ left_work (answered ps qs list w) (point_count ps) w → w₁ ≡ cleared (64 * point_count ps) w
  clear1 w₁ e = e ∙ ap (λ (p : Paper). left_work p (point_count ps) w) (sym none)

pub judge-answer-requires : goal.judge-answer-requires
judge-answer-requires c =
    let ps = c.args.points.now in
    let qs = c.args.pairs.now in
    let xs = c.args.list.now in
    let w = c.args.work.now in
    let n = point_count ps in
    let none = kept c.rows.result _ _ c.in_ok-map_err.ensures.cases (λ e q. q) ∙ c.rows.ensures.answer in
    let q = quiet ps qs xs w none in
    let e = clear1 ps qs xs w none c.rows.new.work c.rows.ensures.work in (
      record {
        near = coordinates q;
        least = points_least q;
        most = points_most q;
        whole = whole_of (length xs % 3) (not_odd q);
        room = omega (arith, room ps qs xs w none, cleared_size (64 * n) w c.rows.new.work e);
      },
      cleared_zeros (64 * n) w c.rows.new.work e,
      ends_of n qs (pairs_length q) (end_a_low q) (end_b_low q),
    )

-- after the rules
pub returns-clause-work : goal.returns-clause-work
returns-clause-work c =
    let ps = c.args.points.now in
    let qs = c.args.pairs.now in
    let xs = c.args.list.now in
    let w = c.args.work.now in
    let n = point_count ps in
    let none = kept c.rows.result _ _ c.in_ok-map_err.ensures.cases (λ e q. q) ∙ c.rows.ensures.answer in
    let found = verdict_rules ps qs xs (length w) (none ∙ same ps qs xs w) in
    cleared_thrice (64 * n) w c.rows.new.work c.judge-answer.new.work c.clear.new.work (clear1 ps qs xs w none c.rows.new.work c.rows.ensures.work)
    c.judge-answer.ensures.1 c.clear.ensures ∙ sym (rules_leave ps qs xs n w) ∙ ap (λ (p : Paper). left_work p n w) (sym found)
