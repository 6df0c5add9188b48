use mathlib.Core.Path.{◌≡◌, refl, sym, ap, ◌∙◌}
use Rattle.std.proofs.Common.{rules}
use Rattle.std.specs.Prelude.{Result, Err}
use Rattle.texts.specs.declared.Fault.{Fault}
use Rattle.texts.specs.declared.Figure.{Figure}
use Rattle.texts.specs.Figures.{outcome}
use Rattle.texts.proofs.Figures.{tail_done, tail_fault, rest_points, rest_pairs, rest_done, rest_fault, figure_first, figure_second, figure_rest, same_outcome}
use Rattle.texts.proofs.read_figure.Goals as goal
use Rattle.texts.proofs.read_figure.Goals.{then-points-n-via-then-points-n, then-points-n-via-else-points-n+then-pairs-m}

pub returns-in_err-n : goal.returns-in_err-n
returns-in_err-n c = let a = c.args in
    let h : c.from_residual.result ≡ Err c.in_err-n.field-0.0 = search rules in
    ap (λ (r : Result Figure Fault). outcome r a.points.now a.pairs.now) h
    ∙ figure_first a.text.now a.points.now a.pairs.now _ (sym c.take_number.ensures ∙ c.in_err-n.was)

pub returns-in_err-m : goal.returns-in_err-m
returns-in_err-m c = let a = c.args in
    let h : c.from_residual-in_err-m.result ≡ Err c.in_err-m.field-0.0 = search rules in
    ap (λ (r : Result Figure Fault). outcome r a.points.now a.pairs.now) h
    ∙ figure_second a.text.now a.points.now a.pairs.now _ _ (sym c.take_number.ensures ∙ c.in_ok-n.was) _ (sym c.take_number-2.ensures ∙ c.in_err-m.was)

pub returns-then-points-n : goal.returns-then-points-n
returns-then-points-n c = let a = c.args in
    elim c.then-points-n.branch [
      | then-points-n-via-then-points-n w ↦ rest_points a.text.now c.in_ok-n.n c.in_ok-m.m c.in_ok-m.word.end a.points.now a.pairs.now w.if-points-n.true
      | then-points-n-via-else-points-n+then-pairs-m w ↦ rest_pairs a.text.now c.in_ok-n.n c.in_ok-m.m c.in_ok-m.word.end a.points.now a.pairs.now w.if-pairs-m.true
    ]
    ∙ figure_rest a.text.now a.points.now a.pairs.now _ _ (sym c.take_number.ensures ∙ c.in_ok-n.was) _ _ (sym c.take_number-2.ensures ∙ c.in_ok-m.was)

pub returns-in_err-at : goal.returns-in_err-at
returns-in_err-at c = let a = c.args in
    let h : c.from_residual-in_err-at.result ≡ Err c.in_err-at.field-0.0 = search rules in
    same_outcome _ _ _ _ _ _ h c.read_numbers.ensures.1 refl
    ∙ rest_fault a.text.now c.in_ok-n.n c.in_ok-m.m c.in_ok-m.word.end a.points.now a.pairs.now c.if-points-n.false c.if-pairs-m.false _ (sym c.read_numbers.ensures.0 ∙ c.in_err-at.was)
    ∙ figure_rest a.text.now a.points.now a.pairs.now _ _ (sym c.take_number.ensures ∙ c.in_ok-n.was) _ _ (sym c.take_number-2.ensures ∙ c.in_ok-m.was)

pub returns-in_err-at-2 : goal.returns-in_err-at-2
returns-in_err-at-2 c = let a = c.args in
    let h : c.from_residual-in_err-at-2.result ≡ Err c.in_err-at-2.field-0.0 = search rules in
    same_outcome _ _ _ _ _ _ (h ∙ tail_fault a.text.now c.in_ok-n.n c.in_ok-m.m c.in_ok-at.at _ (sym c.read_numbers-2.ensures.0 ∙ c.in_err-at-2.was))
    c.read_numbers.ensures.1 c.read_numbers-2.ensures.1
    ∙ rest_done a.text.now c.in_ok-n.n c.in_ok-m.m c.in_ok-m.word.end a.points.now a.pairs.now c.if-points-n.false c.if-pairs-m.false _ (sym c.read_numbers.ensures.0 ∙ c.in_ok-at.was)
    ∙ figure_rest a.text.now a.points.now a.pairs.now _ _ (sym c.take_number.ensures ∙ c.in_ok-n.was) _ _ (sym c.take_number-2.ensures ∙ c.in_ok-m.was)

pub returns : goal.returns
returns c = let a = c.args in
    same_outcome _ _ _ _ _ _ (c.finish.ensures ∙ tail_done a.text.now c.in_ok-n.n c.in_ok-m.m c.in_ok-at.at _ (sym c.read_numbers-2.ensures.0 ∙ c.in_ok-at-2.was))
    c.read_numbers.ensures.1 c.read_numbers-2.ensures.1
    ∙ rest_done a.text.now c.in_ok-n.n c.in_ok-m.m c.in_ok-m.word.end a.points.now a.pairs.now c.if-points-n.false c.if-pairs-m.false _ (sym c.read_numbers.ensures.0 ∙ c.in_ok-at.was)
    ∙ figure_rest a.text.now a.points.now a.pairs.now _ _ (sym c.take_number.ensures ∙ c.in_ok-n.was) _ _ (sym c.take_number-2.ensures ∙ c.in_ok-m.was)
