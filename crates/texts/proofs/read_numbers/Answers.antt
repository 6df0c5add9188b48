use mathlib.Core.Path.{◌≡◌, sym, ◌∙◌}
use Rattle.std.proofs.Common.{rules}
use Rattle.std.specs.Prelude.{Err}
use Rattle.texts.proofs.Figures.{read_go, read_stop, read_end, put_go, put_stop, put_end}
use Rattle.texts.proofs.read_numbers.Goals as goal

pub returns-in_err-value : goal.returns-in_err-value
returns-in_err-value g c = let l = c.loop-p in
    let t = g.T.Entry in
    let e = sym c.take_number.ensures ∙ c.in_err-value.was in
    let h : c.from_residual.result ≡ Err c.in_err-value.field-0.0 = search rules in (
      h ∙ sym (l.invariant.0 ∙ read_stop t.coordinate t.value c.args.text.now l.at l.p c.args.count c.loop-p-test.true _ e),
      sym (l.invariant.1 ∙ put_stop t.coordinate t.value c.args.text.now l.at l.p c.args.count l.list c.loop-p-test.true _ e),
    )

pub loop-p-preserved : goal.loop-p-preserved
loop-p-preserved g c = let l = c.loop-p in
    let t = g.T.Entry in
    let e = sym c.take_number.ensures ∙ c.in_ok-value.was in (
      l.invariant.0 ∙ read_go t.coordinate t.value c.args.text.now l.at l.p c.args.count c.loop-p-test.true _ _ e,
      l.invariant.1 ∙ put_go t.coordinate t.value c.args.text.now l.at l.p c.args.count l.list c.loop-p-test.true _ _ e,
    )

pub returns : goal.returns
returns g c = let l = c.loop-p in
    let t = g.T.Entry in (
      sym (l.invariant.0 ∙ read_end t.coordinate t.value c.args.text.now l.at l.p c.args.count c.loop-p-test.false),
      sym (l.invariant.1 ∙ put_end t.coordinate t.value c.args.text.now l.at l.p c.args.count l.list c.loop-p-test.false),
    )
