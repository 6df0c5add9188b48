use mathlib.Core.Path.{sym, ap, ◌∙◌}
use native.Mathlib.Omega.{arith}
use Rattle.tables.specs.Answers.{of_rules}
use Rattle.checker.proofs.Parts.{length_of, both_hold}
use Rattle.checker.proofs.judge.Goals as goal

pub cover-requires : goal.cover-requires
cover-requires c = let p = c.requires.0 in
    let s = c.shape.ensures in
    let ok = c.in_ok-shape.was in
    let hold = both_hold c.args.points.now c.args.list.now (sym (ap of_rules ok) ∙ s.answer) in (
      record { near = p.near; least = p.least; most = p.most; whole = p.whole; room = omega (arith, p.room, s.size) },
      s.listed ok,
      length_of c.args.points.now c.args.list.now p.whole hold.0 p.most,
    )
