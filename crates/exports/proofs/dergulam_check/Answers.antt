use mathlib.Core.Path.{sym, ap, ◌∙◌, subst}
use Prim.Native.Nat.{◌<◌}
use lib.ListN.{length}
use Rattle.tables.specs.Answers.{Paper}
use Rattle.row_numbers.specs.Numbers.{value_in}
use Rattle.packing.specs.Packed.{shift, packed}
use Rattle.exports.proofs.Bounds.{verdict_below}
use Rattle.exports.proofs.dergulam_check.Goals as goal

pub verdict-requires : goal.verdict-requires
verdict-requires c = let s = c.args in
    subst (λ (p : Paper). value_in p < shift) (sym c.check.ensures.verdict) (verdict_below s.points.now s.pairs.now s.list.now (length s.work.now))

pub returns : goal.returns
returns c = let s = c.args in record {
  answer = record {
    number = c.verdict.ensures ∙ ap packed c.check.ensures.verdict;
    small = verdict_below s.points.now s.pairs.now s.list.now (length s.work.now);
  };
  work = c.check.ensures.work;
}
