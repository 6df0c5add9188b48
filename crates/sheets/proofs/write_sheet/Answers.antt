use mathlib.Core.Path.{◌∙◌}
use native.Mathlib.Omega.{arith}
use Rattle.sheets.proofs.House.{listed}
use Rattle.sheets.proofs.write_sheet.Goals as goal

pub returns : goal.returns
returns c = let w = c.args.work.now in
    let l1 = c.gather.auto.work in
    let l2 = c.sort.auto.work in
    let l3 = c.hand_out.auto.out in
    record {
      out_size = l3;
      work_size = l2 ∙ l1;
      listed =
          listed w _ c.args.count _ c.gather.ensures _ _ c.args.out.now _ c.sort.ensures c.hand_out.ensures (omega arith)
          (λ p. omega (arith, c.type_inv.out p));
      behind = c.hand_out.ensures.behind;
      slots = λ p h. c.sort.ensures.below p h ∙ c.gather.ensures.below p h;
      rest = λ p h. c.sort.ensures.above p (omega arith) ∙ c.gather.ensures.above p (omega arith);
    }
