use mathlib.Core.Path.{refl, ◌∙◌}
use native.Mathlib.Omega.{arith}
use Rattle.ranks.proofs.Places.{numbered, ranked}
use Rattle.ranks.proofs.rank_points.Goals as goal

pub mark-requires : goal.mark-requires
mark-requires c = let few = c.requires.figure.few in
    let l1 = c.fill.auto.work in
    let l2 = c.sort.auto.work in (
      few,
      omega arith,
      omega arith,
      numbered c.args.points.now c.requires.figure _ _ c.args.work.now _ _ (omega arith) c.fill.ensures c.sort.ensures
          (λ i. omega (arith, c.slice_known-2-1.given i)) (λ i. omega (arith, c.slice_known-3-1.given i)),
    )

pub returns : goal.returns
returns c = ranked c.args.points.now c.requires.figure _ _ c.args.work.now _ _ (omega arith) c.fill.ensures c.sort.ensures
    (λ i. omega (arith, c.slice_known-2-1.given i)) (λ i. omega (arith, c.slice_known-3-1.given i)) _ c.mark.ensures
    (c.mark.auto.work ∙ c.sort.auto.work ∙ c.fill.auto.work) refl (omega arith)
