use mathlib.Core.Path.{◌≡◌, subst}
use Prim.Native.Nat.{ℕ}
use native.Mathlib.Omega.{arith}
use Rattle.tables.specs.Data.{pair_count}
use Rattle.sweeps.specs.Least.{Swept}
use Rattle.sweeps.proofs.Least.{together_next, found_none, swept_none, swept_more}
use Rattle.sweeps.proofs.sweep.Goals as goal

pub loop-p-init : goal.loop-p-init
loop-p-init c = let s = c.args in (
  omega arith,
  omega arith,
  λ t h g. absurd (omega arith),
  found_none s.points.now s.pairs.now,
  swept_none s.points.now s.pairs.now s.at s.work.now _,
)

pub group_end-end-requires : goal.group_end-end-requires
group_end-end-requires c = let i = c.loop-p.invariant in (c.requires.pairs_in_bounds, c.loop-p-test.true, i.1, i.2)

pub scan-least-requires : goal.scan-least-requires
scan-least-requires c = let g = c.group_end-end.ensures in
    record { figure = c.requires.figure; ends = c.requires.ends; row = c.requires.row; found = c.loop-p.invariant.3; pairs_in_bounds = (c.requires.pairs_in_bounds, g.0, g.1, g.2) }

pub loop-p-preserved : goal.loop-p-preserved
loop-p-preserved c = let g = c.group_end-end.ensures in
    let s = c.args in
    let r = c.scan-least.ensures in (
      omega arith,
      g.1,
      together_next s.work.now s.at c.loop-p.p _ g.2,
      r.0,
      swept_more s.points.now s.pairs.now s.at s.work.now c.loop-p.p c.loop-p.least _ c.loop-p.invariant.4 r.1 r.2,
    )

pub returns : goal.returns
returns c = let l = c.loop-p in
    let s = c.args in
    let e : l.p ≡ pair_count s.pairs.now = let h = c.loop-p-test.false in let i = l.invariant.0 in omega arith in
    (l.invariant.3, subst (λ (p : ℕ). Swept s.points.now s.pairs.now s.at s.work.now p l.least) e l.invariant.4)
