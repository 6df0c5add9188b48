use mathlib.Core.Path.{◌≡◌, refl, ap, ◌∙◌}
use Prim.Native.Nat.{ℕ, ◌<◌}
use native.Mathlib.Omega.{arith}
use Rattle.algebra.specs.Sum.{sum_to}
use Rattle.tables.specs.Rules.{triples, triple_area}
use Rattle.place_rules.proofs.Base.{corners, base_area}
use Rattle.place_rules.proofs.Areas.{more_fits, more_is, sum_test}
use Rattle.place_rules.proofs.areas_fill.Goals as goal
use Rattle.place_rules.proofs.areas_fill.Goals.{After-twice_area-sum}

pub loop-t-init : goal.loop-t-init
unfolding sum_to
loop-t-init c = refl

-- a turn
few : (c : After-twice_area-sum) → c.loop-t.t < 8187
few c = let a1 = c.requires.bound.3 in let b = c.loop-t-test.true in omega arith

pub overflow_add-sum : goal.overflow_add-sum
overflow_add-sum c = more_fits c.args.points.now c.requires.near c.args.list.now c.loop-t.t (few (goal.at.overflow_add-sum c).After-twice_area-sum) _ c.loop-t.invariant c.twice_area-sum.ensures

pub loop-t-preserved : goal.loop-t-preserved
loop-t-preserved c = more_is c.args.points.now c.requires.near c.args.list.now c.loop-t.t (few (goal.at.loop-t-preserved c).After-twice_area-sum) _ c.loop-t.invariant c.twice_area-sum.ensures

pub returns : goal.returns
returns c =
    let m = c.requires.bound.3 in
    let whole : c.loop-t.t ≡ triples c.args.list.now = omega (arith, c.loop-t.auto.t-end, c.loop-t-test.false) in
    sum_test c.args.points.now c.requires.near c.args.list.now (omega arith) _ c.loop-t.auto.sum-fits
    (c.loop-t.invariant ∙ ap (λ (k : ℕ). sum_to k (triple_area c.args.points.now c.args.list.now)) whole) _ _
    (base_area (corners {ps = c.args.points.now} c.args.cw c.requires.bound.1 c.after_first-b.ensures.0 c.after_first-b.ensures.1)) c.twice_area.ensures
