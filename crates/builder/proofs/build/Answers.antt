use native.Mathlib.Omega.{arith}
use mathlib.Core.Path.{◌≡◌, refl, ◌∙◌, subst}
use Prim.Native.Nat.{ℕ}
use Rattle.tables.specs.Data.{point_count}
use Rattle.builder.specs.Stages.{Stage}
use Rattle.builder.proofs.Stages.{begun_stage, stage_done}
use Rattle.builder.proofs.build.Goals as goal

pub loop-p-init : goal.loop-p-init
loop-p-init c = record {
  staged = (
    _,
    begun_stage c.requires.figure (let e = c.rank_points.ensures.size in let r = c.requires.points_in_bounds in omega arith)
        c.rank_points.ensures.ordered.ranks c.begin.ensures,
  );
  size = refl;
  rest = λ i l. refl;
}

pub returns : goal.returns
returns c =
    let i = c.loop-p.invariant in
    let b = c.requires.figure.enough in
    let e : c.loop-p.p ≡ point_count c.args.points.now = omega arith in
    stage_done (subst (λ (x : ℕ). Stage c.args.points.now i.staged.0 x c.loop-p.work c.loop-p.at.count c.loop-p.at.newest) e i.staged.1)
    (i.size ∙ c.begin.ensures.kept.len ∙ c.rank_points.ensures.size)
    (λ j l. i.rest j l ∙ c.begin.ensures.kept.rest j l ∙ c.rank_points.ensures.rest j l)
