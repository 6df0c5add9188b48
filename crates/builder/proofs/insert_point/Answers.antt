use mathlib.Core.Path.{◌≡◌, sym, ap, ◌∙◌}
use Prim.Native.Nat.{suc}
use Rattle.tables.specs.Data.{point}
use Rattle.tables.proofs.Table.{near_list}
use Rattle.nets.specs.Layout.{net_of}
use Rattle.nets.specs.Location.{locate}
use Rattle.turns.specs.Numbers.{suc_or_0}
use Rattle.splitting.proofs.Splits.{in_range, numbered}
use Rattle.builder.proofs.Stages.{stage_tiled, stage_newest, stage_some, stage_slot, split_grown, grown_ready, grown_newest, next_stage}
use Rattle.builder.proofs.insert_point.Goals as goal
use Rattle.builder.proofs.insert_point.Goals.{After-unwrap-t}

pub locate-requires : goal.locate-requires
locate-requires c = let s = c.requires.staged.1 in
    record { near = near_list _ s.figure.even s.figure.near; numbered = numbered (stage_tiled s); in_range = in_range (stage_tiled s); p_bound = (c.requires.p_bound, stage_newest s) }

pub unwrap-t-requires : goal.unwrap-t-requires
unwrap-t-requires c = stage_some c.requires.staged.1 c.requires.p_bound c.locate.result c.locate.ensures

-- the slot that holds the point
found : (c : After-unwrap-t) → let P = point c.args.points.now in suc c.unwrap-t.result ≡ locate P (net_of c.args.work.now c.args.at.count) (P c.args.p) c.args.at.newest
found c = ap suc_or_0 (sym c.unwrap-t.ensures) ∙ c.locate.ensures

pub split_at-grown-requires : goal.split_at-grown-requires
split_at-grown-requires c = let s = c.requires.staged.1 in
    record { tiled = stage_tiled s; t_lt_count = (stage_slot s c.requires.p_bound (found (goal.at.split_at-grown-requires c).After-unwrap-t), c.requires.p_bound) }

pub legalize_suspects-last-requires : goal.legalize_suspects-last-requires
legalize_suspects-last-requires c = let s = c.requires.staged.1 in
    let g = split_grown s c.requires.p_bound (found (goal.at.legalize_suspects-last-requires c).After-unwrap-t) c.split_at-grown.ensures in
    record { figure = (s.figure, grown_ready s c.requires.p_bound g); suspects = (g.ready, grown_newest s c.requires.p_bound g) }

pub returns-clause-follows : goal.returns-clause-follows
returns-clause-follows c = λ o s. next_stage s c.requires.p_bound (split_grown s c.requires.p_bound (found (goal.at.returns-clause-follows c).After-unwrap-t) c.split_at-grown.ensures)
    c.legalize_suspects-last.ensures.1 c.legalize_suspects-last.ensures.2
