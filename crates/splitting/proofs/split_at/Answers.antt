use Rattle.tables.specs.Data.{point}
use Rattle.tables.proofs.Table.{near_list}
use Rattle.nets.specs.Layout.{net_of}
use Rattle.nets.specs.Location.{edge_at}
use Rattle.turns.specs.Numbers.{suc_or_0}
use Rattle.splitting.proofs.Splits.{in_range, numbered, inside_asked, side_asked, edge_asked, edge_low, half_asked, across_low, at_inside, at_side, at_edge}
use mathlib.Core.Path.{◌≡◌, sym, ap, ◌∙◌}
use Prim.Native.Nat.{suc, ◌-◌}
use native.Mathlib.Omega.{arith}
use Rattle.splitting.proofs.split_at.Goals as goal
use Rattle.splitting.proofs.split_at.Goals.{In-Some}

pub edge_at-requires : goal.edge_at-requires
edge_at-requires c = record { near = near_list _ c.requires.tiled.figure.even c.requires.tiled.figure.near; numbered = numbered c.requires.tiled; in_range = in_range c.requires.tiled; p_bound = (c.requires.t_lt_count.1, c.requires.t_lt_count.0) }

pub split_interior-requires : goal.split_interior-requires
split_interior-requires c = let the_clauses = inside_asked c.requires.tiled c.requires.t_lt_count.1
    c.args.t c.requires.t_lt_count.0 in record { in_range = the_clauses.0; t_lt_count = the_clauses.1 }

pub returns-in_default : goal.returns-in_default
returns-in_default c = at_inside c.requires.tiled c.requires.t_lt_count.1 c.args.t c.requires.t_lt_count.0
    (ap suc_or_0 (sym c.in_default.is) ∙ c.edge_at.ensures) c.split_interior.ensures

-- the half-edge that the point is on
on : (c : In-Some) → let P = point c.args.points.now in suc c.in-Some.h ≡ edge_at P (net_of c.args.work.now c.args.count) (P c.args.p) c.args.t
on c = ap suc_or_0 (sym c.in-Some.is) ∙ c.edge_at.ensures

pub partner-across-requires : goal.partner-across-requires
partner-across-requires c = half_asked c.requires.tiled c.requires.t_lt_count.1 c.args.t c.requires.t_lt_count.0 (on (goal.at.partner-across-requires c).In-Some)

pub split_side-requires : goal.split_side-requires
split_side-requires c = let i = on (goal.at.split_side-requires c).In-Some in
    let the_clauses = side_asked c.requires.tiled c.requires.t_lt_count.1 c.in-Some.h (edge_low c.requires.tiled c.requires.t_lt_count.1 c.args.t c.requires.t_lt_count.0 i)
    in record { in_range = the_clauses.0; h_bound = the_clauses.1 }

pub returns-then-across-eq0 : goal.returns-then-across-eq0
returns-then-across-eq0 c = at_side c.requires.tiled c.requires.t_lt_count.1 c.args.t c.requires.t_lt_count.0 c.in-Some.h (on (goal.at.returns-then-across-eq0 c).In-Some)
    c.partner-across.result c.partner-across.ensures (omega arith)
    c.split_side.ensures

pub split_edge-requires : goal.split_edge-requires
split_edge-requires c = let i = on (goal.at.split_edge-requires c).In-Some in
    let the_clauses = edge_asked c.requires.tiled c.requires.t_lt_count.1 c.in-Some.h (c.partner-across.result - 1)
    (edge_low c.requires.tiled c.requires.t_lt_count.1 c.args.t c.requires.t_lt_count.0 i)
    (across_low c.requires.tiled c.requires.t_lt_count.1 c.args.t c.requires.t_lt_count.0 c.in-Some.h i c.partner-across.result c.partner-across.ensures (omega arith))
    in record { in_range = the_clauses.0; h_bound = the_clauses.1 }

pub returns : goal.returns
returns c = at_edge c.requires.tiled c.requires.t_lt_count.1 c.args.t c.requires.t_lt_count.0 c.in-Some.h (on (goal.at.returns c).In-Some)
    c.partner-across.result c.partner-across.ensures (omega arith)
    c.split_edge.ensures
