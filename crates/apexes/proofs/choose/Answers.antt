use mathlib.Core.Bool.{cond}
use mathlib.Core.Path.{◌≡◌}
use native.Mathlib.Omega.{arith}
use Rattle.tables.specs.Data.{point}
use Rattle.chains.specs.Areas.{chain_of}
use Rattle.seams.proofs.Fitting.{figure_near}
use Rattle.apexes.proofs.Scanning.{scan_start, scan_more, scan_end}
use Rattle.apexes.proofs.choose.Goals as goal
use Rattle.apexes.proofs.choose.Goals.{then-replaces, else-replaces}

-- the loop keeps the choice among the places that it has seen
pub loop-x-init : goal.loop-x-init
loop-x-init c = scan_start (point c.args.points.now) (chain_of c.args.n c.args.work.now) c.args.i c.args.j c.requires.3

pub replaces-requires-clause-near : goal.replaces-requires-clause-near
replaces-requires-clause-near c = figure_near c.requires.0

pub loop-x-preserved : goal.loop-x-preserved
loop-x-preserved c = let x = c.args in
    let e : c.if-replaces.k ≡ cond c.replaces.result c.loop-x.x c.loop-x.k = elim c.if-replaces.branch [
      | then-replaces w ↦ simp w.if-replaces.true w.k-is
      | else-replaces w ↦ simp w.if-replaces.false w.k-is
    ] in
    scan_more (point x.points.now) (chain_of x.n x.work.now) x.i x.j c.loop-x.invariant c.loop-x-test.true
    c.corner-a.ensures c.corner-b.ensures c.corner-c.ensures c.corner-v.ensures c.replaces.ensures e

pub returns : goal.returns
returns c = let x = c.args in scan_end (point x.points.now) (chain_of x.n x.work.now) x.i x.j c.loop-x.invariant (let z = c.loop-x-test.false in omega arith)
