use mathlib.Core.Path.{ap, ◌∙◌}
use Prim.Native.Nat.{◌+◌, ◌*◌, ◌≤◌}
use native.Mathlib.Omega.{arith}
use lib.IntN.{pos, nat_abs}
use lib.ListN.{get_or}
use mir.Facts.{to_z-of_z}
use mir.Syntax.{w32}
use Rattle.signs.specs.Answers.{limit}
use Rattle.tables.proofs.Table.{near_point}
use Rattle.ranks.specs.Items.{word}
use Rattle.ranks.proofs.Loops.{filled_more}
use Rattle.ranks.proofs.fill.Goals as goal
use Rattle.ranks.proofs.fill.Goals.{In-loop-i}

-- ---- in the loop: the point's coordinates are within the limit
near : (c : In-loop-i) → (nat_abs (get_or c.args.points.now (2 * c.loop-i.i) (pos 0)) ≤ limit) × (nat_abs (get_or c.args.points.now (2 * c.loop-i.i + 1) (pos 0)) ≤ limit)
near c = near_point c.args.points.now c.loop-i.i (c.requires.0.near c.loop-i.i (omega arith))

pub word-x-requires : goal.word-x-requires
word-x-requires c = rw (to_z-of_z {w = w32} (record { sfits = c.word-arg-1.given })) (near (goal.at.word-x-requires c).In-loop-i).0

pub word-y-requires : goal.word-y-requires
word-y-requires c = rw (to_z-of_z {w = w32} (record { sfits = c.word-arg-in-loop-i-1.given })) (near (goal.at.word-y-requires c).In-loop-i).1

pub loop-i-preserved : goal.loop-i-preserved
loop-i-preserved c = let s = c.args in
    filled_more s.points.now s.lo c.loop-i.i s.work.now c.loop-i.work _ _ _ c.loop-i.invariant c.set_item.ensures
    (c.word-x.ensures ∙ ap word (to_z-of_z {w = w32} (record { sfits = c.word-arg-1.given })))
    (c.word-y.ensures ∙ ap word (to_z-of_z {w = w32} (record { sfits = c.word-arg-in-loop-i-1.given })))
