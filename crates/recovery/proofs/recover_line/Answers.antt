use mathlib.Core.Path.{◌≡◌, refl, ap, ◌∙◌}
use Prim.Native.Nat.{ℕ, ◌-◌, ◌*◌}
use native.Mathlib.Omega.{arith}
use Rattle.tables.specs.Data.{point_count, point, end_a, end_b}
use Rattle.nets.specs.Layout.{net_of, Kept}
use Rattle.chains.specs.Areas.{adj, slot_of, mark_w}
use Rattle.chains.specs.Recoveries.{WholeW}
use Rattle.recovery.proofs.Carved.{some, fits, h_low, can_mark, suspects_asked, flips_asked, line_in}
use Rattle.recovery.proofs.Lines.{sticks_so}
use Rattle.recovery.proofs.recover_line.Goals as goal
use Rattle.recovery.proofs.recover_line.Goals.{In-Ok, After-mark}

pub recover-requires : goal.recover-requires
unfolding net_of
recover-requires c = let l = c.requires.lined.0 in
    let e = l.ends c.args.k c.requires.lined.1 in
    record { figure = (l.figure, refl); room = (l.room, c.requires.leaves.low, e.a_low, e.b_low) }

-- the recovery has ended
pub returns-in_default : goal.returns-in_default
returns-in_default c = let o = c.in_default.ensures in (refl, sticks_so c.requires.lined.0 c.requires.leaves o.0, o.1)

-- it is done
whole : (c : In-Ok) →
    let n = point_count c.args.points.now in
    WholeW (point c.args.points.now) n c.args.count (end_a c.args.pairs.now c.args.k) (end_b c.args.pairs.now c.args.k) c.args.work.now c.args.x
    c.in-Ok.many c.recover.new.work × Kept n c.args.work.now c.recover.new.work
whole c = c.in-Ok.ensures

pub overflow_sub-many : goal.overflow_sub-many
overflow_sub-many c = let h = whole (goal.at.overflow_sub-many c).In-Ok in some c.requires.lined.0 c.requires.leaves h.0 h.1

pub slot-s-requires : goal.slot-s-requires
slot-s-requires c =
    let h = whole (goal.at.slot-s-requires c).In-Ok in
    let f = fits c.requires.lined.0 c.requires.leaves h.0 h.1 in (c.requires.lined.0.figure.few, f.0, f.1)

-- its root is read
pub overflow_mul-s : goal.overflow_mul-s
overflow_mul-s c =
    let h = whole (goal.at.overflow_mul-s c).In-Ok in
    let e = c.slot-s.ensures in
    let l = h_low c.requires.lined.0 c.requires.leaves h.0 h.1 in
    let f = c.requires.lined.0.room.less in
    let g = c.requires.lined.0.figure.few in omega arith

pub mark-requires : goal.mark-requires
mark-requires c = let h = whole (goal.at.mark-requires c).In-Ok in rw c.slot-s.ensures (can_mark c.requires.lined.0 c.requires.leaves h.0 h.1)

-- its edge is marked
marked : (c : After-mark) →
    let h = 3 * slot_of (point_count c.args.points.now) c.recover.new.work (c.in-Ok.many - 1) in
    c.mark.new.work ≡ mark_w c.recover.new.work h (adj c.recover.new.work h)
marked c =
    let w = c.recover.new.work in c.mark.ensures ∙ ap (λ (x : ℕ). mark_w w (3 * x) (adj w (3 * x))) c.slot-s.ensures

pub suspect_all-requires : goal.suspect_all-requires
suspect_all-requires c =
    let h = whole (goal.at.suspect_all-requires c).In-Ok in
    suspects_asked c.requires.lined.0 c.requires.leaves h.0 h.1 (marked (goal.at.suspect_all-requires c).After-mark)

pub legalize_suspects-requires : goal.legalize_suspects-requires
legalize_suspects-requires c =
    let h = whole (goal.at.legalize_suspects-requires c).In-Ok in
    let f = flips_asked c.requires.lined.0 c.requires.leaves h.0 h.1 (marked (goal.at.legalize_suspects-requires c).After-mark) c.suspect_all.ensures in
    record { figure = (c.requires.lined.0.figure, f.0); suspects = (f.1, f.2) }

pub returns : goal.returns
returns c =
    let h = whole (goal.at.returns c).In-Ok in
    line_in c.requires.lined.0 c.requires.leaves h.0 h.1 (marked (goal.at.returns c).After-mark) c.suspect_all.ensures c.legalize_suspects.ensures.1
    c.legalize_suspects.ensures.2 c.legalize_suspects.ensures.3
