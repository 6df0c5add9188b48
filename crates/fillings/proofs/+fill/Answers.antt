use mathlib.Core.Path.{refl, sym, ap, ◌∙◌}
use Rattle.std.specs.Prelude.{Err}
use Rattle.std.proofs.lemmas.Result.{err_from_is_err_and}
use Prim.Native.Nat.{ℕ, ◌+◌, ◌-◌, ◌*◌, ◌<◌}
use native.Mathlib.Omega.{arith}
use Rattle.tables.specs.Data.{point}
use Rattle.fillings.proofs.Parts.{Based, s_low, room0, filled_gap, filled_node, stuck_here, stuck_before, stuck_after, came_stuck}
use Rattle.fillings.proofs.+fill.Goals as goal
use Rattle.fillings.proofs.+fill.Goals.{After-cut_over-s}

-- ---- a gap
pub returns-then-j-i : goal.returns-then-j-i
returns-then-j-i t c = let x = c.args in
    let p = c.requires.room in
    filled_gap (point x.points.now) x.n x.count x.work.now _ x.i x.j x.p x.top p.0 c.if-j-i.true p.2 p.4 c.move_to.ensures

-- ---- no apex
pub returns-then-not-is_over : goal.returns-then-not-is_over
returns-then-not-is_over t c = let x = c.args in
    let i = c.requires.room.1 in
    let z = c.if-j-i.false in
    stuck_here (point x.points.now) x.n x.count x.work.now x.i x.j c.choose-k.result (omega arith) c.choose-k.ensures.0 (sym c.is_over.ensures ∙ c.if-not-is_over.true)

-- ---- the triangle over the base is cut
based : (t : ℕ) (c : After-cut_over-s t) →
    Based (point c.args.points.now) c.args.n c.args.count c.args.work.now c.cut_over-s.new.work c.args.i c.args.j c.choose-k.result c.args.p c.args.top
    (c.args.p + (c.args.j - c.args.i - 2)) c.cut_over-s.result
based t c =
    let p = c.requires.room in
    let z = c.if-j-i.false in
    let i = p.1 in
    record {
      room = p.0;
      long = omega arith;
      is = c.choose-k.ensures.0;
      ik = c.choose-k.ensures.1;
      kj = c.choose-k.ensures.2;
      jn = p.2;
      fits = p.3;
      low = p.4;
      left = sym c.is_over.ensures ∙ c.if-not-is_over.false;
      last = refl;
      slot = c.cut_over-s.ensures.value;
      cut = c.cut_over-s.ensures.work_after;
    }

slot_low : (t : ℕ) (c : After-cut_over-s t) → c.cut_over-s.result < 2 * c.args.n
slot_low t c = s_low (point c.args.points.now) c.args.n c.args.count (based t c)

pub fill-requires : goal.fill-requires
fill-requires t c =
    let m = c.decreases in
    let p = c.requires.room in
    let i = p.1 in
    let j = p.2 in
    let f = p.3 in
    let ik = c.choose-k.ensures.1 in
    let kj = c.choose-k.ensures.2 in
    let d = (goal.at.fill-requires t c).After-cut_over-s in
    let l = slot_low t d in (
      omega arith,
      (c.requires.figure, (room0 (point c.args.points.now) c.args.n c.args.count (based t d), ik, omega arith, omega arith, omega arith)),
    )

-- a part of it sticks
pub returns-in_err-fill : goal.returns-in_err-fill
returns-in_err-fill t c =
    let k = err_from_is_err_and c.from_residual.result c.from_residual.ensures.1 in
    let e = c.in_err-fill.ensures in
    came_stuck (point c.args.points.now) c.args.n c.args.count c.args.p c.args.top (k.1 ∙ ap Err k.2) e.0 (stuck_before (point c.args.points.now) c.args.n c.args.count (based t (goal.at.returns-in_err-fill t c).After-cut_over-s) (e.1, e.2))

pub returns-in_err-fill-2 : goal.returns-in_err-fill-2
returns-in_err-fill-2 t c =
    let k = err_from_is_err_and c.from_residual-in_err-fill-2.result c.from_residual-in_err-fill-2.ensures.1 in
    let e = c.in_err-fill-2.ensures in
    came_stuck (point c.args.points.now) c.args.n c.args.count c.args.p c.args.top (k.1 ∙ ap Err k.2) e.0
    (stuck_after (point c.args.points.now) c.args.n c.args.count (based t (goal.at.returns-in_err-fill-2 t c).After-cut_over-s) c.in_ok-fill.ensures (e.1, e.2))

-- both parts are filled
pub returns : goal.returns
returns t c =
    filled_node (point c.args.points.now) c.args.n c.args.count (based t (goal.at.returns t c).After-cut_over-s) c.in_ok-fill.ensures c.in_ok-fill-2.ensures c.join.ensures
