use mathlib.Core.Path.{refl}
use Prim.Native.Nat.{ℕ, ◌+◌, ◌*◌, ◌%◌}
use lib.ListN.{get_or}
use Rattle.wants.proofs.Cases.{marked, single, far_in, Seen, seen_near, seen_corners, seen_ranks, seen_inside, seen_outside, seen_tied}
use Rattle.wants.proofs.tries.Goals as goal
use Rattle.wants.proofs.tries.Goals.{After-far_corner-d}

pub returns-then-work-s-ne0 : goal.returns-then-work-s-ne0
returns-then-work-s-ne0 c = let x = c.args in
    let p = c.requires in
    marked x.points.now x.count x.work.now p.0 p.1 x.t x.e p.2 p.3 refl c.if-work-s-ne0.true

pub returns-then-partner-eq0 : goal.returns-then-partner-eq0
returns-then-partner-eq0 c = let x = c.args in
    let p = c.requires in
    single x.points.now x.count x.work.now p.0 p.1 x.t x.e p.2 p.3 refl c.if-partner-eq0.true

pub far_corner-d-requires : goal.far_corner-d-requires
far_corner-d-requires c = let x = c.args in
    let p = c.requires in
    far_in x.points.now x.count x.work.now p.0 p.1 x.t x.e p.2 p.3 refl c.if-work-s-ne0.false refl c.if-partner-eq0.false

-- all is read
seen : (c : After-far_corner-d) → let r = λ (i : ℕ). get_or c.args.work.now i 0 in let s = 16 * c.args.t in let e = c.args.e in
    Seen c.args.points.now c.args.count c.args.work.now c.args.t e (r (s + 6 + e)) (r (s + 3 + e)) (r (s + e)) (r (s + (e + 1) % 3)) (r (s + (e + 2) % 3)) c.far_corner-d.result
seen c = record {
  figure = c.requires.0;
  ready = c.requires.1;
  t_low = c.requires.2;
  e_low = c.requires.3;
  mark = refl;
  free = c.if-work-s-ne0.false;
  partner = refl;
  paired = c.if-partner-eq0.false;
  first = refl;
  second = refl;
  third = refl;
  far = c.far_corner-d.ensures;
}

pub circle_at-requires : goal.circle_at-requires
circle_at-requires c = record { near = seen_near (seen (goal.at.circle_at-requires c).After-far_corner-d); a_bound = seen_corners (seen (goal.at.circle_at-requires c).After-far_corner-d) }

pub below-requires : goal.below-requires
below-requires c = seen_ranks (seen (goal.at.below-requires c).After-far_corner-d)

pub returns-in-Pos : goal.returns-in-Pos
returns-in-Pos c = seen_inside (seen (goal.at.returns-in-Pos c).After-far_corner-d) c.circle_at.ensures c.in-Pos.is

pub returns-in-Zero : goal.returns-in-Zero
returns-in-Zero c = seen_tied (seen (goal.at.returns-in-Zero c).After-far_corner-d) c.circle_at.ensures c.in-Zero.is c.below.ensures

pub returns-in-Neg : goal.returns-in-Neg
returns-in-Neg c = seen_outside (seen (goal.at.returns-in-Neg c).After-far_corner-d) c.circle_at.ensures c.in-Neg.is
