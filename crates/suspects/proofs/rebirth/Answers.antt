use Prim.Native.Nat.{◌<◌}
use native.Mathlib.Omega.{arith}
use Rattle.suspects.proofs.Stack.{reborn_few, reborn_is}
use Rattle.suspects.proofs.rebirth.Goals as goal
use Rattle.suspects.proofs.rebirth.Goals.{After-take_out-k, Start}

few : (s : Start) → s.args.m < s.args.count
few s =
    let x = s.args in
    let p = s.requires.count_in_bounds in
    reborn_few x.count x.work.now x.m x.t x.n p.0 p.2 p.3 p.4 s.requires.suspects.0 s.requires.suspects.1

less : (c : After-take_out-k) → c.take_out-k.result < c.args.count
less c = let a = few c.before.before.before in let b = c.take_out-k.ensures.less in omega arith

pub take_out-k-requires : goal.take_out-k-requires
take_out-k-requires c = let a = few (goal.at.take_out-k-requires c).Start in let p = c.requires.count_in_bounds in record { m_in_bounds = (omega arith, omega arith, omega arith, omega arith); suspects = c.requires.suspects.0 }

pub push-requires : goal.push-requires
push-requires c = let a = less (goal.at.push-requires c).After-take_out-k in let b = c.take_out-k.ensures.len in
    let p = c.requires.count_in_bounds in (omega arith, omega arith, omega arith, omega arith)

pub push-requires-2 : goal.push-requires-2
push-requires-2 c = let a = less (goal.at.push-requires-2 c).After-take_out-k in
    let b = c.take_out-k.ensures.len in
    let e = c.push.auto.work in
    (omega arith, omega arith, omega arith, omega arith)

pub returns : goal.returns
returns c = let x = c.args in
    let p = c.requires.count_in_bounds in
    reborn_is x.count x.work.now x.m x.t x.n p.0 p.2 p.3 p.4 c.requires.suspects.0 c.requires.suspects.1 c.take_out-k.new.work c.take_out-k.result c.take_out-k.ensures
    c.push.new.work c.push-2.new.work c.push.ensures c.push-2.ensures

pub overflow_add-k : goal.overflow_add-k
overflow_add-k c = let a = less (goal.at.overflow_add-k c).After-take_out-k in omega arith

pub overflow_add-result : goal.overflow_add-result
overflow_add-result c = let a = less (goal.at.overflow_add-result c).After-take_out-k in omega arith
