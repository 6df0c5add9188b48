use Prim.Native.Nat.{◌-◌, ◌≤◌, ◌<◌}
use native.Mathlib.Omega.{arith}
use lib.ListN.{get_or}
use Rattle.nets.specs.Layout.{stack_cell}
use Rattle.suspects.proofs.Stack.{suspects_few, popped_low}
use Rattle.suspects.proofs.pop.Goals as goal
use Rattle.suspects.proofs.pop.Goals.{Start}

few : (s : Start) → s.args.m ≤ s.args.count
few s = suspects_few s.args.count s.args.work.now s.args.work.now s.args.m s.requires.3

low : (s : Start) → get_or s.args.work.now (stack_cell (s.args.m - 1)) 0 < s.args.count
low s = popped_low s.args.count s.args.work.now s.args.m s.requires.2 s.requires.3

pub overflow_mul-s : goal.overflow_mul-s
overflow_mul-s c = let l = few (goal.at.overflow_mul-s c).Start in omega arith

pub overflow_add-s : goal.overflow_add-s
overflow_add-s c = let l = few (goal.at.overflow_add-s c).Start in omega arith

pub offset_bounds-work-m : goal.offset_bounds-work-m
offset_bounds-work-m c = let l = few (goal.at.offset_bounds-work-m c).Start in omega arith

pub bounds-work-m : goal.bounds-work-m
bounds-work-m c = let l = few (goal.at.bounds-work-m c).Start in omega arith

pub bounds-work-s : goal.bounds-work-s
bounds-work-s c = let l = low (goal.at.bounds-work-s c).Start in omega arith
