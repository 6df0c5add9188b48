use Prim.Native.Nat.{ℕ, ◌-◌, ◌*◌, ◌≤◌, ◌<◌}
use native.Mathlib.Omega.{arith}
use Rattle.std.specs.Prelude.{Option, Some, None, SomeIff, IfSome}
use Rattle.nets.proofs.Slot.{nxt_in}
use Rattle.looks.proofs.Laws.{adj_low, before_low}
use Rattle.searches.proofs.onward.Goals as goal
use Rattle.searches.proofs.onward.Goals.{In_ok-g}

-- a partner and 1 is at most n
less : (m n : ℕ) (o : Option ℕ) → SomeIff o (1 ≤ m) (m - 1) → m ≤ n → IfSome o (λ g. g < n)
less m n (Some g) e l = omega (arith, e.0, e.1)
less m n None e l = tt

pub returns-then-left : goal.returns-then-left
returns-then-left c = let x = c.args in less _ (3 * x.count) c.checked_sub.result c.checked_sub.ensures (before_low x.work.now x.count x.h c.requires.in_range c.requires.h_bound)

low : (c : In_ok-g) → c.in_ok-g.g < 3 * c.args.count
low c = let x = c.args in less _ (3 * x.count) (Some c.in_ok-g.g) c.in_ok-g.ensures (adj_low x.work.now x.count x.h c.requires.in_range c.requires.h_bound)

pub next-requires : goal.next-requires
next-requires c = let l = low (goal.at.next-requires c).In_ok-g in let k = c.requires.in_range.small in omega arith

pub returns : goal.returns
returns c = rw c.next.ensures (nxt_in c.in_ok-g.g c.args.count (low (goal.at.returns c).In_ok-g))
