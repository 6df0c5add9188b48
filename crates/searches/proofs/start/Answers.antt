use mathlib.Core.Path.{◌≡◌, refl}
use Prim.Native.Nat.{◌+◌, ◌*◌, ◌<◌}
use native.Mathlib.Omega.{arith}
use Rattle.std.proofs.Common.{rules, nat_eq, slice_index_or, Some, true}
use Rattle.ranges.proofs.Tests.{first_below}
use Rattle.looks.proofs.Laws.{starts_at}
use Rattle.searches.proofs.start.Goals as goal
use Rattle.searches.proofs.start.Goals.{In_ok-e}

found : (c : In_ok-e) → (c.in_ok-e.e < 3) × (nat_eq (slice_index_or c.args.work.now (16 * slice_index_or c.args.work.now (16 * c.args.a + 12) 0 + c.in_ok-e.e) 0) c.args.a ≡ true)
found c = let h = first_below _ _ (λ e. nat_eq (slice_index_or c.args.work.now (16 * slice_index_or c.args.work.now (16 * c.args.a + 12) 0 + e) 0) c.args.a) (Some c.in_ok-e.e) c.in_ok-e.ensures.ran (λ x b q k. search rules) in (h.0, h.1)

pub overflow_add-result : goal.overflow_add-result
overflow_add-result c = let h = found (goal.at.overflow_add-result c).In_ok-e in let k = c.requires.in_range.small in omega arith

pub returns : goal.returns
returns c = let h = found (goal.at.returns c).In_ok-e in
    starts_at c.args.work.now c.args.count c.args.a (slice_index_or c.args.work.now (16 * c.args.a + 12) 0) (omega arith) c.in_ok-e.e h.0 refl (search rules)
