use mathlib.Core.Path.{◌≡◌}
use mathlib.Core.Bool.{Bool, true}
use mathlib.Core.List.{List}
use Prim.Native.Nat.{ℕ, ◌*◌}
use Rattle.algebra.specs.Tests.{all_to, any_to}
use Rattle.tables.specs.Rules.{triples}
use Rattle.list_rules.specs.Listed.{Painted}
use Rattle.pair_rules.proofs.Paint.{joins, pair_to}
use Rattle.pair_rules.proofs.pairs_met.Given as goal

abbrev pub met : List ℕ → List ℕ → ℕ → Bool
met qs xs k = any_to (3 * triples xs) (λ h. joins qs xs h k)

abbrev pub invariant-loop-k : goal.invariant-loop-k
invariant-loop-k l = (all_to l.k (met l.pairs l.list) ≡ true) × Painted l.n l.list (pair_to l.pairs l.list l.k) l.initial.work l.work
