use mathlib.Core.Bool.{false}
use mathlib.Core.Path.{◌≡◌, sym, ◌∙◌}
use Rattle.std.proofs.Common.{rules}
use Rattle.ranges.proofs.Tests.{all_below}
use Rattle.algebra.specs.Tests.{all_to}
use Rattle.tables.specs.Rules.{triples, least_first, rises_to, rule8}
use Rattle.order_rules.proofs.house_order.Goals as goal

pub returns-then-all : goal.returns-then-all
unfolding rule8
returns-then-all c =
    let list = c.args.list.now in
    let first : c.all.result ≡ all_to (triples list) (least_first list) = all_below (least_first list) c.all.ensures.ran (λ x b q k. search rules) in
    let rise : c.all-then-all.result ≡ all_to c.saturating_sub.result (rises_to list) = all_below (rises_to list) c.all-then-all.ensures.ran (λ x b q k. search rules) in
    rw (sym first ∙ c.if-all.true, ← c.saturating_sub.ensures) rise

pub returns-else-all : goal.returns-else-all
unfolding rule8
returns-else-all c =
    let list = c.args.list.now in
    let first : c.all.result ≡ all_to (triples list) (least_first list) = all_below (least_first list) c.all.ensures.ran (λ x b q k. search rules) in
    let fails : rule8 list ≡ false = rw (sym first ∙ c.if-all.false) in
    c.if-all.false ∙ sym fails
