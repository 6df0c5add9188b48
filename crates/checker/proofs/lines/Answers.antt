use mathlib.Core.Path.{◌≡◌, refl, sym, ◌∙◌}
use mathlib.Core.Bool.{Bool, true, false}
use Prim.Native.Nat.{ℕ, ◌+◌, ◌*◌}
use native.Mathlib.Omega.{arith}
use Rattle.tables.specs.Data.{point_count}
use Rattle.tables.specs.Rules.{rule6, rule7}
use Rattle.rooms.specs.Rest.{Rest}
use Rattle.list_rules.specs.Listed.{Listed, Room}
use Rattle.edge_rules.proofs.Rule7.{by_marks}
use Rattle.checker.proofs.Parts.{rule_no, rule_so}
use Rattle.checker.proofs.lines.Goals as goal
use Rattle.checker.proofs.lines.Goals.{After-edges_stay, After-pairs_met, Else-not-pairs_met}

-- after the pairs are marked
abbrev n : (c : After-pairs_met) → ℕ
n c = point_count c.args.points.now

rest : (c : After-pairs_met) → Rest (64 * (n c)) c.args.work.now c.pairs_met.new.work
rest c = record {
  size = c.pairs_met.ensures.size;
  same = λ p l. c.pairs_met.ensures.above p (let a = c.requires.1.room.list in omega arith);
}

listed : (c : After-pairs_met) → Listed (n c) c.args.list.now c.pairs_met.new.work
listed c = record {
  whole = c.requires.1.listed.whole;
  corners = c.requires.1.listed.corners;
  fits = record { room = let r = c.requires.1.listed.fits.room in let z = c.pairs_met.ensures.size in omega arith; few = c.requires.1.listed.fits.few };
  indexed = record {
    heads = λ u l. c.pairs_met.ensures.below u (omega arith) ∙ c.requires.1.listed.indexed.heads u l;
    links = λ h l. c.pairs_met.ensures.below ((n c) + h) (let a = c.requires.1.room.list in omega arith) ∙ c.requires.1.listed.indexed.links h l;
  };
}

room : (c : After-pairs_met) → Room (n c) c.args.list.now c.pairs_met.new.work
room c = record { list = c.requires.1.room.list; work = let r = c.requires.1.room.work in let z = c.pairs_met.ensures.size in omega arith }

pub returns-then-not-pairs_met : goal.returns-then-not-pairs_met
returns-then-not-pairs_met c = (rule_no 6 _ (sym c.pairs_met.ensures.answer ∙ c.if-not-pairs_met.true), rest (goal.at.returns-then-not-pairs_met c).After-pairs_met)

pub edges_stay-requires : goal.edges_stay-requires
edges_stay-requires c = (c.requires.0.near, listed (goal.at.edges_stay-requires c).After-pairs_met, room (goal.at.edges_stay-requires c).After-pairs_met, c.requires.1.once)

kept : (c : Else-not-pairs_met) → rule6 c.args.pairs.now c.args.list.now ≡ true
kept c = sym c.pairs_met.ensures.answer ∙ c.if-not-pairs_met.false

settled : (c : After-edges_stay) (b : Bool) → c.edges_stay.result ≡ b →
    rule7 c.args.points.now c.args.pairs.now
    c.args.list.now ≡ b
settled c b h =
    sym (by_marks c.args.points.now c.args.pairs.now c.args.list.now c.pairs_met.new.work c.requires.1.listed.whole
    (c.pairs_met.ensures.marked (c.if-not-pairs_met.false))) ∙ sym c.edges_stay.ensures ∙ h

pub returns-then-not-edges_stay : goal.returns-then-not-edges_stay
returns-then-not-edges_stay c = (rule_so 6 _ (kept (goal.at.returns-then-not-edges_stay c).Else-not-pairs_met) (rule_no 7 _ (settled (goal.at.returns-then-not-edges_stay c).After-edges_stay false (c.if-not-edges_stay.true))), rest (goal.at.returns-then-not-edges_stay c).After-pairs_met)

pub returns-then-house_order : goal.returns-then-house_order
returns-then-house_order c = (
  rule_so 6 _ (kept (goal.at.returns-then-house_order c).Else-not-pairs_met) (rule_so 7 _ (settled (goal.at.returns-then-house_order c).After-edges_stay true (c.if-not-edges_stay.false))
      (rule_so 8 _ (sym c.house_order.ensures ∙ c.if-house_order.true) refl)),
  rest (goal.at.returns-then-house_order c).After-pairs_met,
)

pub returns-else-house_order : goal.returns-else-house_order
returns-else-house_order c = (
  rule_so 6 _ (kept (goal.at.returns-else-house_order c).Else-not-pairs_met) (rule_so 7 _ (settled (goal.at.returns-else-house_order c).After-edges_stay true (c.if-not-edges_stay.false))
      (rule_no 8 _ (sym c.house_order.ensures ∙ c.if-house_order.false))),
  rest (goal.at.returns-else-house_order c).After-pairs_met,
)

pub pairs_met-requires : goal.pairs_met-requires
pairs_met-requires c = let p = c.requires.1 in (p.listed, p.room, p.once, p.ends, p.blank)
