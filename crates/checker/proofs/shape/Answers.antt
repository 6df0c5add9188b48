use mathlib.Core.Path.{◌≡◌, refl, sym, ◌∙◌}
use mathlib.Core.Bool.{true}
use Prim.Native.Nat.{ℕ, ◌*◌, ◌≤◌}
use native.Mathlib.Omega.{arith}
use Rattle.std.specs.Prelude.{Result, Ok, Err}
use Rattle.tables.specs.declared.Rule.{Rule}
use lib.ListN.{length, get_or}
use Rattle.tables.specs.Answers.{yes, rule}
use Rattle.tables.specs.Data.{point_count}
use Rattle.tables.specs.Rules.{rule1, rule2}
use Rattle.edges.specs.Index.{Fits}
use Rattle.list_rules.specs.Listed.{Listed}
use Rattle.checker.proofs.Parts.{corners_of, few_of, index_none, rule_no, rule_so}
use Rattle.checker.proofs.shape.Goals as goal
use Rattle.checker.proofs.shape.Goals.{After-build, Else-not-triples_proper}

no : {k : Rule} {X : Type 0} → ◌≡◌ {A = Result (Unit {0}) Rule} (Err k) (Ok tt) → X
no e = absurd (let z : ◌≡◌ {A = ℕ} 0 1 = cc in omega arith)

pub returns-then-not-triples_proper : goal.returns-then-not-triples_proper
returns-then-not-triples_proper c = record {
  answer = rule_no 1 (rule 2 (rule2 c.args.list.now) yes) (sym c.triples_proper.ensures ∙ c.if-not-triples_proper.true);
  listed = no;
  few = no;
  size = refl;
  rest = λ p l. refl;
}

-- rule 1 holds
holds : (c : Else-not-triples_proper) → rule1 c.args.points.now c.args.list.now ≡ true
holds c = sym c.triples_proper.ensures ∙ c.if-not-triples_proper.false

few : (c : Else-not-triples_proper) → length c.args.list.now ≤ 6 * point_count c.args.points.now
few c = few_of c.args.points.now c.args.list.now c.requires.0.whole (holds c)

fits : (c : Else-not-triples_proper) → Fits (point_count c.args.points.now) c.args.list.now c.args.work.now
fits c = record { room = let a = (few c) in let r = c.requires.0.room in omega arith; few = let a = (few c) in let m = c.requires.0.most in omega arith }

pub build-requires : goal.build-requires
build-requires c = (corners_of c.args.points.now c.args.list.now c.requires.0.whole (holds (goal.at.build-requires c).Else-not-triples_proper), fits (goal.at.build-requires c).Else-not-triples_proper, index_none (point_count c.args.points.now) c.args.list.now c.args.work.now c.requires.1)

-- after the index is built
listed : (c : After-build) → Listed (point_count c.args.points.now) c.args.list.now c.build.new.work
listed c = record {
  whole = c.requires.0.whole;
  corners = corners_of c.args.points.now c.args.list.now c.requires.0.whole (holds (record { before = c.before.before.before; type_inv = record { work = c.slice_known-1.given; list = c.shared_slice_known-1.given } }));
  fits = record { room = let a = few (record { before = c.before.before.before; type_inv = record { work = c.slice_known-1.given; list = c.shared_slice_known-1.given } }) in let r = c.requires.0.room in let z = c.build.ensures.1.size in omega arith; few = (fits (record { before = c.before.before.before; type_inv = record { work = c.slice_known-1.given; list = c.shared_slice_known-1.given } })).few };
  indexed = c.build.ensures.0;
}

rest : (c : After-build) → (p : ℕ) → 7 * point_count c.args.points.now ≤ p → get_or c.build.new.work p 0 ≡ get_or c.args.work.now p 0
rest c p l = c.build.ensures.1.same p (let a = few (record { before = c.before.before.before; type_inv = record { work = c.slice_known-1.given; list = c.shared_slice_known-1.given } }) in omega arith)

pub edges_once-requires : goal.edges_once-requires
edges_once-requires c = listed (goal.at.edges_once-requires c).After-build

pub returns-then-edges_once : goal.returns-then-edges_once
returns-then-edges_once c = record {
  answer = rule_so 1 _ (holds (goal.at.returns-then-edges_once c).Else-not-triples_proper) (rule_so 2 _ (sym c.edges_once.ensures ∙ c.if-edges_once.true) refl);
  listed = λ q. listed (goal.at.returns-then-edges_once c).After-build;
  few = λ q. few (goal.at.returns-then-edges_once c).Else-not-triples_proper;
  size = c.build.ensures.1.size;
  rest = rest (goal.at.returns-then-edges_once c).After-build;
}

pub returns-else-edges_once : goal.returns-else-edges_once
returns-else-edges_once c = record {
  answer = rule_so 1 _ (holds (goal.at.returns-else-edges_once c).Else-not-triples_proper) (rule_no 2 _ (sym c.edges_once.ensures ∙ c.if-edges_once.false));
  listed = no;
  few = no;
  size = c.build.ensures.1.size;
  rest = rest (goal.at.returns-else-edges_once c).After-build;
}
