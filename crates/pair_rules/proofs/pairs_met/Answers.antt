use mathlib.Core.Path.{◌≡◌, refl, sym, ap, ◌∙◌, subst}
use mathlib.Core.Bool.{Bool, true, false, true≢false}
use mathlib.Core.List.{List}
use Prim.Native.Nat.{ℕ, ◌+◌, ◌%◌}
use native.Mathlib.Omega.{arith}
use lib.ListN.{length}
use Rattle.algebra.specs.Tests.{all_to, any_to}
use Rattle.algebra.proofs.Tests.{all_more, all_fails}
use Rattle.tables.specs.Data.{pair_count}
use Rattle.tables.specs.Rules.{rule6}
use Rattle.list_rules.specs.Listed.{Painted}
use Rattle.list_rules.proofs.Once.{whole_length}
use Rattle.pair_rules.proofs.Paint.{joins, pair_to, paint_first, paint_more, paint_marked}
use Rattle.pair_rules.proofs.pairs_met.Goals as goal
use Rattle.pair_rules.proofs.pairs_met.Goals.{After-mark_both}
use Rattle.pair_rules.proofs.pairs_met.Invariants.{met}

-- one pair's answer
met_is : (qs xs : List ℕ) (k : ℕ) (r b : Bool) → length xs % 3 ≡ 0 → r ≡ any_to (length xs) (λ h. joins qs xs h k) → r ≡ b → met qs xs k ≡ b
met_is qs xs k r b w e h = ap (λ (n : ℕ). any_to n (λ h. joins qs xs h k)) (whole_length xs w) ∙ sym e ∙ h

pub loop-k-init : goal.loop-k-init
unfolding all_to
loop-k-init c = (refl, paint_first c.args.n c.args.pairs.now c.args.list.now c.args.work.now)

-- ---- after the call
abbrev k : (c : After-mark_both) → ℕ
k c = c.loop-k.k

painted : (c : After-mark_both) → Painted c.args.n c.args.list.now (pair_to c.args.pairs.now c.args.list.now ((k c) + 1)) c.args.work.now c.mark_both.new.work
painted c = paint_more c.args.n c.args.pairs.now c.args.list.now (k c) c.args.work.now
    c.loop-k.work c.mark_both.new.work c.loop-k.invariant.1 c.mark_both.ensures.marks

answer : (c : After-mark_both) → (b : Bool) → c.mark_both.result ≡ b → met c.args.pairs.now c.args.list.now (k c) ≡ b
answer c b h = met_is c.args.pairs.now c.args.list.now (k c) c.mark_both.result b c.requires.0.whole c.mark_both.ensures.found h

pub returns-then-not-mark_both : goal.returns-then-not-mark_both
unfolding rule6
returns-then-not-mark_both c = let p = painted (goal.at.returns-then-not-mark_both c).After-mark_both in
    let t = c.loop-k-test.true in
    record {
      answer = sym (all_fails (met c.args.pairs.now c.args.list.now) (pair_count c.args.pairs.now) (k (goal.at.returns-then-not-mark_both c).After-mark_both) t (answer (goal.at.returns-then-not-mark_both c).After-mark_both false (c.if-not-mark_both.true)));
      marked = λ e. absurd (true≢false (sym e));
      size = p.size;
      below = p.below;
      above = p.above;
    }

pub loop-k-preserved : goal.loop-k-preserved
loop-k-preserved c = let l = c.loop-k in
    let t = c.loop-k-test.true in
    (all_more (met c.args.pairs.now c.args.list.now) l.k l.invariant.0 (answer (goal.at.loop-k-preserved c).After-mark_both true (c.if-not-mark_both.false)), painted (goal.at.loop-k-preserved c).After-mark_both)

pub returns : goal.returns
unfolding rule6
returns c = let l = c.loop-k in
    let i = c.loop-k.auto.k-end in
    let e : l.k ≡ pair_count c.args.pairs.now = (let t = c.loop-k-test.false in omega arith) in
    let p = subst (λ (j : ℕ). Painted c.args.n c.args.list.now (pair_to c.args.pairs.now c.args.list.now j) c.args.work.now l.work) e l.invariant.1 in
    record {
      answer = sym l.invariant.0 ∙ ap (λ (j : ℕ). all_to j (met c.args.pairs.now c.args.list.now)) e;
      marked = λ q. paint_marked c.args.n c.args.pairs.now c.args.list.now c.args.work.now l.work c.requires.4 p;
      size = p.size;
      below = p.below;
      above = p.above;
    }
