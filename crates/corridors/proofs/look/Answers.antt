use mathlib.Core.Path.{◌≡◌, sym, ap, ◌∙◌, subst}
use Prim.Native.Nat.{ℕ, ◌-◌, ◌*◌, ◌≤◌, ◌<◌}
use native.Mathlib.Omega.{arith}
use Rattle.tables.specs.Data.{point}
use Rattle.nets.specs.Layout.{cell}
use Rattle.nets.specs.Nets.{prv}
use Rattle.chains.specs.Areas.{org, adj}
use Rattle.chains.specs.Walks.{met}
use Rattle.corridors.proofs.Looks.{prv_in, look_none, look_marked, look_twice, look_met}
use Rattle.corridors.proofs.look.Goals as goal

pub returns-then-m-eq0 : goal.returns-then-m-eq0
returns-then-m-eq0 c = let s = c.args in
    let e : c.partner-m.result ≡ adj s.work.now s.x = c.partner-m.ensures in
    look_none (point s.points.now) s.count s.a s.b s.work.now s.x (sym e ∙ c.if-m-eq0.true)

pub returns-then-work-x-ne0 : goal.returns-then-work-x-ne0
unfolding cell
returns-then-work-x-ne0 c = let s = c.args in
    let e : c.partner-m.result ≡ adj s.work.now s.x = c.partner-m.ensures in
    look_marked (point s.points.now) s.count s.a s.b s.work.now s.x (λ q. c.if-m-eq0.false (e ∙ q)) c.if-work-x-ne0.true

pub returns-then-count-m : goal.returns-then-count-m
unfolding cell
returns-then-count-m c = let s = c.args in
    let e : c.partner-m.result ≡ adj s.work.now s.x = c.partner-m.ensures in
    let l : 3 * s.count < adj s.work.now s.x = subst (λ (u : ℕ). 3 * s.count < u) e c.if-count-m.true in
    look_twice (point s.points.now) s.count s.a s.b s.work.now s.x (λ q. c.if-m-eq0.false (e ∙ q)) c.if-work-x-ne0.false l

pub start-c-requires : goal.start-c-requires
start-c-requires c = let s = c.args in
    let rm = c.requires.figure.1 in
    let lg = rm.long in
    let fw = rm.few in
    let ls = rm.less in
    let m = c.partner-m.result in
    let z : ¬ (m ≡ 0) = c.if-m-eq0.false in
    let q : m ≤ 3 * s.count = omega (arith, c.if-count-m.false) in
    let e = c.previous-g.ensures in
    let h : prv (m - 1) < 3 * s.count = prv_in (m - 1) s.count (omega arith) in
    (omega arith, omega arith)

pub meet-requires-clause-a_bound : goal.meet-requires-clause-a_bound
meet-requires-clause-a_bound c = let s = c.args in
    let rm = c.requires.figure.1 in
    let m = c.partner-m.result in
    let z : ¬ (m ≡ 0) = c.if-m-eq0.false in
    let q : m ≤ 3 * s.count = omega (arith, c.if-count-m.false) in
    let h : prv (m - 1) < 3 * s.count = prv_in (m - 1) s.count (omega arith) in
    (c.requires.a_bound.0, c.requires.a_bound.1, rw (c.start-c.ensures, c.previous-g.ensures) (rm.low (prv (m - 1)) h))

pub returns : goal.returns
unfolding cell
returns c = let s = c.args in
    let m = c.partner-m.result in
    let e : m ≡ adj s.work.now s.x = c.partner-m.ensures in
    let l : adj s.work.now s.x ≤ 3 * s.count = subst (λ (u : ℕ). u ≤ 3 * s.count) e (let z : m ≤ 3 * s.count = omega (arith, c.if-count-m.false) in z) in
    let k : c.start-c.result ≡ org s.work.now (prv (m - 1)) = c.start-c.ensures ∙ ap (λ (u : ℕ). org s.work.now u) c.previous-g.ensures in
    c.meet.ensures
    ∙ ap (λ (u : ℕ). met (point s.points.now) s.a s.b (m - 1) u) k
    ∙ ap (λ (u : ℕ). met (point s.points.now) s.a s.b (u - 1) (org s.work.now (prv (u - 1)))) e
    ∙ look_met (point s.points.now) s.count s.a s.b s.work.now s.x
    (λ q. c.if-m-eq0.false (e ∙ q)) c.if-work-x-ne0.false l
