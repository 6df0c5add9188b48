use mathlib.Core.Path.{◌≡◌, ◌∙◌, subst}
use Prim.Native.Nat.{ℕ, ◌<◌}
use native.Mathlib.Omega.{arith}
use Rattle.chains.specs.Areas.{slot_of}
use Rattle.carving.proofs.Pushes.{Pushing, pushing_none, aside_slot, pushing_more, suspected}
use Rattle.carving.proofs.suspect_all.Goals as goal

pub loop-m-init : goal.loop-m-init
loop-m-init c = pushing_none c.args.n c.args.count c.args.work.now

pub push-requires : goal.push-requires
push-requires c = let s = c.args in
    let p = c.requires in
    let o = c.loop-m.invariant in
    let e = o.aside.len in
    let lg = p.0.long in
    let ls = p.0.less in
    let fw = p.0.few in
    let kt = p.1 in
    let m : c.loop-m.m < s.k = c.loop-m-test.true in
    let v = p.0.slots c.loop-m.m (omega arith) in
    let q : c.slot-s.result ≡ slot_of s.n s.work.now c.loop-m.m = c.slot-s.ensures ∙ aside_slot p.0 o.aside c.loop-m.m in
    (omega arith, omega arith, omega arith, omega arith)

pub loop-m-preserved : goal.loop-m-preserved
loop-m-preserved c = let p = c.requires in pushing_more p.0 p.1 p.2 c.loop-m-test.true c.loop-m.invariant c.slot-s.ensures c.push.ensures

pub returns : goal.returns
returns c = let s = c.args in
    let l = c.loop-m.auto.m-end in
    let e : c.loop-m.m ≡ s.k = omega (arith, c.loop-m-test.false) in
    suspected c.requires.0 (subst (λ (i : ℕ). Pushing s.n s.count i s.work.now c.loop-m.work) e c.loop-m.invariant)
