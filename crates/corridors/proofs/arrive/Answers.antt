use mathlib.Core.Path.{sym, ap, ◌∙◌, subst}
use mathlib.Core.List.{List}
use Prim.Native.Nat.{ℕ, ◌+◌, ◌-◌, ◌*◌, ◌<◌}
use native.Mathlib.Omega.{arith}
use Rattle.nets.specs.Nets.{prv}
use Rattle.chains.specs.Walks.{right_w, arrive_w}
use Rattle.corridors.specs.Collected.{Area}
use Rattle.corridors.proofs.Looks.{prv_in}
use Rattle.corridors.proofs.Turns.{enter_area}
use Rattle.corridors.proofs.arrive.Goals as goal

pub turn_right-requires : goal.turn_right-requires
turn_right-requires c = let s = c.args in
    let p = c.requires in
    let q : prv s.y < 3 * (2 * s.n) = prv_in s.y (2 * s.n) (omega arith) in (
      subst (Area s.n) (sym c.turn_left.ensures.1)
          (enter_area s.n s.work.now (s.l + s.r - 1) s.y (prv s.y) s.l (s.l + 1) s.b p.0 (omega arith) (omega arith)),
      p.1,
      p.2,
      p.3,
      p.4,
    )

pub returns : goal.returns
unfolding arrive_w
returns c = let s = c.args in
    c.turn_right.ensures.1 ∙ ap (λ (v : List ℕ). right_w s.n v s.l s.r s.y s.b) c.turn_left.ensures.1
