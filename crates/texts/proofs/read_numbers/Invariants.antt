use mathlib.Core.Path.{◌≡◌}
use Prim.Native.Nat.{◌-◌}
use Rattle.texts.specs.Figures.{read_all, put_all}
use Rattle.texts.proofs.read_numbers.Given as goal

abbrev pub invariant-loop-p : goal.invariant-loop-p
invariant-loop-p g l =
    (read_all g.T.Entry.coordinate l.text l.from l.count ≡ read_all g.T.Entry.coordinate l.text l.at (l.count - l.p))
    × (put_all g.T.Entry.coordinate g.T.Entry.value l.text l.from 0 l.count l.initial.list ≡ put_all g.T.Entry.coordinate g.T.Entry.value l.text l.at l.p (l.count - l.p) l.list)
