-- Which corners the base reads, by the way that points 0, 1, 2 turn. Assumes nothing.
use mathlib.Core.Path.{◌≡◌, sym, ap, ◌∙◌}
use mathlib.Core.Bool.{Bool, true, false, cond}
use mathlib.Core.List.{List}
use Prim.Native.Nat.{ℕ}
use lib.IntN.{ℤ}
use Rattle.tables.specs.Answers.{lowest}
use Rattle.tables.specs.Data.{clockwise, base}
use Rattle.tables.specs.Refusals.{outside}
use Rattle.std.specs.Prelude.{Option}
use Rattle.base_checks.specs.Base.{outside_of}

-- the code learnt how the base turns and searched by the corners' numbers
pub read_base : (ps : List ℤ) (n : ℕ) (t : Bool) {r : Bool} {l : Option ℕ} → r ≡ clockwise ps → r ≡ t → l ≡ lowest n (outside_of ps (cond t 2 1) (cond t 1 2)) → l ≡ lowest n (outside ps)
unfolding base
read_base ps n t e g h = h ∙ ap (λ (t : Bool). lowest n (outside_of ps (cond t 2 1) (cond t 1 2))) (sym g ∙ e)
