use mathlib.Core.List.{[], ◌∷◌}
use mathlib.Core.Path.{◌≡◌, ap, ◌∙◌}
use Prim.Native.Nat.{◌≤◌}
use native.Mathlib.Omega.{arith}
use lib.IntN.{ℤ, pos, nat_abs}
use mir.Syntax.{w32}
use Rattle.algebra.proofs.Machine.{Code, arg, lit, plus, back, raw, fits_small, is_small}
use Rattle.algebra.proofs.Ring.{var, con, ◌⊕◌}
use Rattle.ranks.specs.Items.{word}
use Rattle.ranks.proofs.Words.{sum_is, word_small}
use Rattle.ranks.proofs.word.Goals as goal

abbrev sum : Code
sum = plus w32 (arg 0) (lit (pos 8192))

read : (x : ℤ) → (h : nat_abs x ≤ 8192) → back w32 (raw sum (x ∷ [])) ≡ pos (word x)
read x h = is_small w32 8192 (x ∷ []) (h, tt) sum (var 0 ⊕ con (pos 8192)) tt tt ∙ sum_is x h

pub overflow_add-result : goal.overflow_add-result
overflow_add-result c = fits_small w32 8192 (c.args.x ∷ []) (c.requires, tt) sum tt

pub overflow_cast-result : goal.overflow_cast-result
overflow_cast-result c = rw (read c.args.x c.requires) (tt, record { fits = omega (arith, word_small c.args.x c.requires) })

pub returns : goal.returns
returns c = ap nat_abs (read c.args.x c.requires)
