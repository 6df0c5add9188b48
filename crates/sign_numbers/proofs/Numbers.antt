-- An answer's number, read back from the bits that hold it. Assumes nothing.
use mathlib.Core.Path.{◌≡◌, refl, ap, ◌∙◌}
use lib.IntN.{ℤ}
use mir.Syntax.{w32}
use Rattle.std.proofs.Common.{Option, Some, None}
use Rattle.algebra.proofs.Machine.{back}
use Rattle.signs.specs.Signs.{number}
use Rattle.signs.specs.Answers.{whole_number}
use Rattle.signs.specs.declared.Sign.{Sign}
use Rattle.signs.specs.declared.Sign.TheVariants.{Neg, Zero, Pos}

pub number_read : {z : ℤ} (s : Sign) → z ≡ number s → back w32 z ≡ number s
number_read {z} s e = ap (back w32) e ∙ same s
  where
    same : (s : Sign) → back w32 (number s) ≡ number s
    same Neg = refl
    same Zero = refl
    same Pos = refl

pub whole_read : {z : ℤ} (a : Option Sign) → z ≡ whole_number a → back w32 z ≡ whole_number a
whole_read (Some s) e = number_read s e
whole_read None e = ap (back w32) e
