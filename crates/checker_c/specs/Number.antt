-- An answer as one number: 0 for yes, a refusal's number, or 100 and the number of the broken rule. Definitions only.
use Rattle.std.specs.Prelude.{ℕ, ◌+◌}
use Rattle.tables.specs.Answers.{Paper, yes, refuses, breaks}

abbrev pub number_of : Paper → ℕ
number_of yes = 0
number_of (refuses k i) = k
number_of (breaks k) = 100 + k
