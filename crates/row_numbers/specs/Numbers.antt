-- The number and the value of an answer of the paper. Definitions only.
use Rattle.std.specs.Prelude.{ℕ}
use Rattle.tables.specs.Answers.{Paper, yes, refuses, breaks, of_refusal}
use Rattle.tables.specs.declared.Refusal.{Refusal}

-- a refusal's number, or 0
abbrev pub number_in : Paper → ℕ
number_in yes = 0
number_in (refuses k i) = k
number_in (breaks k) = 0

-- 0 for yes, a refusal's place, or a broken rule's number
abbrev pub value_in : Paper → ℕ
value_in yes = 0
value_in (refuses k i) = i
value_in (breaks k) = k

-- a refusal's place, 0 where the table says none
abbrev pub place_of : Refusal → ℕ
place_of r = value_in (of_refusal r)
