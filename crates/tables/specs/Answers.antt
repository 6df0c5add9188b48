-- The answers in the paper's own terms: yes (or no refusal), a refusal's number and place, or the number of a broken rule; and for each
-- answer enum the paper's number and values of each of its cases. Definitions only.
use Rattle.std.specs.Prelude.{Bool, cond, ℕ, zero, suc, Option, Some, None, Result, Ok, Err}
use Rattle.tables.specs.declared.Refusal.{Refusal}
use Rattle.tables.specs.declared.Refusal.TheVariants.{OddLength, Counts, Room, FarPoint, NoArea, OutsidePoint, EqualPoint, BadPair, BlockedPair, CrossingPair, StuckPair}
use Rattle.tables.specs.declared.Rule.{Rule}
use Rattle.tables.specs.declared.Rule.TheVariants.{TriplesProper, EdgesOnce, EdgesMet, PointsMet, AreasFill, PairsMet, EdgesStay, HouseOrder}
use Rattle.tables.specs.declared.Objection.{Objection}
use Rattle.tables.specs.declared.Objection.TheVariants.{Breaks, Refused}

pub data Paper : Type 0 where
  yes : Paper
  -- the refusal's number, and its place, 0 where the table says none
  refuses : ℕ → ℕ → Paper
  -- the rule's number
  breaks : ℕ → Paper

abbrev pub of_refusal : Refusal → Paper
of_refusal OddLength = refuses 1 0
of_refusal Counts = refuses 2 0
of_refusal Room = refuses 3 0
of_refusal (FarPoint i) = refuses 4 i
of_refusal NoArea = refuses 5 0
of_refusal (OutsidePoint i) = refuses 6 i
of_refusal (EqualPoint i) = refuses 7 i
of_refusal (BadPair k) = refuses 8 k
of_refusal (BlockedPair k) = refuses 9 k
of_refusal (CrossingPair k) = refuses 10 k
of_refusal (StuckPair k) = refuses 11 k

abbrev pub of_checked : Result (Unit {0}) Refusal → Paper
of_checked (Ok _) = yes
of_checked (Err r) = of_refusal r

abbrev pub of_rule : Rule → Paper
of_rule TriplesProper = breaks 1
of_rule EdgesOnce = breaks 2
of_rule EdgesMet = breaks 3
of_rule PointsMet = breaks 4
of_rule AreasFill = breaks 5
of_rule PairsMet = breaks 6
of_rule EdgesStay = breaks 7
of_rule HouseOrder = breaks 8

-- the rules alone: yes, or the lowest broken one
abbrev pub of_rules : Result (Unit {0}) Rule → Paper
of_rules (Ok _) = yes
of_rules (Err k) = of_rule k

abbrev pub of_verdict : Result (Unit {0}) Objection → Paper
of_verdict (Ok _) = yes
of_verdict (Err (Breaks k)) = of_rule k
of_verdict (Err (Refused r)) = of_refusal r

-- ---- the order of tests: a row that offends is the answer, and else the rows after it

-- a row with no place
abbrev pub row : ℕ → Bool → Paper → Paper
row number offends after = cond offends (refuses number 0) after

-- a row whose place is the lowest offending index
abbrev pub row_at : ℕ → Option ℕ → Paper → Paper
row_at number (Some i) after = refuses number i
row_at number None after = after

-- a rule that must hold
abbrev pub rule : ℕ → Bool → Paper → Paper
rule number holds after = cond holds after (breaks number)

-- the lowest index below n that offends
abbrev pub or_else : Option ℕ → Option ℕ → Option ℕ
or_else (Some i) after = Some i
or_else None after = after

unfoldable pub lowest : ℕ → (ℕ → Bool) → Option ℕ
lowest zero f = None
lowest (suc n) f = or_else (lowest n f) (cond (f n) (Some n) None)
