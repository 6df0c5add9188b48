-- The checker's work in parts. Definitions only.
use Rattle.std.specs.Prelude.{◌≡◌, true, List, ℕ, ◌*◌, ◌%◌, ◌≤◌, ◌<◌, ℤ, length, get_or, Result, Ok}
use Rattle.tables.specs.Answers.{Paper, yes, rule, of_rules}
use Rattle.tables.specs.declared.Rule.{Rule}
use Rattle.tables.specs.Data.{point_count}
use Rattle.tables.specs.Rules.{rule1, rule2, rule3, rule4, rule5, rule6, rule7, rule8}
use Rattle.segments.specs.Near.{Near}
use Rattle.list_rules.specs.Listed.{Listed, Room, Blank, Ends}

-- the eight rules in three parts
abbrev pub rules12 : List ℤ → List ℕ → Paper
rules12 ps xs = rule 1 (rule1 ps xs) (rule 2 (rule2 xs) yes)

abbrev pub rules345 : List ℤ → List ℕ → Paper
rules345 ps xs = rule 3 (rule3 ps xs) (rule 4 (rule4 ps xs) (rule 5 (rule5 ps xs) yes))

abbrev pub rules678 : List ℤ → List ℕ → List ℕ → Paper
rules678 ps qs xs = rule 6 (rule6 qs xs) (rule 7 (rule7 ps qs xs) (rule 8 (rule8 xs) yes))

-- what holds of the points, the list and the room once the refusals are behind
pub record Sound (ps : List ℤ) (xs w : List ℕ) : Type 0 where
  pub near : Near ps
  pub least : 3 ≤ point_count ps
  pub most : point_count ps ≤ 4096
  pub whole : length xs % 3 ≡ 0
  pub room : 64 * point_count ps ≤ length w

-- the room is zero
abbrev pub Zero : List ℤ → List ℕ → Type 0
Zero ps w = (p : ℕ) → p < 64 * point_count ps → get_or w p 0 ≡ 0

-- rules 1 and 2, and where they hold, the index and the list's length
pub record Indexing (ps : List ℤ) (xs w w' : List ℕ) (r : Result (Unit {0}) Rule) : Type 0 where
  pub answer : of_rules r ≡ rules12 ps xs
  pub listed : r ≡ Ok tt → Listed (point_count ps) xs w'
  pub few : r ≡ Ok tt → length xs ≤ 6 * point_count ps
  pub size : length w' ≡ length w
  pub rest : (p : ℕ) → 7 * point_count ps ≤ p → get_or w' p 0 ≡ get_or w p 0

-- what rules 6 to 8 ask for besides
pub record Lined (ps : List ℤ) (qs xs w : List ℕ) : Type 0 where
  pub listed : Listed (point_count ps) xs w
  pub room : Room (point_count ps) xs w
  pub once : rule2 xs ≡ true
  pub ends : Ends (point_count ps) qs
  pub blank : Blank (point_count ps) xs w
