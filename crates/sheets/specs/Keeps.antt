-- What the list of a finished net's triangles keeps: the eight sheet rules of document 01, so that the checker accepts it. Definitions
-- only.
use Rattle.std.specs.Prelude.{true, false, List, ◌⊎◌, ◌≡◌, ℕ, ◌*◌, ◌≤◌, ◌<◌, ℤ}
use Rattle.tables.specs.Answers.{yes}
use Rattle.tables.specs.Data.{point_count, pair_count, point, end_a, end_b, base}
use Rattle.tables.specs.Refusals.{rows, short_work}
use Rattle.tables.specs.Rules.{rank, is_pair, rule1, rule2, rule3, rule4, rule5, rule6, rule7, rule8}
use Rattle.tables.specs.Verdicts.{verdict}
use Rattle.nets.specs.Building.{Rules}
use Rattle.nets.specs.Nets.{Net, dst}
use Rattle.sheets.specs.Sheets.{Listed}

-- Half-edge h of the net runs from u to v.
abbrev pub Runs : Net → ℕ → ℕ → ℕ → Type 0
Runs m h u v = (m.org h ≡ u) × (dst m h ≡ v)

-- Half-edge h lies between u and v.
abbrev pub EdgeOf : Net → ℕ → ℕ → ℕ → Type 0
EdgeOf m h u v = Runs m h u v ⊎ Runs m h v u

-- The net keeps the rules of a built net, each pair is an edge of it, and each marked edge is a pair.
pub record Finished (ps : List ℤ) (qs : List ℕ) (m : Net) : Type 0 where
  pub rules : Rules (point ps) (base ps) (rank ps) (point_count ps) m
  pub pairs : (k : ℕ) → k < pair_count qs → (h : ℕ) × (h < 3 * m.tris) × EdgeOf m h (end_a qs k) (end_b qs k)
  pub marks : (h : ℕ) → h < 3 * m.tris → ¬ (m.con h ≡ 0) → is_pair qs (m.org h) (dst m h) ≡ true

pub record KeepsRules (ps : List ℤ) (qs xs : List ℕ) : Type 0 where
  pub keeps1 : rule1 ps xs ≡ true
  pub keeps2 : rule2 xs ≡ true
  pub keeps3 : rule3 ps xs ≡ true
  pub keeps4 : rule4 ps xs ≡ true
  pub keeps5 : rule5 ps xs ≡ true
  pub keeps6 : rule6 qs xs ≡ true
  pub keeps7 : rule7 ps qs xs ≡ true
  pub keeps8 : rule8 xs ≡ true

-- Theorem: the list of a finished net's triangles keeps the eight rules.
abbrev pub SheetKeepsRules : Type 0
SheetKeepsRules =
    (ps : List ℤ) (qs xs : List ℕ) (m : Net) → point_count ps ≤ 4096 → Finished ps qs m → Listed m xs → KeepsRules ps qs xs

-- Theorem: where no row of the refusals' table offends, the verdict on that list is yes.
abbrev pub SheetAccepted : Type 0
SheetAccepted =
    (ps : List ℤ) (qs xs : List ℕ) (m : Net) (work : ℕ) → rows false (short_work (point_count ps) work) ps qs ≡ yes → Finished ps qs m →
    Listed m xs → verdict ps qs xs work ≡ yes
