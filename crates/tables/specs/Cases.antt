-- The table of proved cases: each row is a case of document 01's "Sheets to reproduce" that is marked P, with what is to come out, and one
-- computed test goes through the table.
use Rattle.std.specs.Prelude.{Bool, true, false, ◌&&◌, List, [], ◌∷◌, ℕ, ◌*◌, T, eqb, ℤ, pos, negsuc}
use Rattle.algebra.specs.Tests.{eq_z, all_to, any_to}
use Rattle.algebra.specs.Sum.{sum_to}
use Rattle.plane.specs.Points.{Pt, at}
use Rattle.plane.specs.Determinants.{orient, incircle}
use Rattle.plane.specs.Halfedges.{nxt}
use Rattle.tables.specs.Answers.{Paper, yes, refuses, breaks, lowest}
use Rattle.tables.specs.Data.{point_count, point, clockwise, base}
use Rattle.tables.specs.Refusals.{rows, in_segment, crosses}
use Rattle.tables.specs.Rules.{before, count_to, rank, wins, flips, triple_area, along_side, is_pair, rule1, rule2, rule3, rule4, rule5, rule6, rule7, rule8}
use Rattle.tables.specs.Verdicts.{verdict}

pub data Case : Type 0 where
  -- points, pairs, and the sheet, which the checker accepts
  sheet : List ℤ → List ℕ → List ℕ → Case
  -- points, pairs, and the refusal's number and place
  refused : List ℤ → List ℕ → ℕ → ℕ → Case
  -- the circle determinant of four points
  circle : Pt ℤ → Pt ℤ → Pt ℤ → Pt ℤ → ℤ → Case

-- the base (0,0), (8,0), (0,8) before other points
abbrev pub usual : List ℤ → List ℤ
usual ps = pos 0 ∷ pos 0 ∷ pos 8 ∷ pos 0 ∷ pos 0 ∷ pos 8 ∷ ps

-- the points (1,1), (3,1), (3,3), (1,3)
abbrev pub square : List ℤ
square = pos 1 ∷ pos 1 ∷ pos 3 ∷ pos 1 ∷ pos 3 ∷ pos 3 ∷ pos 1 ∷ pos 3 ∷ []

abbrev pub table : List Case
table =
    -- P1, P2
    sheet (usual []) [] (0 ∷ 1 ∷ 2 ∷ [])
    ∷ sheet (pos 0 ∷ pos 0 ∷ pos 0 ∷ pos 8 ∷ pos 8 ∷ pos 0 ∷ []) [] (0 ∷ 2 ∷ 1 ∷ [])
    -- P3, P4
    ∷ sheet (usual (pos 2 ∷ pos 2 ∷ [])) [] (0 ∷ 1 ∷ 3 ∷ 0 ∷ 3 ∷ 2 ∷ 1 ∷ 2 ∷ 3 ∷ [])
    ∷ sheet (usual (pos 4 ∷ pos 0 ∷ [])) [] (0 ∷ 3 ∷ 2 ∷ 1 ∷ 2 ∷ 3 ∷ [])
    -- P5, P6
    ∷ sheet (usual square) [] (0 ∷ 1 ∷ 4 ∷ 0 ∷ 3 ∷ 6 ∷ 0 ∷ 4 ∷ 3 ∷ 0 ∷ 6 ∷ 2 ∷ 1 ∷ 2 ∷ 5 ∷ 1 ∷ 5 ∷ 4 ∷ 2 ∷ 6 ∷ 5 ∷ 3 ∷ 4 ∷ 5 ∷ 3 ∷ 5 ∷ 6 ∷ [])
    ∷ sheet (usual square) (4 ∷ 6 ∷ []) (0 ∷ 1 ∷ 4 ∷ 0 ∷ 3 ∷ 6 ∷ 0 ∷ 4 ∷ 3 ∷ 0 ∷ 6 ∷ 2 ∷ 1 ∷ 2 ∷ 5 ∷ 1 ∷ 5 ∷ 4 ∷ 2 ∷ 6 ∷ 5 ∷ 3 ∷ 4 ∷ 6 ∷ 4 ∷ 5 ∷ 6 ∷ [])
    -- P7, P8, P9
    ∷ circle (at (pos 0) (pos 0)) (at (pos 4) (pos 0)) (at (pos 0) (pos 4)) (at (pos 1) (pos 1)) (pos 96)
    ∷ circle (at (pos 0) (pos 0)) (at (pos 4) (pos 0)) (at (pos 0) (pos 4)) (at (pos 4) (pos 4)) (pos 0)
    ∷ circle (at (pos 0) (pos 0)) (at (pos 4) (pos 0)) (at (pos 0) (pos 4)) (at (pos 5) (pos 5)) (negsuc 159)
    -- P10, P11, P12
    ∷ refused (usual (pos 4 ∷ pos 0 ∷ [])) (0 ∷ 1 ∷ []) 9 0
    ∷ refused (usual square) (4 ∷ 6 ∷ 3 ∷ 5 ∷ []) 10 1
    ∷ refused (usual (pos 2 ∷ pos 2 ∷ pos 2 ∷ pos 2 ∷ [])) [] 7 4
    ∷ []

abbrev says : Paper → Paper → Bool
says yes yes = true
says (refuses k i) (refuses l j) = eqb k l && eqb i j
says (breaks k) (breaks l) = eqb k l
says yes (refuses l j) = false
says yes (breaks l) = false
says (refuses k i) yes = false
says (refuses k i) (breaks l) = false
says (breaks k) yes = false
says (breaks k) (refuses l j) = false

abbrev pub holds : Case → Bool
holds (sheet ps qs xs) = says (verdict ps qs xs (64 * point_count ps)) yes
holds (refused ps qs k i) = says (rows false false ps qs) (refuses k i)
holds (circle a b c d z) = eq_z (incircle a b c d) z

abbrev pub every : List Case → Bool
every [] = true
every (c ∷ cs) = holds c && every cs

pub checked : T (every table)
unfolding orient incircle nxt all_to any_to sum_to lowest point clockwise base in_segment crosses before count_to rank wins flips triple_area along_side is_pair rule1 rule2 rule3 rule4 rule5 rule6 rule7 rule8
checked = tt
