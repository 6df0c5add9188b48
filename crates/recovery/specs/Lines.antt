-- How far the pairs have come in the working area, step 4 of document 01. Definitions only.
use Rattle.std.specs.Prelude.{List, Result, Ok, Err, ⊤, ◌≡◌, ℕ, suc, ◌<◌, ℤ}
use Rattle.tables.specs.Data.{point_count, pair_count}
use Rattle.tables.specs.Figures.{Figure}
use Rattle.nets.specs.Layout.{net_of, Kept}
use Rattle.chains.specs.Areas.{Room}
use Rattle.stages.specs.Stages.{Paired, Ends, Ground}
use Rattle.builder.specs.Stages.{Ranks}
use Rattle.recovery.specs.declared.Stuck.{Stuck}

-- The first k pairs are in: T triangles stand in the working area, with room for a recovery, and the ranks in their places. The ends of all
-- pairs are points.
pub record Lined (ps : List ℤ) (qs : List ℕ) (k : ℕ) (w : List ℕ) (T : ℕ) : Type 0 where
  pub figure : Figure ps
  pub ends : (i : ℕ) → i < pair_count qs → Ends ps qs i
  pub room : Room (point_count ps) T w
  pub ranks : Ranks ps w
  pub paired : Paired ps qs k (net_of w T)

-- what the call for pair k comes to: the pair is in, or its recovery sticks, and then the area is out of use
abbrev pub Goes : List ℤ → List ℕ → ℕ → List ℕ → ℕ → List ℕ → Result ⊤ Stuck → Type 0
Goes ps qs k w T w' (Ok done) = Lined ps qs (suc k) w' T × Kept (point_count ps) w w'
Goes ps qs k w T w' (Err e) = (e.pair ≡ k) × Ground ps qs k × Kept (point_count ps) w w'

-- all pairs are in, or the recovery of one sticks with those before it in
abbrev pub AllGo : List ℤ → List ℕ → List ℕ → ℕ → List ℕ → Result ⊤ Stuck → Type 0
AllGo ps qs w T w' (Ok done) = Lined ps qs (pair_count qs) w' T × Kept (point_count ps) w w'
AllGo ps qs w T w' (Err e) = (e.pair < pair_count qs) × Ground ps qs e.pair × Kept (point_count ps) w w'
