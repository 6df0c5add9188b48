-- Triangles cut out of a net and others put in: the half-edges that stay move to new numbers, and their partners are told so. Definitions
-- only.
use Rattle.std.specs.Prelude.{cond, List, [], ◌∷◌, ℕ, suc, eqb}
use Rattle.nets.specs.Nets.{Net}

pub record Move : Type 0 where
  pub old : ℕ
  pub new : ℕ

abbrev pub mv : ℕ → ℕ → Move
mv x y = record { old = x; new = y }

-- the partner of each moved half-edge is told its new number
unfoldable pub links : (ℕ → ℕ) → List Move → (ℕ → ℕ) → ℕ → ℕ
links adj [] a q = a q
links adj (v ∷ L) a q = cond (eqb (adj v.old) (suc q)) (suc v.new) (links adj L a q)

-- the net after it
unfoldable pub after : Net → Net → List Move → Net
after m r L = record { tris = r.tris; org = r.org; adj = links m.adj L r.adj; con = r.con }
