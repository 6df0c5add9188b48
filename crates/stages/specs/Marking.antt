-- An edge of a net is marked on both sides. Definitions only.
use Rattle.std.specs.Prelude.{ℕ, zero, suc}
use Rattle.nets.specs.Nets.{Net}
use Rattle.cavities.specs.Leaves.{put}

-- the marks of half-edge h and of its partner a - 1, where there is one, become 1
unfoldable pub mark_both : (ℕ → ℕ) → ℕ → ℕ → ℕ → ℕ
mark_both f h zero = put f h 1
mark_both f h (suc g) = put (put f h 1) g 1

unfoldable pub mark_net : Net → ℕ → ℕ → Net
mark_net m h a = record { tris = m.tris; org = m.org; adj = m.adj; con = mark_both m.con h a }
