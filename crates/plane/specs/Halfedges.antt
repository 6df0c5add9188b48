-- Half-edges have numbers: half-edge 3 t + j is edge j of triangle t, and runs from the triangle's corner j to its next corner.
-- Definitions only; it assumes nothing.
use Rattle.std.specs.Prelude.{ℕ, ◌+◌, ◌*◌, ◌/◌, ◌%◌}

-- This is the next half-edge of the same triangle: 3 t, 3 t + 1, 3 t + 2, and 3 t again.
unfoldable pub nxt : ℕ → ℕ
nxt h = 3 * (h / 3) + (h % 3 + 1) % 3
