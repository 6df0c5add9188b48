-- These laws give the numbers of a triangle's three half-edges. Assumes nothing.
use mathlib.Core.Path.{◌≡◌}
use Prim.Native.Nat.{ℕ, ◌+◌, ◌*◌, ◌<◌}
use native.Mathlib.Omega.{arith}
use Rattle.plane.specs.Halfedges.{nxt}

pub nxt0 : (t : ℕ) → nxt (3 * t) ≡ 3 * t + 1
unfolding nxt
nxt0 t = omega arith

pub nxt1 : (t : ℕ) → nxt (3 * t + 1) ≡ 3 * t + 2
unfolding nxt
nxt1 t = omega arith

pub nxt2 : (t : ℕ) → nxt (3 * t + 2) ≡ 3 * t
unfolding nxt
nxt2 t = omega arith

pub third : (k n : ℕ) → k < n → 3 * k < 3 * n
third k n h = omega arith

pub third1 : (k n : ℕ) → k < n → 3 * k + 1 < 3 * n
third1 k n h = omega arith

pub third2 : (k n : ℕ) → k < n → 3 * k + 2 < 3 * n
third2 k n h = omega arith
