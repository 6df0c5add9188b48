-- The flip and the three splits of document 01's building steps, as what they make of a net. Old slots are used again for the first new
-- triangles. Definitions only.
use Rattle.std.specs.Prelude.{List, [], ◌∷◌, ℕ, suc, ◌+◌, ◌*◌, ◌/◌}
use Rattle.plane.specs.Halfedges.{nxt}
use Rattle.nets.specs.Moves.{Move, after, mv}
use Rattle.nets.specs.Nets.{Net, prv}
use Rattle.nets.specs.Slots.{put, Rec, write, grow}

-- the four outer half-edges, and where they go
unfoldable pub flip_moves : ℕ → ℕ → List Move
flip_moves h g = mv (nxt g) (3 * (h / 3)) ∷ mv (prv h) (3 * (h / 3) + 2) ∷ mv (prv g) (3 * (g / 3)) ∷ mv (nxt h) (3 * (g / 3) + 1) ∷ []

-- the two records
abbrev pub flip_a : Net → ℕ → ℕ → Rec
flip_a m h g = record { v0 = m.org h; v1 = m.org (prv g); v2 = m.org (prv h); a0 = m.adj (nxt g); a1 = suc (3 * (g / 3) + 2); a2 = m.adj (prv h); c0 = m.con (nxt g); c1 = 0; c2 = m.con (prv h) }

abbrev pub flip_b : Net → ℕ → ℕ → Rec
flip_b m h g = record {
  v0 = m.org (prv g);
  v1 = m.org (nxt h);
  v2 = m.org (prv h);
  a0 = m.adj (prv g);
  a1 = m.adj (nxt h);
  a2 = suc (3 * (h / 3) + 1);
  c0 = m.con (prv g);
  c1 = m.con (nxt h);
  c2 = 0;
}

-- the two new triangles
unfoldable pub flip_raw : Net → ℕ → ℕ → Net
flip_raw m h g = record {
  tris = m.tris;
  org = put (put m.org (h / 3) (m.org h) (m.org (prv g)) (m.org (prv h))) (g / 3) (m.org (prv g)) (m.org (nxt h)) (m.org (prv h));
  adj = put (put m.adj (h / 3) (m.adj (nxt g)) (suc (3 * (g / 3) + 2)) (m.adj (prv h))) (g / 3) (m.adj (prv g)) (m.adj (nxt h)) (suc (3 * (h / 3) + 1));
  con = put (put m.con (h / 3) (m.con (nxt g)) 0 (m.con (prv h))) (g / 3) (m.con (prv g)) (m.con (nxt h)) 0;
}

unfoldable pub flip : Net → ℕ → ℕ → Net
flip m h g = after m (flip_raw m h g) (flip_moves h g)

unfoldable pub inside_moves : Net → ℕ → List Move
inside_moves m t = mv (3 * t) (3 * t) ∷ mv (3 * t + 1) (3 * m.tris) ∷ mv (3 * t + 2) (3 * (m.tris + 1)) ∷ []

abbrev pub in_a : Net → ℕ → ℕ → Rec
in_a m t p = record { v0 = m.org (3 * t); v1 = m.org (3 * t + 1); v2 = p; a0 = m.adj (3 * t); a1 = suc (3 * m.tris + 2); a2 = suc (3 * (m.tris + 1) + 1); c0 = m.con (3 * t); c1 = 0; c2 = 0 }

abbrev pub in_b : Net → ℕ → ℕ → Rec
in_b m t p = record {
  v0 = m.org (3 * t + 1);
  v1 = m.org (3 * t + 2);
  v2 = p;
  a0 = m.adj (3 * t + 1);
  a1 = suc (3 * (m.tris + 1) + 2);
  a2 = suc (3 * t + 1);
  c0 = m.con (3 * t + 1);
  c1 = 0;
  c2 = 0;
}

abbrev pub in_c : Net → ℕ → ℕ → Rec
in_c m t p = record { v0 = m.org (3 * t + 2); v1 = m.org (3 * t); v2 = p; a0 = m.adj (3 * t + 2); a1 = suc (3 * t + 2); a2 = suc (3 * m.tris + 1); c0 = m.con (3 * t + 2); c1 = 0; c2 = 0 }

unfoldable pub inside_raw : Net → ℕ → ℕ → Net
inside_raw m t p = grow (write (write (write m t (in_a m t p)) m.tris (in_b m t p)) (m.tris + 1) (in_c m t p)) 2

unfoldable pub inside : Net → ℕ → ℕ → Net
inside m t p = after m (inside_raw m t p) (inside_moves m t)

unfoldable pub side_moves : Net → ℕ → List Move
side_moves m h = mv (prv h) (3 * (h / 3) + 2) ∷ mv (nxt h) (3 * m.tris + 1) ∷ []

abbrev pub side_a : Net → ℕ → ℕ → Rec
side_a m h p = record { v0 = m.org h; v1 = p; v2 = m.org (prv h); a0 = 0; a1 = suc (3 * m.tris + 2); a2 = m.adj (prv h); c0 = m.con h; c1 = 0; c2 = m.con (prv h) }

abbrev pub side_b : Net → ℕ → ℕ → Rec
side_b m h p = record { v0 = p; v1 = m.org (nxt h); v2 = m.org (prv h); a0 = 0; a1 = m.adj (nxt h); a2 = suc (3 * (h / 3) + 1); c0 = m.con h; c1 = m.con (nxt h); c2 = 0 }

unfoldable pub side_raw : Net → ℕ → ℕ → Net
side_raw m h p = grow (write (write m (h / 3) (side_a m h p)) m.tris (side_b m h p)) 1

unfoldable pub side_split : Net → ℕ → ℕ → Net
side_split m h p = after m (side_raw m h p) (side_moves m h)

unfoldable pub edge_moves : Net → ℕ → ℕ → List Move
edge_moves m h g = mv (prv h) (3 * (h / 3) + 2) ∷ mv (nxt h) (3 * m.tris + 1) ∷ mv (prv g) (3 * (g / 3) + 2) ∷ mv (nxt g) (3 * (m.tris + 1) + 1) ∷ []

abbrev pub edge_a : Net → ℕ → ℕ → ℕ → Rec
edge_a m h g p = record { v0 = m.org h; v1 = p; v2 = m.org (prv h); a0 = suc (3 * (m.tris + 1)); a1 = suc (3 * m.tris + 2); a2 = m.adj (prv h); c0 = m.con h; c1 = 0; c2 = m.con (prv h) }

abbrev pub edge_b : Net → ℕ → ℕ → ℕ → Rec
edge_b m h g p = record { v0 = p; v1 = m.org (nxt h); v2 = m.org (prv h); a0 = suc (3 * (g / 3)); a1 = m.adj (nxt h); a2 = suc (3 * (h / 3) + 1); c0 = m.con h; c1 = m.con (nxt h); c2 = 0 }

abbrev pub edge_c : Net → ℕ → ℕ → ℕ → Rec
edge_c m h g p = record { v0 = m.org (nxt h); v1 = p; v2 = m.org (prv g); a0 = suc (3 * m.tris); a1 = suc (3 * (m.tris + 1) + 2); a2 = m.adj (prv g); c0 = m.con h; c1 = 0; c2 = m.con (prv g) }

abbrev pub edge_e : Net → ℕ → ℕ → ℕ → Rec
edge_e m h g p = record { v0 = p; v1 = m.org h; v2 = m.org (prv g); a0 = suc (3 * (h / 3)); a1 = m.adj (nxt g); a2 = suc (3 * (g / 3) + 1); c0 = m.con h; c1 = m.con (nxt g); c2 = 0 }

unfoldable pub edge_raw : Net → ℕ → ℕ → ℕ → Net
edge_raw m h g p = grow (write (write (write (write m (h / 3) (edge_a m h g p)) m.tris (edge_b m h g p)) (g / 3) (edge_c m h g p)) (m.tris + 1) (edge_e m h g p)) 2

unfoldable pub edge_split : Net → ℕ → ℕ → ℕ → Net
edge_split m h g p = after m (edge_raw m h g p) (edge_moves m h g)
