-- The record of a triangle, read from a slot of the list, and as a record of a net. Definitions only.
use Rattle.std.specs.Prelude.{List, [], ◌∷◌, ℕ, ◌+◌, ◌*◌, get_or}
use Rattle.nets.specs.Slots.{Rec}
use Rattle.store.specs.declared.Tri.{Tri}

unfoldable pub tri_at : List ℕ → ℕ → Tri
tri_at w t = record {
  v = get_or w (16 * t) 0 ∷ get_or w (16 * t + 1) 0 ∷ get_or w (16 * t + 2) 0 ∷ [];
  adj = get_or w (16 * t + 3) 0 ∷ get_or w (16 * t + 4) 0 ∷ get_or w (16 * t + 5) 0 ∷ [];
  con = get_or w (16 * t + 6) 0 ∷ get_or w (16 * t + 7) 0 ∷ get_or w (16 * t + 8) 0 ∷ [];
}

abbrev pub rec_of : Tri → Rec
rec_of x = record {
  v0 = get_or x.v 0 0;
  v1 = get_or x.v 1 0;
  v2 = get_or x.v 2 0;
  a0 = get_or x.adj 0 0;
  a1 = get_or x.adj 1 0;
  a2 = get_or x.adj 2 0;
  c0 = get_or x.con 0 0;
  c1 = get_or x.con 1 0;
  c2 = get_or x.con 2 0;
}
