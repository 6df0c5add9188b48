-- Every end of a pair is a point's number. Definitions only.
use Rattle.std.specs.Prelude.{List, ℕ, ◌<◌, ℤ, length, get_or}
use Rattle.tables.specs.Data.{point_count}

abbrev pub Ends : List ℤ → List ℕ → Type 0
Ends ps qs = (i : ℕ) → i < length qs → get_or qs i 0 < point_count ps
