-- A slot or a half-edge that may be missing, as specs/Location of nets writes it. Definitions only.
use Rattle.std.specs.Prelude.{Option, None, Some, ℕ, suc}

-- 0 for none, and otherwise the number and 1
abbrev pub suc_or_0 : Option ℕ → ℕ
suc_or_0 None = 0
suc_or_0 (Some t) = suc t
