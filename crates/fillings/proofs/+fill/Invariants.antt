use Rattle.std.proofs.Common.{◌-◌}
use Rattle.fillings.proofs.+fill.Given as goal

-- `fill` calls itself for parts of its part of the chain, so the measure is the length of the part.
abbrev pub decreases-fill : goal.decreases-fill
decreases-fill l = l.j - l.i
