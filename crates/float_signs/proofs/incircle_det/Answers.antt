use Rattle.std.proofs.Common.{refl}
use Rattle.float_signs.specs.Filter.{circle_f}
use Rattle.float_signs.proofs.Filtering.{circle_exact}
use Rattle.float_signs.proofs.incircle_det.Goals as goal

pub returns : goal.returns
unfolding circle_f
returns c = record { formula = refl; exact = circle_exact _ _ _ _ }
