use Rattle.std.proofs.Common.{ap, ◌∙◌, w64, to_z-of_z}
use Rattle.signs.specs.Signs.{sign_z}
use Rattle.segments.proofs.orient_xy.Goals as goal

pub returns : goal.returns
returns c = c.of_i64.ensures ∙ ap sign_z (to_z-of_z {w = w64} (record { sfits = c.orient_det.type_inv }) ∙ c.orient_det.ensures)
