use Rattle.base_checks.proofs.no_area.Goals as goal

pub returns : goal.returns
returns c = c.is_flat.ensures
