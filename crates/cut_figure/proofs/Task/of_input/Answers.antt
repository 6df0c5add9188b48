use Rattle.std.proofs.Common.{ℕ, sym}
use Rattle.std.proofs.lemmas.List.{length-replicate}
use Rattle.cut_figure.proofs.Task.of_input.Goals as goal

-- The list has as many bytes as it is made with: counted once, since so long a list is not to be written out.
pub slice_bounds-read_text-end : goal.slice_bounds-read_text-end
slice_bounds-read_text-end g c = sym (length-replicate {A = ℕ} 524289 0)
