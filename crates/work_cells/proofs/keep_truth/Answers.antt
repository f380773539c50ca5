-- `keep_truth` meets its contract. Assumes nothing.
use mathlib.Core.Path.{refl, sym, ◌∙◌}
use Rattle.work_cells.proofs.Kept.{truth-written, truth_byte}
use Rattle.work_cells.proofs.keep_truth.Goals as goal

pub returns : goal.returns
returns c = truth-written _ _ _ _ c.args.b refl (truth_byte c.args.b ∙ sym c.from.ensures)
