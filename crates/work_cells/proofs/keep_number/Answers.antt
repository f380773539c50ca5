-- `keep_number` meets its contract. Assumes nothing.
use mathlib.Core.Path.{◌∙◌}
use mir.Facts.{to_z-of_z}
use Rattle.work_cells.proofs.Kept.{number-told}
use Rattle.work_cells.proofs.Signs.{sign_byte}
use Rattle.work_cells.proofs.keep_number.Goals as goal

pub returns : goal.returns
returns c =
    let v = c.ranges.v in
    let sign = rw (to_z-of_z v) at c.from.ensures in
    let size = rw (to_z-of_z v) at c.magnitude.ensures.0 in
    c.put_signed.ensures ∙ number-told _ _ _ _ c.args.v (sign ∙ sign_byte c.args.v) size
