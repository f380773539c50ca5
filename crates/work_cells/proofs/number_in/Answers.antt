-- `number_in` meets its contract. Assumes nothing.
use mathlib.Core.Path.{refl, sym, ◌∙◌}
use mir.Syntax.{w32}
use mir.Val.{SFits}
use mir.Facts.{to_z-of_z}
use mir.ValLaws.{to_z_pos}
use lib.IntN.{negsuc}
use Rattle.work_cells.proofs.Kept.{sign-cut, positive, negative, less_one}
use Rattle.work_cells.proofs.number_in.Goals as goal

pub returns-then-byte-eq0 : goal.returns-then-byte-eq0
returns-then-byte-eq0 c = to_z_pos w32 _ c.four_in-n.ensures.1 ∙ positive _ _ (sign-cut _ _ _ refl ∙ sym c.byte.ensures ∙ c.if-byte-eq0.true) c.four_in-n.ensures.0

pub returns-else-byte-eq0 : goal.returns-else-byte-eq0
returns-else-byte-eq0 c = let fits : SFits w32 (negsuc c.four_in-n.result) = record { sfits = c.four_in-n.ensures.1 } in
    rw (to_z_pos w32 _ c.four_in-n.ensures.1, less_one _, to_z-of_z fits) (negative _ _ (λ e. c.if-byte-eq0.false (c.byte.ensures ∙ sym (sign-cut _ _ _ refl) ∙ e)) c.four_in-n.ensures.0)
