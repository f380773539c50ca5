-- `note_section` meets its contract: the name behind its length. Assumes nothing.
use mathlib.Core.Path.{ap, ◌∙◌}
use native.Mathlib.Omega.{arith}
use lib.ListN.{length, length-set}
use Rattle.rules.specs.Machine.{is_section}
use Rattle.rules.specs.Library.{operation_of}
use Rattle.expand_output.proofs.Laid.{name-short, section-written, section-stays}
use Rattle.expand_output.proofs.note_section.Goals as goal

pub overflow_cast-work : goal.overflow_cast-work
overflow_cast-work c = omega (arith, ap length c.name_of-name.ensures, name-short c.args.line.now)

pub copy-requires : goal.copy-requires
copy-requires c = simp length-set (omega (arith, ap length c.name_of-name.ensures, name-short c.args.line.now))

pub returns-then-is_section : goal.returns-then-is_section
unfolding operation_of
returns-then-is_section c = c.copy.ensures ∙ section-written _ c.args.line.now _ _ (c.is_section.ensures ∙ ap is_section c.operation_of.ensures) c.if-is_section.true c.name_of-name.ensures

pub returns-else-is_section : goal.returns-else-is_section
unfolding operation_of
returns-else-is_section c = section-stays _ c.args.line.now _ (c.is_section.ensures ∙ ap is_section c.operation_of.ensures) c.if-is_section.false
