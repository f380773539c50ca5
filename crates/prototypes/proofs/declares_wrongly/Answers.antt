-- `prototypes::declares_wrongly` meets its contract: the operand declares wrongly with no name taken, and the name field adds its symbol in front. Assumes nothing.
use mathlib.Core.Path.{ap, sym, ◌∙◌}
use mathlib.Core.Bool.{false}
use Rattle.text.specs.Bytes.{same}
use Rattle.rules.specs.Choice.{any}
use Rattle.declared.specs.Declared.{found}
use Rattle.prototypes.proofs.Parameters.{wrongly-none, wrongly-one}
use Rattle.prototypes.proofs.declares_wrongly.Goals as goal

pub returns-in-Some : goal.returns-in-Some
returns-in-Some c =
    wrongly-one c.args.name.now c.args.operand.now c.declares_wrongly-rest.ensures _ (sym (ap found c.in-Some.is) ∙ c.start_symbol.ensures false) c.begins_sys-system.ensures
    (c.symbol_among-again.ensures ∙ ap (any (same c.in-Some.symbol.now)) c.of.ensures)

pub returns-in-None : goal.returns-in-None
returns-in-None c =
    wrongly-none c.args.name.now c.args.operand.now c.declares_wrongly-rest.ensures (sym (ap found c.in-None.is) ∙ c.start_symbol.ensures false)
