use mathlib.Core.Path.{ap, ◌∙◌}
use lib.ListN.{drop}
use Rattle.call_operands.proofs.Walk.{behind-told}
use Rattle.call_operands.proofs.parts_behind.Goals as goal

pub returns : goal.returns
returns c = behind-told c.args.number _ _ c.behind.ensures ∙ ap (drop c.args.number) c.of.ensures
