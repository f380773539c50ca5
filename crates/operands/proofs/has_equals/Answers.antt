use mathlib.Core.Path.{sym}
use Rattle.declared.proofs.Keyword.{has-told}
use Rattle.operands.proofs.has_equals.Goals as goal

pub returns : goal.returns
returns c =
    sym (has-told c.args.part.now _ c.bare_at.ensures.value)
