use mathlib.Core.Path.{sym, ◌∙◌}
use mathlib.Core.Bool.{true}
use Rattle.operands.proofs.Named.{long-before}
use Rattle.operands.proofs.has_long_name.Goals as goal

pub returns : goal.returns
returns c =
    c.has_long.ensures true ∙ sym (long-before c.args.part.now _ c.bare_at-end.ensures.value)
