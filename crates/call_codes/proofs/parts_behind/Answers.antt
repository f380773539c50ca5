use mathlib.Core.Path.{ap, ◌∙◌}
use lib.ListN.{drop}
use Rattle.call_codes.proofs.parts_behind.Goals as goal

pub returns : goal.returns
returns c = c.behind.ensures ∙ ap (drop c.args.number) c.of.ensures
