-- `next_at` meets its contract: what the two calls say, put together. Assumes nothing.
use mathlib.Core.Path.{ap, ◌∙◌}
use Rattle.lines.specs.Ends.{past_newline}
use Rattle.line_reader.specs.Reading.{next_at}
use Rattle.line_reader.proofs.next_at.Goals as goal

pub returns : goal.returns
unfolding next_at
returns c = c.past_newline.ensures ∙ ap (past_newline c.args.src.now) c.line_end-end.ensures.value
