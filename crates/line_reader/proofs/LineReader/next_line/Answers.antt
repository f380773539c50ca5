-- `next_line` meets its contract: the line up to its end, found once; behind the last one the reader stays. Assumes nothing.
use Rattle.std.proofs.Common.{◌∙◌, ap}
use Rattle.lines.specs.Ends.{past_newline}
use Rattle.line_reader.specs.Reading.{next_at}
use Rattle.line_reader.proofs.Lines.{stays}
use Rattle.line_reader.proofs.LineReader.next_line.Goals as goal

pub returns-then-src-at-clause-reader : goal.returns-then-src-at-clause-reader
returns-then-src-at-clause-reader c = stays c.args.self.now c.if-src-at.true

pub returns-clause-reader : goal.returns-clause-reader
unfolding next_at
returns-clause-reader c =
    let r = c.args.self.now in
    ap (λ (at : _). record { src = r.src; at = at }) (c.past_newline-self.ensures ∙ ap (past_newline r.src.now) c.line_end-end.ensures.value)
