use Rattle.line_reader.proofs.Lines.{line-given, lines-fewer}
use Rattle.line_reader.proofs.LineReaderIterator.next.Goals as goal

pub returns-clause-steps : goal.returns-clause-steps
returns-clause-steps c = line-given _ _ _ c.next_line.ensures.line c.next_line.ensures.reader

pub returns-clause-goes : goal.returns-clause-goes
returns-clause-goes c = lines-fewer _ _ _ (line-given _ _ _ c.next_line.ensures.line c.next_line.ensures.reader)
