use Rattle.std.proofs.Common.{rules}
use Rattle.std.proofs.lemmas.Iterator.Consumers.{count_from_yields_List}
use Rattle.line_reader.proofs.Lines.{lines-road, lines-fit}
use Rattle.bodies.proofs.line_count.Goals as goal

pub count-requires-clause-fits : goal.count-requires-clause-fits
count-requires-clause-fits c = lines-fit c.new.result c.args.lines c.new.ensures (search rules)

pub returns : goal.returns
returns c = count_from_yields_List c.new.result c.count.result c.count.ensures.ran (lines-road c.new.result c.args.lines c.new.ensures)
