use Rattle.std.proofs.Common.{rules, tests, ◌∙◌}
use Rattle.std.proofs.lemmas.Iterator.Search.{any_from_yields_List}
use Rattle.rules.specs.Fields.{lines_of}
use Rattle.rules.specs.Library.{is_named}
use Rattle.rules.proofs.Listed.{any-listed}
use Rattle.line_reader.proofs.Lines.{lines-road}
use Rattle.labels.proofs.any_named.Goals as goal

pub returns : goal.returns
returns c =
    let a = c.args in
    let named = is_named a.symbol.now in
    any_from_yields_List named c.any.new.self _ c.any.result c.any.ensures.ran (lines-road c.new.result a.lines c.new.ensures) (λ x b q k. search (rules, tests)) ∙ any-listed named (lines_of a.lines.now)
