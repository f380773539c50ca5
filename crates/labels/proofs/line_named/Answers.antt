use Rattle.std.proofs.Common.{rules, tests, ◌≡◌, ◌∙◌, ap, arith, inl, Bool, not, ◌<◌, ◌^◌, length}
use Rattle.std.proofs.lemmas.Iterator.Consumers.{count_from_yields_List, YieldsList-at}
use Rattle.std.proofs.lemmas.Iterator.Search.{YieldsList-from_take_while}
use Rattle.std.proofs.lemmas.List.Folds.{length-prefix_len}
use Rattle.text.specs.Bytes.{Bytes}
use Rattle.rules.specs.Fields.{lines_of}
use Rattle.rules.specs.Library.{is_named}
use Rattle.lines.proofs.Found.{lines-few}
use Rattle.line_reader.specs.Reading.{lines_left}
use Rattle.line_reader.proofs.Lines.{lines-road}
use Rattle.labels.proofs.Turns.{named-count}
use Rattle.labels.proofs.line_named.Goals as goal

pub count-requires-clause-fits : goal.count-requires-clause-fits
count-requires-clause-fits c =
    let lines = c.args.lines.now in
    let same : length (lines_left c.take_while.result.iter) ≡ length (lines_of lines) = ap (λ s. length (lines_left s)) (c.take_while.ensures.source ∙ c.new.ensures) in
    let fits : length lines < 2 ^ 64 = search rules in
    inl (omega (arith, lines-few lines, same, fits))

pub returns : goal.returns
returns c =
    let a = c.args in
    let other : Bytes → Bool = λ l. not (is_named a.symbol.now l) in
    let ls = lines_of a.lines.now in
    count_from_yields_List c.take_while.result c.count.result c.count.ensures.ran
    (YieldsList-from_take_while _ other (YieldsList-at c.take_while.ensures.source (lines-road c.new.result a.lines c.new.ensures)) c.take_while.ensures.closure c.take_while.ensures.done (λ x b q k. search (rules, tests)))
    ∙ (length-prefix_len other ls ∙ named-count a.symbol.now ls)
