-- `is_word` meets its contract: a text that is too long fails by its length alone, and in another each byte decides. Assumes nothing.
use Rattle.std.proofs.Common.{rules, tests, ◌∙◌, sym, ap, ◌&&◌, length}
use Rattle.std.proofs.lemmas.Iterator.{YieldsList-from_slice}
use Rattle.std.proofs.lemmas.Iterator.Search.{all_from_yields_List}
use borrow.Author.Tests.{le-leb, lt-leb}
use Rattle.rules.specs.Choice.{every}
use Rattle.rules.specs.Fields.{is_no_space}
use Rattle.rules.proofs.Listed.{every-listed}
use Rattle.tables.specs.Titles.{fits_row}
use Rattle.expand_titles.proofs.is_word.Goals as goal

pub returns-then-s-le8 : goal.returns-then-s-le8
unfolding fits_row is_no_space
returns-then-s-le8 c =
    let s = c.args.s.now in
    all_from_yields_List is_no_space c.all.new.self _ c.all.result c.all.ensures.ran (YieldsList-from_slice s (cc)) (λ x b q k. search (rules, tests)) ∙ every-listed is_no_space s
    ∙ sym (ap (λ b. b && every is_no_space s) (le-leb (length s) 8 c.if-s-le8.true))

pub returns-else-s-le8 : goal.returns-else-s-le8
unfolding fits_row
returns-else-s-le8 c =
    let s = c.args.s.now in
    let long = lt-leb (length s) 8 c.if-s-le8.false in
    long ∙ sym (ap (λ b. b && every is_no_space s) long)
