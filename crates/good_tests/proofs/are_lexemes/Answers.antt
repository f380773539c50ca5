use Rattle.std.proofs.Common.{rules, tests, ◌∙◌, ap, sym, refl, ℕ, Bool, length, map}
use mathlib.Core.Bool.{◌&&◌}
use borrow.Author.Tests.{le-leb, lt-leb}
use Rattle.rules.specs.Choice.{every}
use Rattle.std.proofs.lemmas.Iterator.{YieldsList-from_slice}
use Rattle.std.proofs.lemmas.Iterator.Search.{all_from_yields_List}
use Rattle.rules.proofs.Listed.{every-listed}
use Rattle.deck.specs.Good.{is_lexeme}
use Rattle.deck_reading.specs.Reading.{slot_lex}
use Rattle.good_reading.proofs.Endless.{every-lexeme}
use Rattle.good_tests.proofs.Fields.{lexemes-are}
use Rattle.good_tests.proofs.are_lexemes.Goals as goal

pub returns-then-code-le-LINE : goal.returns-then-code-le-LINE
returns-then-code-le-LINE c =
    let code = c.args.code.now in
    let test : ℕ → Bool = λ b. is_lexeme (slot_lex b) in
    let all = all_from_yields_List test c.all.new.self _ c.all.result c.all.ensures.ran (YieldsList-from_slice code (cc)) (λ x b q k. search (rules, tests)) ∙ (every-listed test code ∙ sym (every-lexeme is_lexeme code)) in
    sym (ap (λ t. t && c.all.result) (le-leb (length code) 71 c.if-code-le-LINE.true)) ∙ lexemes-are code all

pub returns-else-code-le-LINE : goal.returns-else-code-le-LINE
returns-else-code-le-LINE c =
    let code = c.args.code.now in
    let all = every is_lexeme (map slot_lex code) in
    let long = lt-leb (length code) 71 c.if-code-le-LINE.false in
    long ∙ (sym (ap (λ t. t && all) long) ∙ lexemes-are code {b = all} refl)
