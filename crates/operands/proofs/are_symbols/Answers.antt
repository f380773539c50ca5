use Rattle.std.proofs.Common.{true, rules, tests, ◌∙◌}
use Rattle.std.proofs.lemmas.Iterator.Search.{all_from_yields_List}
use Rattle.rules.specs.Lexemes.{lexed}
use Rattle.rules.specs.Library.{is_one_symbol}
use Rattle.parts.proofs.Chains.{yields_parts, every_part}
use Rattle.operands.proofs.are_symbols.Goals as goal

pub returns : goal.returns
returns c =
    all_from_yields_List (λ p. is_one_symbol (lexed true p)) _ _ _ c.all.ensures.ran (yields_parts _ c.of.ensures) (λ x b q k. search (rules, tests))
    ∙ every_part c.args.operand.now is_one_symbol
