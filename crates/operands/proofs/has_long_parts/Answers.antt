use Rattle.std.proofs.Common.{true, rules, tests, ◌∙◌}
use Rattle.std.proofs.lemmas.Iterator.Search.{any_from_yields_List}
use Rattle.rules.specs.Lexemes.{lexed}
use Rattle.rules.specs.Faults.{has_long_symbol, before_equals}
use Rattle.parts.proofs.Chains.{yields_parts, any_part}
use Rattle.operands.proofs.has_long_parts.Goals as goal

pub returns : goal.returns
returns c =
    any_from_yields_List (λ p. has_long_symbol (before_equals (lexed true p))) _ _ _ c.any.ensures.ran (yields_parts _ c.of.ensures) (λ x b q k. search (rules, tests))
    ∙ any_part c.args.operand.now (λ part. has_long_symbol (before_equals part))
