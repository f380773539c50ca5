use Rattle.std.proofs.Common.{refl, rules, tests, ◌∙◌}
use Rattle.std.proofs.lemmas.Iterator.Search.{any_from_yields_List}
use Rattle.std.proofs.lemmas.Iterator.Consumers.{YieldsList-from_first}
use Rattle.text.specs.Bytes.{same}
use Rattle.parts.proofs.Chains.{any-listed}
use Rattle.operands.specs.Symbols.{symbols_left}
use Rattle.operands.proofs.symbol_among.Goals as goal

pub returns : goal.returns
returns c =
    any_from_yields_List (same c.args.name.now) _ _ _ c.any.ensures.ran (YieldsList-from_first (λ n. n.now) symbols_left _ refl) (λ x b q k. search (rules, tests))
    ∙ any-listed (same c.args.name.now) _
