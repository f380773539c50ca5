use Rattle.std.proofs.Common.{length, arith, rules, tests, ap, ◌<◌, ◌^◌, ◌∙◌}
use mathlib.Core.Logic.{inl}
use lib.Dec.{ltb}
use Rattle.std.proofs.lemmas.Iterator.Consumers.{count_from_yields_List, YieldsList-from_filter, YieldsList-at}
use Rattle.parts.specs.Parts.{parts_left}
use Rattle.parts.proofs.Divided.{few_parts}
use Rattle.parts.proofs.Chains.{yields_parts, count-listed}
use Rattle.keywords.specs.Keywords.{positional_in}
use Rattle.keywords.proofs.Parameters.{positionals_told}
use Rattle.keywords.proofs.positional_count.Goals as goal

pub count-requires-clause-fits : goal.count-requires-clause-fits
count-requires-clause-fits c =
    let bound : length c.args.operand.now < 2 ^ 63 = search rules in
    inl (omega (arith, bound, few_parts c.args.operand.now, ap length c.of.ensures, ap (λ it. length (parts_left it)) c.filter.ensures.source))

pub returns : goal.returns
returns c =
    count_from_yields_List _ _ c.count.ensures.ran
    (YieldsList-from_filter _ (λ p. ltb 0 (length (positional_in p))) (YieldsList-at c.filter.ensures.source (yields_parts _ c.of.ensures)) c.filter.ensures.closure (λ x b q k. search (rules, tests)))
    ∙ (count-listed (λ p. ltb 0 (length (positional_in p))) _ ∙ positionals_told c.args.operand.now)
