use Rattle.std.proofs.Common.{length, arith, rules, tests, ap, ◌<◌, ◌^◌, ◌∙◌}
use mathlib.Core.Logic.{inl}
use Rattle.std.proofs.lemmas.Iterator.Consumers.{count_from_yields_List, YieldsList-from_first, YieldsList-from_filter, YieldsList-at}
use Rattle.names.specs.Names.{names_in}
use Rattle.parts.proofs.Chains.{count-listed}
use Rattle.operands.specs.Symbols.{symbols_left}
use Rattle.declaring.specs.Declared.{symbols_in, is_new}
use Rattle.declaring.proofs.Symbols.{symbols-few}
use Rattle.declaring.proofs.new_count.Goals as goal

pub count-requires-clause-fits : goal.count-requires-clause-fits
unfolding symbols_in
count-requires-clause-fits c =
    let bound : length c.args.operand.now < 2 ^ 63 = search rules in
    inl (omega (arith, bound, symbols-few c.args.operand.now, ap length c.of.ensures, ap (λ it. length (symbols_left it)) c.filter.ensures.source))

pub returns : goal.returns
unfolding symbols_in
returns c =
    count_from_yields_List _ _ c.count.ensures.ran
    (YieldsList-from_filter _ (is_new (names_in c.args.shared.now)) (YieldsList-at c.filter.ensures.source (YieldsList-from_first (λ n. n.now) symbols_left _ c.of.ensures)) c.filter.ensures.closure (λ x b q k. search (rules, tests)))
    ∙ count-listed (is_new (names_in c.args.shared.now)) _
