use Rattle.std.proofs.Common.{length, arith, rules, ap, ◌<◌, ◌^◌}
use mathlib.Core.Logic.{inl}
use Rattle.std.proofs.lemmas.Iterator.Consumers.{count_from_yields_List, YieldsList-from_first}
use Rattle.operands.specs.Symbols.{symbols_left}
use Rattle.declaring.specs.Declared.{symbols_in}
use Rattle.declaring.proofs.Symbols.{symbols-few}
use Rattle.declaring.proofs.symbol_count.Goals as goal

pub count-requires-clause-fits : goal.count-requires-clause-fits
unfolding symbols_in
count-requires-clause-fits c =
    let bound : length c.args.operand.now < 2 ^ 63 = search rules in
    inl (omega (arith, bound, symbols-few c.args.operand.now, ap length c.of.ensures))

pub returns : goal.returns
unfolding symbols_in
returns c = count_from_yields_List _ _ c.count.ensures.ran (YieldsList-from_first (λ n. n.now) symbols_left _ c.of.ensures)
