use Rattle.std.proofs.Common.{length, arith, rules, ap, ◌∙◌, ◌<◌, ◌^◌}
use mathlib.Core.Logic.{inl}
use Rattle.std.proofs.lemmas.Iterator.Consumers.{count_from_yields_List}
use Rattle.parts.proofs.Divided.{few_parts}
use Rattle.parts.proofs.Chains.{yields_parts, part_count}
use Rattle.operands.proofs.part_count.Goals as goal

pub count-requires-clause-fits : goal.count-requires-clause-fits
count-requires-clause-fits c =
    let bound : length c.args.operand.now < 2 ^ 63 = search rules in
    inl (omega (arith, bound, few_parts c.args.operand.now, ap length c.of.ensures))

pub returns : goal.returns
returns c =
    count_from_yields_List _ _ c.count.ensures.ran (yields_parts _ c.of.ensures) ∙ part_count c.args.operand.now
