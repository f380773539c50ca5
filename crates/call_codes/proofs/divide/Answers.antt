use mathlib.Core.Path.{ap, sym, ◌∙◌}
use Rattle.call_codes.specs.Codes.{parts_left, split_by}
use Rattle.call_operands.specs.Calling.{are_operands, leading}
use Rattle.call_codes.proofs.Cutting.{few_parts}
use borrow.Author.Rules.{rules}
use native.Mathlib.Omega.{arith}
use Prim.Native.Nat.{◌<◌, ◌^◌}
use mathlib.Core.Bool.{false}
use lib.ListN.{length}
use Rattle.std.specs.Prelude.{Some}
use Rattle.call_codes.proofs.Senses.{not-paired, not-operands, are-told}
use Rattle.call_codes.proofs.divide.Goals as goal

pub returns-then-not-pairs_up : goal.returns-then-not-pairs_up
unfolding split_by
returns-then-not-pairs_up c = λ held. sym (not-paired held c.args.code.now (sym c.pairs_up.ensures ∙ c.if-not-pairs_up.true))

pub returns-then-not-are_operands : goal.returns-then-not-are_operands
unfolding split_by
returns-then-not-are_operands c =
    λ held. sym (not-operands held c.args.code.now (sym c.pairs_up.ensures ∙ c.if-not-pairs_up.false) (ap (are_operands false) (sym c.of-parts.ensures) ∙ sym c.are_operands.ensures ∙ c.if-not-are_operands.true))

pub positional_count-requires : goal.positional_count-requires
positional_count-requires c =
    let s = c.args.code.now in
    let bound : length s < 2 ^ 63 = search rules in
    let few : length (parts_left c.of-parts.result) < 2 ^ 64 = omega (arith, bound, few_parts s, ap length c.of-parts.ensures) in
    search rules

pub returns : goal.returns
returns c =
    let s = c.args.code.now in
    λ held.
    ap (λ n. split_by held s (Some n)) (c.positional_count.ensures ∙ ap leading c.of-parts.ensures)
    ∙ are-told held s (sym c.pairs_up.ensures ∙ c.if-not-pairs_up.false) (ap (are_operands false) (sym c.of-parts.ensures) ∙ sym c.are_operands.ensures ∙ c.if-not-are_operands.false)
