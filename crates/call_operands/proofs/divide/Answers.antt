use mathlib.Core.Path.{ap, sym, ◌∙◌}
use borrow.Author.Rules.{rules}
use native.Mathlib.Omega.{arith}
use Prim.Native.Nat.{◌<◌, ◌^◌}
use mathlib.Core.Bool.{true, false}
use mathlib.Core.List.{map}
use lib.ListN.{length}
use Rattle.rules.specs.Lexemes.{lexed}
use Rattle.parts.specs.Parts.{parts_left}
use Rattle.parts.proofs.Divided.{few_parts, divided-cut}
use Rattle.call_operands.proofs.Walk.{as-many}
use Rattle.call_operands.specs.Calling.{operands_in, are_operands, leading}
use Rattle.std.specs.Prelude.{Some}
use Rattle.call_operands.proofs.Written.{not_plain, not-paired, not-operands, are-told}
use Rattle.call_operands.proofs.divide.Goals as goal

pub returns-then-not-is_plain : goal.returns-then-not-is_plain
unfolding operands_in
returns-then-not-is_plain c = sym (not_plain c.args.operand.now (sym (c.is_plain.ensures true) ∙ c.if-not-is_plain.true))

pub returns-then-not-pairs_up : goal.returns-then-not-pairs_up
unfolding operands_in
returns-then-not-pairs_up c = sym (not-paired c.args.operand.now (sym (c.is_plain.ensures true) ∙ c.if-not-is_plain.false) (sym c.pairs_up.ensures ∙ c.if-not-pairs_up.true))

pub returns-then-not-are_operands : goal.returns-then-not-are_operands
unfolding operands_in
returns-then-not-are_operands c = sym
    (not-operands c.args.operand.now (sym (c.is_plain.ensures true) ∙ c.if-not-is_plain.false) (sym c.pairs_up.ensures ∙ c.if-not-pairs_up.false)
    (ap (are_operands false) (divided-cut c.args.operand.now ∙ ap (map (lexed true)) (sym c.of-parts.ensures)) ∙ sym c.are_operands.ensures ∙ c.if-not-are_operands.true))

pub positional_count-requires : goal.positional_count-requires
positional_count-requires c =
    let s = c.args.operand.now in
    let bound : length s < 2 ^ 63 = search rules in
    let few : length (map (lexed true) (parts_left c.of-parts.result)) < 2 ^ 64 = omega (arith, bound, few_parts s, ap length c.of-parts.ensures, as-many (parts_left c.of-parts.result)) in
    search rules

pub returns : goal.returns
returns c =
    let s = c.args.operand.now in
    let same = divided-cut s ∙ ap (map (lexed true)) (sym c.of-parts.ensures) in
    ap (λ n. operands_in s (Some n)) (c.positional_count.ensures ∙ ap leading (sym same))
    ∙ are-told s (sym (c.is_plain.ensures true) ∙ c.if-not-is_plain.false) (sym c.pairs_up.ensures ∙ c.if-not-pairs_up.false)
    (ap (are_operands false) same ∙ sym c.are_operands.ensures ∙ c.if-not-are_operands.false)
