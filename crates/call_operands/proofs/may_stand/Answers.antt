use borrow.Author.Rules.{rules}
use Prim.Native.Nat.{◌+◌, ◌<◌}
use mathlib.Core.Path.{ap, sym, ◌∙◌}
use mathlib.Core.Bool.{not}
use lib.ListN.{length}
use Rattle.rules.specs.Calls.{has_equals}
use Rattle.declared.proofs.Starts.{part-all}
use Rattle.call_operands.proofs.may_stand.Goals as goal

pub returns-then-end-part : goal.returns-then-end-part
returns-then-end-part g c = c.equals_in-end.ensures.plain c.args.keywords _ c.if-end-part.true

pub returns-then-not-is_name : goal.returns-then-not-is_name
returns-then-not-is_name g c =
    let lt : c.equals_in-end.result < length c.args.part.now = search rules in
    sym (c.equals_in-end.ensures.unnamed c.args.keywords _ lt (sym c.is_name.ensures ∙ c.if-not-is_name.true))

pub returns-then-has_equals : goal.returns-then-has_equals
returns-then-has_equals g c =
    let end = c.equals_in-end.result in
    let lt : end < length c.args.part.now = search rules in
    sym
    (c.equals_in-end.ensures.again c.args.keywords _ lt (sym c.is_name.ensures ∙ c.if-not-is_name.false)
    (ap (λ t. has_equals (g.P.Divides.lexemes t)) (sym (part-all c.args.part.now (end + 1))) ∙ (sym c.has_equals.ensures ∙ c.if-has_equals.true)))

pub named_among-requires : goal.named_among-requires
named_among-requires g c = let e = sym c.is_name.ensures ∙ c.if-not-is_name.false in search rules

pub returns : goal.returns
returns g c =
    let end = c.equals_in-end.result in
    let lt : end < length c.args.part.now = search rules in
    ap not c.named_among.ensures
    ∙ sym
    (c.equals_in-end.ensures.single c.args.keywords _ lt (sym c.is_name.ensures ∙ c.if-not-is_name.false)
    (ap (λ t. has_equals (g.P.Divides.lexemes t)) (sym (part-all c.args.part.now (end + 1))) ∙ (sym c.has_equals.ensures ∙ c.if-has_equals.false)))
