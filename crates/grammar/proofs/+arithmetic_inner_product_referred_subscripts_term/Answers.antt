use mathlib.Core.Path.{refl, sym, ap, ◌∙◌}
use mathlib.Core.Bool.{false}
use mathlib.Core.List.{[]}
use mathlib.Core.Option.{some}
use native.Mathlib.Omega.{arith}
use Rattle.std.proofs.Common.{rules}
use Rattle.rules.specs.Grammar.{broken, deeper}
use Rattle.rules.specs.Grammar.{closed as closed_by, referred as referred_by}
use Rattle.rules.specs.Form.{form}
use Rattle.kinds.specs.declared.Stand.TheVariants.{AfterK, AfterN}
use Rattle.kinds.specs.Kinds.{table_of}
use Rattle.kinds.specs.Kinds.{kind_of as meant}
use Rattle.grammar.specs.Tokens.{toks_at, tells}
use Rattle.grammar.specs.Operands.{subscribed}
use Rattle.grammar.proofs.Places.{toks-drop, toks-rest, text-inside, attribute-inside, ref-step}
use Rattle.grammar.proofs.Answers.{tells-broken, then-on, then-off}
use Rattle.grammar.proofs.Chains.{loop-starts, loop-none, loop-ends, loop-less, loop-again, loop-fails}
use Rattle.grammar.proofs.Rules.{listed, sub-parameter, sub-list, list-one, list-two, fitting, refers-none, refers-bare, refers-subscripted, term-opens, term-number, term-K, term-N, term-reference, products-of, sums-of, product-of, sum_of, deeper-spent, deeper-on}
use Rattle.grammar.proofs.+arithmetic_inner_product_referred_subscripts_term.Goals as goal

pub arithmetic-returns-in_err-here : goal.arithmetic-returns-in_err-here
arithmetic-returns-in_err-here t c = let a = c.args in loop-none (sums-of a.nest) a.kinds.now a.code.now _ _ c.product.ensures (c.in_err-here.was) _ c.from_residual.ensures.1 ∙ sum_of a.nest _

pub arithmetic-loop-next-init : goal.arithmetic-loop-next-init
arithmetic-loop-next-init t c = let a = c.args in loop-starts (sums-of a.nest) a.kinds.now a.code.now _ _ c.product.ensures (c.in_ok-here.was)

pub arithmetic-returns-in_err-here-2 : goal.arithmetic-returns-in_err-here-2
arithmetic-returns-in_err-here-2 t c = let a = c.args in loop-fails (sums-of a.nest) a.kinds.now a.code.now _ _ c.loop-next.invariant (c.after_either.ensures a.kinds.now) c.in-Some.is _ c.product-in-Some.ensures (c.in_err-here-2.was) _ c.from_residual-in_err-here-2.ensures.1 ∙ sum_of a.nest _

pub arithmetic-loop-next-smaller : goal.arithmetic-loop-next-smaller
arithmetic-loop-next-smaller t c = let a = c.args in loop-less (sums-of a.nest) a.kinds.now a.code.now _ _ c.loop-next.invariant (c.after_either.ensures a.kinds.now) c.in-Some.is _ c.product-in-Some.ensures (c.in_ok-here-2.was)

pub arithmetic-loop-next-preserved : goal.arithmetic-loop-next-preserved
arithmetic-loop-next-preserved t c = let a = c.args in loop-again (sums-of a.nest) a.kinds.now a.code.now _ _ c.loop-next.invariant (c.after_either.ensures a.kinds.now) c.in-Some.is _ c.product-in-Some.ensures (c.in_ok-here-2.was)

pub arithmetic-returns : goal.arithmetic-returns
arithmetic-returns t c = let a = c.args in loop-ends (sums-of a.nest) a.kinds.now a.code.now _ _ c.loop-next.invariant (c.after_either.ensures a.kinds.now) c.in_default.is ∙ sum_of a.nest _

pub product-returns-in_err-here : goal.product-returns-in_err-here
product-returns-in_err-here t c = let a = c.args in loop-none (products-of a.nest) a.kinds.now a.code.now _ _ c.term.ensures (c.in_err-here.was) _ c.from_residual.ensures.1 ∙ product-of a.nest _

pub product-loop-next-init : goal.product-loop-next-init
product-loop-next-init t c = let a = c.args in loop-starts (products-of a.nest) a.kinds.now a.code.now _ _ c.term.ensures (c.in_ok-here.was)

pub product-returns-in_err-here-2 : goal.product-returns-in_err-here-2
product-returns-in_err-here-2 t c = let a = c.args in loop-fails (products-of a.nest) a.kinds.now a.code.now _ _ c.loop-next.invariant (c.after_either.ensures a.kinds.now) c.in-Some.is _ c.term-in-Some.ensures (c.in_err-here-2.was) _ c.from_residual-in_err-here-2.ensures.1 ∙ product-of a.nest _

pub product-loop-next-smaller : goal.product-loop-next-smaller
product-loop-next-smaller t c = let a = c.args in loop-less (products-of a.nest) a.kinds.now a.code.now _ _ c.loop-next.invariant (c.after_either.ensures a.kinds.now) c.in-Some.is _ c.term-in-Some.ensures (c.in_ok-here-2.was)

pub product-loop-next-preserved : goal.product-loop-next-preserved
product-loop-next-preserved t c = let a = c.args in loop-again (products-of a.nest) a.kinds.now a.code.now _ _ c.loop-next.invariant (c.after_either.ensures a.kinds.now) c.in-Some.is _ c.term-in-Some.ensures (c.in_ok-here-2.was)

pub product-returns : goal.product-returns
product-returns t c = let a = c.args in loop-ends (products-of a.nest) a.kinds.now a.code.now _ _ c.loop-next.invariant (c.after_either.ensures a.kinds.now) c.in_default.is ∙ product-of a.nest _

pub inner-returns-then-nest-eq0 : goal.inner-returns-then-nest-eq0
inner-returns-then-nest-eq0 t c = deeper-spent _ _ _ c.if-nest-eq0.true

pub inner-returns-else-nest-eq0 : goal.inner-returns-else-nest-eq0
inner-returns-else-nest-eq0 t c = c.arithmetic.ensures ∙ deeper-on _ _ c.if-nest-eq0.false

pub subscripts-returns-in_ok-inner-in-Parameter : goal.subscripts-returns-in_ok-inner-in-Parameter
subscripts-returns-in_ok-inner-in-Parameter t c = let a = c.args in c.closed.ensures a.kinds.now ∙ then-on (toks_at a.kinds.now a.code.now) closed_by (c.inner.ensures ∙ ap (deeper form a.nest) (sym (toks-rest a.kinds.now a.code.now _))) (c.in_ok-inner-in-Parameter.was) ∙ sub-parameter (deeper form a.nest) _ c.in-Parameter.is

pub subscripts-returns-in_err-inner-in-Parameter : goal.subscripts-returns-in_err-inner-in-Parameter
subscripts-returns-in_err-inner-in-Parameter t c = let a = c.args in then-off (toks_at a.kinds.now a.code.now) closed_by (c.inner.ensures ∙ ap (deeper form a.nest) (sym (toks-rest a.kinds.now a.code.now _))) (c.in_err-inner-in-Parameter.was) _ c.from_residual.ensures.1 ∙ sub-parameter (deeper form a.nest) _ c.in-Parameter.is

pub subscripts-returns-in_err-first-in-List : goal.subscripts-returns-in_err-first-in-List
subscripts-returns-in_err-first-in-List t c = let a = c.args in then-off (toks_at a.kinds.now a.code.now) (listed (deeper form a.nest)) (c.inner-in-List.ensures ∙ ap (deeper form a.nest) (sym (toks-rest a.kinds.now a.code.now _))) c.in_err-first-in-List.was _ c.from_residual-in_err-first-in-List.ensures.1 ∙ sub-list (deeper form a.nest) _ c.in-List.is

pub subscripts-returns-in-None : goal.subscripts-returns-in-None
subscripts-returns-in-None t c = let a = c.args in c.closed-in-None.ensures a.kinds.now ∙ (list-one (deeper form a.nest) a.kinds.now a.code.now _ (c.after_byte.ensures a.kinds.now) c.in-None.is) ∙ then-on (toks_at a.kinds.now a.code.now) (listed (deeper form a.nest)) (c.inner-in-List.ensures ∙ ap (deeper form a.nest) (sym (toks-rest a.kinds.now a.code.now _))) c.in_ok-first-in-List.was ∙ sub-list (deeper form a.nest) _ c.in-List.is

pub subscripts-returns-in_ok-inner-in-Some : goal.subscripts-returns-in_ok-inner-in-Some
subscripts-returns-in_ok-inner-in-Some t c = let a = c.args in c.closed-in-Some.ensures a.kinds.now ∙ then-on (toks_at a.kinds.now a.code.now) closed_by c.inner-in-Some.ensures c.in_ok-inner-in-Some.was ∙ (list-two (deeper form a.nest) a.kinds.now a.code.now _ (c.after_byte.ensures a.kinds.now) c.in-Some.is) ∙ then-on (toks_at a.kinds.now a.code.now) (listed (deeper form a.nest)) (c.inner-in-List.ensures ∙ ap (deeper form a.nest) (sym (toks-rest a.kinds.now a.code.now _))) c.in_ok-first-in-List.was ∙ sub-list (deeper form a.nest) _ c.in-List.is

pub subscripts-returns-in_err-inner-in-Some : goal.subscripts-returns-in_err-inner-in-Some
subscripts-returns-in_err-inner-in-Some t c = let a = c.args in then-off (toks_at a.kinds.now a.code.now) closed_by c.inner-in-Some.ensures c.in_err-inner-in-Some.was _ c.from_residual-in_err-inner-in-Some.ensures.1 ∙ (list-two (deeper form a.nest) a.kinds.now a.code.now _ (c.after_byte.ensures a.kinds.now) c.in-Some.is) ∙ then-on (toks_at a.kinds.now a.code.now) (listed (deeper form a.nest)) (c.inner-in-List.ensures ∙ ap (deeper form a.nest) (sym (toks-rest a.kinds.now a.code.now _))) c.in_ok-first-in-List.was ∙ sub-list (deeper form a.nest) _ c.in-List.is

pub subscripts-returns-in-Symbol : goal.subscripts-returns-in-Symbol
unfolding subscribed tells broken
subscripts-returns-in-Symbol t c = search rules

pub referred-overflow_add-at : goal.referred-overflow_add-at
referred-overflow_add-at t c = let inside = (ref-step _ _ _ c.kind_at.ensures c.in-Some.is).inside in omega arith

pub referred-overflow_add-at-then-text_at-eq40 : goal.referred-overflow_add-at-then-text_at-eq40
referred-overflow_add-at-then-text_at-eq40 t c = let inside = (ref-step _ _ _ c.kind_at.ensures c.in-Some.is).inside in omega arith

pub referred-overflow_add-at-2 : goal.referred-overflow_add-at-2
referred-overflow_add-at-2 t c = let inside = (ref-step _ _ _ c.kind_at.ensures c.in-Some.is).inside in omega arith

pub referred-subscripts-requires : goal.referred-subscripts-requires
referred-subscripts-requires t c = (omega arith, text-inside [] _ _ _ (c.text_at.ensures []) (omega arith))

pub referred-returns-in_default : goal.referred-returns-in_default
referred-returns-in_default t c = tells-broken _ _ ∙ refers-none _ _ _ _ (sym c.in_default.is ∙ c.kind_at.ensures)

pub referred-returns-in_err-end : goal.referred-returns-in_err-end
referred-returns-in_err-end t c = let a = c.args in let r = ref-step a.kinds.now a.code.now _ c.kind_at.ensures c.in-Some.is in then-off (toks_at a.kinds.now a.code.now) (fitting (deeper form a.nest) (table_of a.stand) (toks_at a.kinds.now a.code.now a.here) (table_of a.stand (meant c.in-Some.kind) false)) c.subscripts.ensures (c.in_err-end.was) _ c.from_residual.ensures.1 ∙ refers-subscripted (deeper form a.nest) (table_of a.stand) _ (meant c.in-Some.kind) r.step (c.text_at.ensures a.kinds.now) c.if-text_at-eq40.true refl

pub referred-returns-then-text_at-eq40 : goal.referred-returns-then-text_at-eq40
referred-returns-then-text_at-eq40 t c = let a = c.args in let r = ref-step a.kinds.now a.code.now _ c.kind_at.ensures c.in-Some.is in c.taken.ensures (toks_at a.kinds.now a.code.now) ∙ then-on (toks_at a.kinds.now a.code.now) (fitting (deeper form a.nest) (table_of a.stand) (toks_at a.kinds.now a.code.now a.here) c.takes.result) c.subscripts.ensures (c.in_ok-end.was) ∙ refers-subscripted (deeper form a.nest) (table_of a.stand) _ (meant c.in-Some.kind) r.step (c.text_at.ensures a.kinds.now) c.if-text_at-eq40.true c.takes.ensures

pub referred-returns : goal.referred-returns
referred-returns t c = let a = c.args in let r = ref-step a.kinds.now a.code.now _ c.kind_at.ensures c.in-Some.is in c.taken-2.ensures (toks_at a.kinds.now a.code.now) ∙ refers-bare (deeper form a.nest) (table_of a.stand) _ (meant c.in-Some.kind) r.step (c.text_at.ensures a.kinds.now) c.if-text_at-eq40.false c.takes-2.ensures

pub term-overflow_add-at : goal.term-overflow_add-at
term-overflow_add-at t c = let inside = text-inside [] _ _ _ (c.text_at-c.ensures []) (omega arith) in omega arith

pub term-returns-then-c-eq40 : goal.term-returns-then-c-eq40
term-returns-then-c-eq40 t c = let a = c.args in c.closed.ensures a.kinds.now ∙ then-on (toks_at a.kinds.now a.code.now) closed_by (c.inner.ensures ∙ ap (deeper form a.nest) (sym (toks-rest a.kinds.now a.code.now _))) (c.in_ok-inner.was) ∙ sym (term-opens _ _ (c.text_at-c.ensures a.kinds.now) c.if-c-eq40.true)

pub term-returns-in_err-inner : goal.term-returns-in_err-inner
term-returns-in_err-inner t c = let a = c.args in then-off (toks_at a.kinds.now a.code.now) closed_by (c.inner.ensures ∙ ap (deeper form a.nest) (sym (toks-rest a.kinds.now a.code.now _))) (c.in_err-inner.was) _ c.from_residual.ensures.1 ∙ sym (term-opens _ _ (c.text_at-c.ensures a.kinds.now) c.if-c-eq40.true)

pub term-returns-then-digit : goal.term-returns-then-digit
term-returns-then-digit t c = let a = c.args in c.decimal.ensures a.kinds.now (deeper form a.nest) ∙ sym (term-number _ _ (c.text_at-c.ensures a.kinds.now) c.if-c-eq40.false (sym c.digit.ensures ∙ c.if-digit.true))

pub term-overflow_add-at-then-attribute_at : goal.term-overflow_add-at-then-attribute_at
term-overflow_add-at-then-attribute_at t c = let inside = attribute-inside [] _ _ _ (sym (c.attribute_at.ensures []) ∙ c.if-attribute_at.true) in omega arith

pub term-returns-then-attribute_at : goal.term-returns-then-attribute_at
term-returns-then-attribute_at t c = let a = c.args in c.referred.ensures ∙ ap (referred_by form (deeper form a.nest) (table_of AfterK) (λ r. some tt) (toks_at a.kinds.now a.code.now _)) (sym (toks-drop a.kinds.now a.code.now _ 2)) ∙ sym (term-K _ _ (c.text_at-c.ensures a.kinds.now) c.if-c-eq40.false (sym c.digit.ensures ∙ c.if-digit.false) (sym (c.attribute_at.ensures a.kinds.now) ∙ c.if-attribute_at.true))

pub term-overflow_add-at-then-attribute_at-2 : goal.term-overflow_add-at-then-attribute_at-2
term-overflow_add-at-then-attribute_at-2 t c = let inside = attribute-inside [] _ _ _ (sym (c.attribute_at-2.ensures []) ∙ c.if-attribute_at-2.true) in omega arith

pub term-returns-then-attribute_at-2 : goal.term-returns-then-attribute_at-2
term-returns-then-attribute_at-2 t c = let a = c.args in c.referred-then-attribute_at-2.ensures ∙ ap (referred_by form (deeper form a.nest) (table_of AfterN) (λ r. some tt) (toks_at a.kinds.now a.code.now _)) (sym (toks-drop a.kinds.now a.code.now _ 2)) ∙ sym (term-N _ _ (c.text_at-c.ensures a.kinds.now) c.if-c-eq40.false (sym c.digit.ensures ∙ c.if-digit.false) (sym (c.attribute_at.ensures a.kinds.now) ∙ c.if-attribute_at.false) (sym (c.attribute_at-2.ensures a.kinds.now) ∙ c.if-attribute_at-2.true))

pub term-returns : goal.term-returns
term-returns t c = let a = c.args in c.referred-2.ensures ∙ sym (term-reference _ _ (c.text_at-c.ensures a.kinds.now) c.if-c-eq40.false (sym c.digit.ensures ∙ c.if-digit.false) (sym (c.attribute_at.ensures a.kinds.now) ∙ c.if-attribute_at.false) (sym (c.attribute_at-2.ensures a.kinds.now) ∙ c.if-attribute_at-2.false))
