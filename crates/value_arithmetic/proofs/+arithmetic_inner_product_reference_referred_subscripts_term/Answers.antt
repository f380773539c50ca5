use mathlib.Core.Path.{sym, ap, ◌∙◌}
use mathlib.Core.List.{[], ◌∷◌}
use native.Mathlib.Omega.{arith}
use lib.Dec.{eqb}
use Rattle.text.specs.Bytes.{bytes, member}
use Rattle.rules.specs.Grammar.{deeper}
use Rattle.grammar.proofs.Answers.{found, found-at, ended}
use Rattle.value_references.proofs.Standing.{not-parameter, not-list}
use Rattle.rules.specs.Grammar.{closed as closed_by, referred as referred_by}
use Rattle.rules.specs.Evaluate.{values}
use Rattle.kinds.specs.declared.Stand.TheVariants.{AfterK, AfterN}
use Rattle.kinds.specs.Kinds.{table_of}
use Rattle.grammar.proofs.Places.{text-inside, attribute-inside}
use Rattle.value_sums.specs.Answers.{toks_by}
use Rattle.value_sums.proofs.Answers.{same-plain, toks-drop, toks-rest, tells-broken}
use Rattle.value_sums.proofs.Places.{same-attribute}
use Rattle.value_references.specs.Referring.{ref_to, meaning_of}
use Rattle.value_references.specs.Referring.{listed as listed_by}
use Rattle.value_arithmetic.specs.Evaluating.{judged_by}
use Rattle.value_arithmetic.proofs.Chains.{read-on, read_off, operand-by, loop-starts, loop-on, loop-refused, operand-refused, loop-ends, loop-less, loop-again}
use Rattle.value_arithmetic.proofs.Rules.{ref-step, ref-by, tells-bare, tells-ill, listed, sub-parameter, sub-list, sub-none, list-one, list-two, reference-bare, reference-subscripted, refers-is, judged-is, refers-none, term-opens, term-number, term-K, term-N, term-reference, products-of, sums-of, product-of, sum_of, deeper-spent, deeper-on}
use Rattle.value_arithmetic.proofs.+arithmetic_inner_product_reference_referred_subscripts_term.Goals as goal

pub arithmetic-returns-in_err-left : goal.arithmetic-returns-in_err-left
arithmetic-returns-in_err-left t c = let a = c.args in λ held h. loop-refused (sums-of a.nest) held a.code.now _ (loop-starts (sums-of a.nest) held a.code.now _ _ (c.product.ensures held h)) c.in_err-left.was _ c.from_residual.ensures.1 ∙ sum_of a.nest _

pub arithmetic-loop-next-init : goal.arithmetic-loop-next-init
arithmetic-loop-next-init t c = let a = c.args in λ held h. loop-on (sums-of a.nest) held a.code.now _ (loop-starts (sums-of a.nest) held a.code.now _ _ (c.product.ensures held h)) c.in_ok-left.was

pub arithmetic-returns-in_err-product : goal.arithmetic-returns-in_err-product
arithmetic-returns-in_err-product t c = let a = c.args in λ held h. operand-refused (sums-of a.nest) held a.code.now _ _ (c.loop-next.invariant held h) (operand-by (λ b. member b (bytes "+-")) held a.code.now _ (c.after_either.ensures [])) c.in-Some.is _ (c.product-in-Some.ensures held h) c.in_err-product.was _ c.from_residual-in_err-product.ensures.1 ∙ sum_of a.nest _

pub arithmetic-returns-in_err-left-2 : goal.arithmetic-returns-in_err-left-2
arithmetic-returns-in_err-left-2 t c = let a = c.args in λ held h. loop-refused (sums-of a.nest) held a.code.now _ (loop-again (sums-of a.nest) held a.code.now _ _ (c.loop-next.invariant held h) (operand-by (λ b. member b (bytes "+-")) held a.code.now _ (c.after_either.ensures [])) c.in-Some.is _ (c.product-in-Some.ensures held h) c.in_ok-product.was _ (c.joined.ensures held)) c.in_err-left-2.was _ c.from_residual-in_err-left-2.ensures.1 ∙ sum_of a.nest _

pub arithmetic-loop-next-smaller : goal.arithmetic-loop-next-smaller
arithmetic-loop-next-smaller t c = let a = c.args in let held = c.requires.cells in let h = c.requires.holds in loop-less (sums-of a.nest) held a.code.now _ _ (c.loop-next.invariant held h) (operand-by (λ b. member b (bytes "+-")) held a.code.now _ (c.after_either.ensures [])) c.in-Some.is _ (c.product-in-Some.ensures held h) c.in_ok-product.was _ (c.joined.ensures held) c.in_ok-left-2.was

pub arithmetic-loop-next-preserved : goal.arithmetic-loop-next-preserved
arithmetic-loop-next-preserved t c = let a = c.args in λ held h. loop-on (sums-of a.nest) held a.code.now _ (loop-again (sums-of a.nest) held a.code.now _ _ (c.loop-next.invariant held h) (operand-by (λ b. member b (bytes "+-")) held a.code.now _ (c.after_either.ensures [])) c.in-Some.is _ (c.product-in-Some.ensures held h) c.in_ok-product.was _ (c.joined.ensures held)) c.in_ok-left-2.was

pub arithmetic-returns : goal.arithmetic-returns
arithmetic-returns t c = let a = c.args in λ held h. loop-ends (sums-of a.nest) held a.code.now _ _ (c.loop-next.invariant held h) (operand-by (λ b. member b (bytes "+-")) held a.code.now _ (c.after_either.ensures [])) c.in_default.is ∙ sum_of a.nest _

pub inner-returns-then-nest-eq0 : goal.inner-returns-then-nest-eq0
inner-returns-then-nest-eq0 t c = λ held h. deeper-spent _ _ _ c.if-nest-eq0.true

pub inner-returns-else-nest-eq0 : goal.inner-returns-else-nest-eq0
inner-returns-else-nest-eq0 t c = λ held h. c.arithmetic.ensures held h ∙ deeper-on _ _ c.if-nest-eq0.false

pub product-returns-in_err-left : goal.product-returns-in_err-left
product-returns-in_err-left t c = let a = c.args in λ held h. loop-refused (products-of a.nest) held a.code.now _ (loop-starts (products-of a.nest) held a.code.now _ _ (c.term.ensures held h)) c.in_err-left.was _ c.from_residual.ensures.1 ∙ product-of a.nest _

pub product-loop-next-init : goal.product-loop-next-init
product-loop-next-init t c = let a = c.args in λ held h. loop-on (products-of a.nest) held a.code.now _ (loop-starts (products-of a.nest) held a.code.now _ _ (c.term.ensures held h)) c.in_ok-left.was

pub product-returns-in_err-term : goal.product-returns-in_err-term
product-returns-in_err-term t c = let a = c.args in λ held h. operand-refused (products-of a.nest) held a.code.now _ _ (c.loop-next.invariant held h) (operand-by (λ b. member b (bytes "*/")) held a.code.now _ (c.after_either.ensures [])) c.in-Some.is _ (c.term-in-Some.ensures held h) c.in_err-term.was _ c.from_residual-in_err-term.ensures.1 ∙ product-of a.nest _

pub product-returns-in_err-left-2 : goal.product-returns-in_err-left-2
product-returns-in_err-left-2 t c = let a = c.args in λ held h. loop-refused (products-of a.nest) held a.code.now _ (loop-again (products-of a.nest) held a.code.now _ _ (c.loop-next.invariant held h) (operand-by (λ b. member b (bytes "*/")) held a.code.now _ (c.after_either.ensures [])) c.in-Some.is _ (c.term-in-Some.ensures held h) c.in_ok-term.was _ (c.joined.ensures held)) c.in_err-left-2.was _ c.from_residual-in_err-left-2.ensures.1 ∙ product-of a.nest _

pub product-loop-next-smaller : goal.product-loop-next-smaller
product-loop-next-smaller t c = let a = c.args in let held = c.requires.cells in let h = c.requires.holds in loop-less (products-of a.nest) held a.code.now _ _ (c.loop-next.invariant held h) (operand-by (λ b. member b (bytes "*/")) held a.code.now _ (c.after_either.ensures [])) c.in-Some.is _ (c.term-in-Some.ensures held h) c.in_ok-term.was _ (c.joined.ensures held) c.in_ok-left-2.was

pub product-loop-next-preserved : goal.product-loop-next-preserved
product-loop-next-preserved t c = let a = c.args in λ held h. loop-on (products-of a.nest) held a.code.now _ (loop-again (products-of a.nest) held a.code.now _ _ (c.loop-next.invariant held h) (operand-by (λ b. member b (bytes "*/")) held a.code.now _ (c.after_either.ensures [])) c.in-Some.is _ (c.term-in-Some.ensures held h) c.in_ok-term.was _ (c.joined.ensures held)) c.in_ok-left-2.was

pub product-returns : goal.product-returns
product-returns t c = let a = c.args in λ held h. loop-ends (products-of a.nest) held a.code.now _ _ (c.loop-next.invariant held h) (operand-by (λ b. member b (bytes "*/")) held a.code.now _ (c.after_either.ensures [])) c.in_default.is ∙ product-of a.nest _

pub reference-subscripts-requires : goal.reference-subscripts-requires
reference-subscripts-requires t c = (omega arith, (c.requires.0, text-inside [] _ _ _ (c.text_at.ensures []) (omega arith)))

pub reference-returns-then-text_at-eq40 : goal.reference-returns-then-text_at-eq40
reference-returns-then-text_at-eq40 t c = λ held cell h k s. c.subscripts.ensures held cell.kind cell h k ∙ reference-subscripted _ cell s (c.text_at.ensures [] ∙ same-plain [] held _ _) c.if-text_at-eq40.true

pub reference-returns : goal.reference-returns
reference-returns t c = λ held cell h k s. tells-bare _ cell _ ∙ reference-bare _ cell s (c.text_at.ensures [] ∙ same-plain [] held _ _) c.if-text_at-eq40.false

pub referred-returns-in_default : goal.referred-returns-in_default
referred-returns-in_default t c = λ held h. tells-broken (λ z. z) _ _ ∙ refers-none _ _ _ _ (sym c.in_default.is ∙ c.kind_of.ensures _ held h)

pub referred-reference-requires : goal.referred-reference-requires
referred-reference-requires t c = (omega arith, (c.requires, (ref-step c.requires.cells c.args.code.now _ (sym c.in-Some.is ∙ c.kind_of.ensures _ c.requires.cells c.requires.holds)).inside))

pub referred-value_of-value-requires : goal.referred-value_of-value-requires
referred-value_of-value-requires t c = let r = ref-by c.requires.cells c.args.code.now _ _ c.byte-slot.ensures (sym c.in-Some.is ∙ c.kind_of.ensures _ c.requires.cells c.requires.holds) in (r.low, r.high)

pub referred-returns-in_err-read : goal.referred-returns-in_err-read
referred-returns-in_err-read t c = let a = c.args in λ held h. let r = ref-by held a.code.now _ _ c.byte-slot.ensures (sym c.in-Some.is ∙ c.kind_of.ensures _ held h) in
    read_off (λ l. ref_to (held c.byte-slot.result) (listed_by l)) (toks_by held a.code.now) (judged_by a.stand (toks_by held a.code.now a.here)) (c.reference.ensures held (held c.byte-slot.result) h r.kept r.step) (λ z. z) c.in_err-read.was _ c.from_residual.ensures.1
    ∙ refers-is _ _ _ _

pub referred-returns : goal.referred-returns
referred-returns t c = let a = c.args in λ held h. let r = ref-by held a.code.now _ _ c.byte-slot.ensures (sym c.in-Some.is ∙ c.kind_of.ensures _ held h) in
    c.judged.ensures (held c.byte-slot.result) (toks_by held a.code.now) r.kept ∙ judged-is a.stand (held c.byte-slot.result) _ _ _ (λ t. c.value_of-value.ensures held h r.kept t)
    ∙ read-on (λ l. ref_to (held c.byte-slot.result) (listed_by l)) (toks_by held a.code.now) (judged_by a.stand (toks_by held a.code.now a.here)) (c.reference.ensures held (held c.byte-slot.result) h r.kept r.step) c.in_ok-read.was
    ∙ refers-is _ _ _ _

pub subscripts-returns-in_ok-inner-in-Parameter : goal.subscripts-returns-in_ok-inner-in-Parameter
subscripts-returns-in_ok-inner-in-Parameter t c = let a = c.args in λ held k cell h e. c.one.ensures held cell ∙ read-on (λ z. z) (toks_by held a.code.now) (λ n y. closed_by (ref_to cell (n ∷ [])) y) (c.inner.ensures held h ∙ ap (deeper values a.nest) (sym (toks-rest held a.code.now _))) c.in_ok-inner-in-Parameter.was ∙ sub-parameter (deeper values a.nest) cell _ k _ e c.in-Parameter.is

pub subscripts-returns-in_err-inner-in-Parameter : goal.subscripts-returns-in_err-inner-in-Parameter
subscripts-returns-in_err-inner-in-Parameter t c = let a = c.args in λ held k cell h e. read_off (λ z. z) (toks_by held a.code.now) (λ n y. closed_by (ref_to cell (n ∷ [])) y) (c.inner.ensures held h ∙ ap (deeper values a.nest) (sym (toks-rest held a.code.now _))) (λ l. ref_to cell (listed_by l)) c.in_err-inner-in-Parameter.was _ c.from_residual.ensures.1 ∙ sub-parameter (deeper values a.nest) cell _ k _ e c.in-Parameter.is

pub subscripts-returns-in_err-first-in-List : goal.subscripts-returns-in_err-first-in-List
subscripts-returns-in_err-first-in-List t c = let a = c.args in λ held k cell h e. read_off (λ z. z) (toks_by held a.code.now) (listed (deeper values a.nest) cell) (c.inner-in-List.ensures held h ∙ ap (deeper values a.nest) (sym (toks-rest held a.code.now _))) (λ l. ref_to cell (listed_by l)) c.in_err-first-in-List.was _ c.from_residual-in_err-first-in-List.ensures.1 ∙ sub-list (deeper values a.nest) cell _ k _ e c.in-List.is

pub subscripts-returns-in-None : goal.subscripts-returns-in-None
subscripts-returns-in-None t c = let a = c.args in λ held k cell h e. c.one-in-None.ensures held cell ∙ list-one (deeper values a.nest) cell _ _ (ended _ _ (operand-by (λ b. eqb b 44) held a.code.now _ (c.after_byte.ensures [])) c.in-None.is) ∙ read-on (λ z. z) (toks_by held a.code.now) (listed (deeper values a.nest) cell) (c.inner-in-List.ensures held h ∙ ap (deeper values a.nest) (sym (toks-rest held a.code.now _))) c.in_ok-first-in-List.was ∙ sub-list (deeper values a.nest) cell _ k _ e c.in-List.is

pub subscripts-returns-in_ok-inner-in-Some : goal.subscripts-returns-in_ok-inner-in-Some
subscripts-returns-in_ok-inner-in-Some t c = let a = c.args in λ held k cell h e. c.two.ensures held cell ∙ read-on (λ z. z) (toks_by held a.code.now) (λ m z. closed_by (ref_to cell (c.in_ok-first-in-List.first.value ∷ (m ∷ []))) z) (c.inner-in-Some.ensures held h ∙ ap (deeper values a.nest) (ap (toks_by held a.code.now) (found-at _ _ (operand-by (λ b. eqb b 44) held a.code.now _ (c.after_byte.ensures [])) c.in-Some.is) ∙ sym (toks-rest held a.code.now _))) c.in_ok-inner-in-Some.was ∙ list-two (deeper values a.nest) cell _ _ (found _ _ (operand-by (λ b. eqb b 44) held a.code.now _ (c.after_byte.ensures [])) c.in-Some.is) ∙ read-on (λ z. z) (toks_by held a.code.now) (listed (deeper values a.nest) cell) (c.inner-in-List.ensures held h ∙ ap (deeper values a.nest) (sym (toks-rest held a.code.now _))) c.in_ok-first-in-List.was ∙ sub-list (deeper values a.nest) cell _ k _ e c.in-List.is

pub subscripts-returns-in_err-inner-in-Some : goal.subscripts-returns-in_err-inner-in-Some
subscripts-returns-in_err-inner-in-Some t c = let a = c.args in λ held k cell h e. read_off (λ z. z) (toks_by held a.code.now) (λ m z. closed_by (ref_to cell (c.in_ok-first-in-List.first.value ∷ (m ∷ []))) z) (c.inner-in-Some.ensures held h ∙ ap (deeper values a.nest) (ap (toks_by held a.code.now) (found-at _ _ (operand-by (λ b. eqb b 44) held a.code.now _ (c.after_byte.ensures [])) c.in-Some.is) ∙ sym (toks-rest held a.code.now _))) (λ l. ref_to cell (listed_by l)) c.in_err-inner-in-Some.was _ c.from_residual-in_err-inner-in-Some.ensures.1 ∙ list-two (deeper values a.nest) cell _ _ (found _ _ (operand-by (λ b. eqb b 44) held a.code.now _ (c.after_byte.ensures [])) c.in-Some.is) ∙ read-on (λ z. z) (toks_by held a.code.now) (listed (deeper values a.nest) cell) (c.inner-in-List.ensures held h ∙ ap (deeper values a.nest) (sym (toks-rest held a.code.now _))) c.in_ok-first-in-List.was ∙ sub-list (deeper values a.nest) cell _ k _ e c.in-List.is

pub subscripts-returns-in-Symbol : goal.subscripts-returns-in-Symbol
subscripts-returns-in-Symbol t c = let a = c.args in λ held k cell h e. tells-ill _ cell _ ∙ sub-none (deeper values a.nest) cell _ k _ e (not-parameter c.in-Symbol.is) (not-list c.in-Symbol.is)

pub term-returns-in_err-inner : goal.term-returns-in_err-inner
term-returns-in_err-inner t c = let a = c.args in λ held h. read_off (λ z. z) (toks_by held a.code.now) closed_by (c.inner.ensures held h ∙ ap (deeper values a.nest) (sym (toks-rest held a.code.now _))) (λ z. z) c.in_err-inner.was _ c.from_residual.ensures.1 ∙ sym (term-opens _ _ (c.text_at-c.ensures [] ∙ same-plain [] held _ _) c.if-c-eq40.true)

pub term-returns-then-c-eq40 : goal.term-returns-then-c-eq40
term-returns-then-c-eq40 t c = let a = c.args in λ held h. c.closed.ensures held ∙ read-on (λ z. z) (toks_by held a.code.now) closed_by (c.inner.ensures held h ∙ ap (deeper values a.nest) (sym (toks-rest held a.code.now _))) c.in_ok-inner.was ∙ sym (term-opens _ _ (c.text_at-c.ensures [] ∙ same-plain [] held _ _) c.if-c-eq40.true)

pub term-overflow_add-at : goal.term-overflow_add-at
term-overflow_add-at t c = let inside = text-inside [] _ _ _ (c.text_at-c.ensures []) (omega arith) in omega arith

pub term-returns-then-digit : goal.term-returns-then-digit
term-returns-then-digit t c = let a = c.args in λ held h. c.decimal.ensures held (deeper values a.nest) ∙ sym (term-number _ _ (c.text_at-c.ensures [] ∙ same-plain [] held _ _) c.if-c-eq40.false (sym c.digit.ensures ∙ c.if-digit.true))

pub term-overflow_add-at-then-attribute_at : goal.term-overflow_add-at-then-attribute_at
term-overflow_add-at-then-attribute_at t c = let inside = attribute-inside [] _ _ _ (sym (c.attribute_at.ensures []) ∙ c.if-attribute_at.true) in omega arith

pub term-returns-then-attribute_at : goal.term-returns-then-attribute_at
term-returns-then-attribute_at t c = let a = c.args in λ held h. c.referred.ensures held h ∙ ap (referred_by values (deeper values a.nest) (table_of AfterK) (meaning_of AfterK) (toks_by held a.code.now _)) (sym (toks-drop held a.code.now _ 2)) ∙ sym (term-K _ _ (c.text_at-c.ensures [] ∙ same-plain [] held _ _) c.if-c-eq40.false (sym c.digit.ensures ∙ c.if-digit.false) (sym (same-attribute held a.code.now [] 75 _) ∙ sym (c.attribute_at.ensures []) ∙ c.if-attribute_at.true))

pub term-overflow_add-at-then-attribute_at-2 : goal.term-overflow_add-at-then-attribute_at-2
term-overflow_add-at-then-attribute_at-2 t c = let inside = attribute-inside [] _ _ _ (sym (c.attribute_at-2.ensures []) ∙ c.if-attribute_at-2.true) in omega arith

pub term-returns-then-attribute_at-2 : goal.term-returns-then-attribute_at-2
term-returns-then-attribute_at-2 t c = let a = c.args in λ held h. c.referred-then-attribute_at-2.ensures held h ∙ ap (referred_by values (deeper values a.nest) (table_of AfterN) (meaning_of AfterN) (toks_by held a.code.now _)) (sym (toks-drop held a.code.now _ 2)) ∙ sym (term-N _ _ (c.text_at-c.ensures [] ∙ same-plain [] held _ _) c.if-c-eq40.false (sym c.digit.ensures ∙ c.if-digit.false) (sym (same-attribute held a.code.now [] 75 _) ∙ sym (c.attribute_at.ensures []) ∙ c.if-attribute_at.false) (sym (same-attribute held a.code.now [] 78 _) ∙ sym (c.attribute_at-2.ensures []) ∙ c.if-attribute_at-2.true))

pub term-returns : goal.term-returns
term-returns t c = let a = c.args in λ held h. c.referred-2.ensures held h ∙ sym (term-reference _ _ (c.text_at-c.ensures [] ∙ same-plain [] held _ _) c.if-c-eq40.false (sym c.digit.ensures ∙ c.if-digit.false) (sym (same-attribute held a.code.now [] 75 _) ∙ sym (c.attribute_at.ensures []) ∙ c.if-attribute_at.false) (sym (same-attribute held a.code.now [] 78 _) ∙ sym (c.attribute_at-2.ensures []) ∙ c.if-attribute_at-2.false))
