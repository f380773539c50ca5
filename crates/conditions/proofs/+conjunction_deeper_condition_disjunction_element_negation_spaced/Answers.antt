use mathlib.Core.Path.{sym, ap, ◌∙◌}
use mathlib.Core.List.{[]}
use native.Mathlib.Omega.{arith}
use lib.Dec.{lit<}
use Rattle.text.specs.Bytes.{bytes}
use Rattle.rules.specs.Grammar.{got, past_spaces, deeper_condition}
use Rattle.rules.specs.Grammar.{closed as closed_by, element as element_by, spaced as spaced_by}
use Rattle.rules.specs.Form.{form}
use Rattle.grammar.specs.Tokens.{toks_at}
use Rattle.grammar.proofs.Answers.{tells_at, then-on, then-off}
use Rattle.grammar.proofs.Places.{toks-drop, toks-rest, text-inside}
use Rattle.grammar.proofs.Chains.{loop-starts, loop-none, loop-ends, loop-less, loop-again, loop-fails}
use Rattle.conditions.proofs.Words.{word-inside}
use Rattle.conditions.proofs.Conditions.{element-opens, element-strings, element-flag, element-numbers, spaced-is, negation-not, negation-plain, conjunctions-of, conjunction-of, disjunctions-of, disjunction-of, condition-spent, condition-on}
use Rattle.conditions.proofs.+conjunction_deeper_condition_disjunction_element_negation_spaced.Goals as goal

pub deeper_condition-returns-then-nest-eq0 : goal.deeper_condition-returns-then-nest-eq0
deeper_condition-returns-then-nest-eq0 t c = condition-spent _ _ _ c.if-nest-eq0.true

pub deeper_condition-returns-else-nest-eq0 : goal.deeper_condition-returns-else-nest-eq0
deeper_condition-returns-else-nest-eq0 t c = c.disjunction.ensures ∙ condition-on _ _ c.if-nest-eq0.false

pub element-overflow_add-at : goal.element-overflow_add-at
element-overflow_add-at t c = let inside = text-inside [] _ _ _ (c.text_at-c.ensures []) (omega arith) in omega arith

pub element-returns-then-c-attribute_at : goal.element-returns-then-c-attribute_at
element-returns-then-c-attribute_at t c = let a = c.args in c.strings.ensures (deeper_condition form a.nest) ∙ element-strings a.nest (deeper_condition form a.nest) _ (c.text_at-c.ensures a.kinds.now) c.if-c-eq40.false (c.attribute_at.ensures a.kinds.now) c.if-c-attribute_at.true

pub element-returns-then-flag_at : goal.element-returns-then-flag_at
element-returns-then-flag_at t c = let a = c.args in c.referred.ensures ∙ element-flag a.nest (deeper_condition form a.nest) _ (c.text_at-c.ensures a.kinds.now) c.if-c-eq40.false (c.attribute_at.ensures a.kinds.now) c.if-c-attribute_at.false (sym (c.flag_at.ensures a.nest (deeper_condition form a.nest)) ∙ c.if-flag_at.true)

pub element-returns : goal.element-returns
element-returns t c = let a = c.args in c.numbers.ensures (deeper_condition form a.nest) ∙ element-numbers a.nest (deeper_condition form a.nest) _ (c.text_at-c.ensures a.kinds.now) c.if-c-eq40.false (c.attribute_at.ensures a.kinds.now) c.if-c-attribute_at.false (sym (c.flag_at.ensures a.nest (deeper_condition form a.nest)) ∙ c.if-flag_at.false)

pub negation-overflow_add-here : goal.negation-overflow_add-here
negation-overflow_add-here t c = let inside = word-inside [] _ (bytes "NOT") _ (sym (c.three_letters.ensures []) ∙ c.if-three_letters.true) (lit< tt) in omega arith

pub negation-returns-then-three_letters : goal.negation-returns-then-three_letters
negation-returns-then-three_letters t c = let a = c.args in c.spaced.ensures ∙ ap (spaced_by form a.nest (deeper_condition form a.nest)) (sym (toks-drop a.kinds.now a.code.now _ 3)) ∙ negation-not a.nest (deeper_condition form a.nest) _ (c.past_spaces-here.ensures a.kinds.now) (sym (c.three_letters.ensures a.kinds.now) ∙ c.if-three_letters.true)

pub negation-returns : goal.negation-returns
negation-returns t c = let a = c.args in c.spaced-2.ensures ∙ negation-plain a.nest (deeper_condition form a.nest) _ (c.past_spaces-here.ensures a.kinds.now) (sym (c.three_letters.ensures a.kinds.now) ∙ c.if-three_letters.false)

pub conjunction-returns-in_err-here : goal.conjunction-returns-in_err-here
conjunction-returns-in_err-here t c = let a = c.args in loop-none (conjunctions-of a.nest) a.kinds.now a.code.now _ _ c.negation.ensures c.in_err-here.was _ c.from_residual.ensures.1 ∙ conjunction-of a.nest _

pub conjunction-loop-next-init : goal.conjunction-loop-next-init
conjunction-loop-next-init t c = let a = c.args in loop-starts (conjunctions-of a.nest) a.kinds.now a.code.now _ _ c.negation.ensures c.in_ok-here.was

pub conjunction-returns-in_err-here-2 : goal.conjunction-returns-in_err-here-2
conjunction-returns-in_err-here-2 t c = let a = c.args in loop-fails (conjunctions-of a.nest) a.kinds.now a.code.now _ _ c.loop-next.invariant (c.after_and.ensures a.kinds.now) c.in-Some.is _ c.negation-in-Some.ensures c.in_err-here-2.was _ c.from_residual-in_err-here-2.ensures.1 ∙ conjunction-of a.nest _

pub conjunction-loop-next-smaller : goal.conjunction-loop-next-smaller
conjunction-loop-next-smaller t c = let a = c.args in loop-less (conjunctions-of a.nest) a.kinds.now a.code.now _ _ c.loop-next.invariant (c.after_and.ensures a.kinds.now) c.in-Some.is _ c.negation-in-Some.ensures c.in_ok-here-2.was

pub conjunction-loop-next-preserved : goal.conjunction-loop-next-preserved
conjunction-loop-next-preserved t c = let a = c.args in loop-again (conjunctions-of a.nest) a.kinds.now a.code.now _ _ c.loop-next.invariant (c.after_and.ensures a.kinds.now) c.in-Some.is _ c.negation-in-Some.ensures c.in_ok-here-2.was

pub conjunction-returns : goal.conjunction-returns
conjunction-returns t c = let a = c.args in loop-ends (conjunctions-of a.nest) a.kinds.now a.code.now _ _ c.loop-next.invariant (c.after_and.ensures a.kinds.now) c.in_default.is ∙ conjunction-of a.nest _

pub disjunction-returns-in_err-here : goal.disjunction-returns-in_err-here
disjunction-returns-in_err-here t c = let a = c.args in loop-none (disjunctions-of a.nest) a.kinds.now a.code.now _ _ c.conjunction.ensures c.in_err-here.was _ c.from_residual.ensures.1 ∙ disjunction-of a.nest _

pub disjunction-loop-next-init : goal.disjunction-loop-next-init
disjunction-loop-next-init t c = let a = c.args in loop-starts (disjunctions-of a.nest) a.kinds.now a.code.now _ _ c.conjunction.ensures c.in_ok-here.was

pub disjunction-returns-in_err-here-2 : goal.disjunction-returns-in_err-here-2
disjunction-returns-in_err-here-2 t c = let a = c.args in loop-fails (disjunctions-of a.nest) a.kinds.now a.code.now _ _ c.loop-next.invariant (c.after_or.ensures a.kinds.now) c.in-Some.is _ c.conjunction-in-Some.ensures c.in_err-here-2.was _ c.from_residual-in_err-here-2.ensures.1 ∙ disjunction-of a.nest _

pub disjunction-loop-next-smaller : goal.disjunction-loop-next-smaller
disjunction-loop-next-smaller t c = let a = c.args in loop-less (disjunctions-of a.nest) a.kinds.now a.code.now _ _ c.loop-next.invariant (c.after_or.ensures a.kinds.now) c.in-Some.is _ c.conjunction-in-Some.ensures c.in_ok-here-2.was

pub disjunction-loop-next-preserved : goal.disjunction-loop-next-preserved
disjunction-loop-next-preserved t c = let a = c.args in loop-again (disjunctions-of a.nest) a.kinds.now a.code.now _ _ c.loop-next.invariant (c.after_or.ensures a.kinds.now) c.in-Some.is _ c.conjunction-in-Some.ensures c.in_ok-here-2.was

pub disjunction-returns : goal.disjunction-returns
disjunction-returns t c = let a = c.args in loop-ends (disjunctions-of a.nest) a.kinds.now a.code.now _ _ c.loop-next.invariant (c.after_or.ensures a.kinds.now) c.in_default.is ∙ disjunction-of a.nest _

pub element-returns-then-c-eq40 : goal.element-returns-then-c-eq40
element-returns-then-c-eq40 t c = let a = c.args in c.closed.ensures a.kinds.now ∙ then-on (toks_at a.kinds.now a.code.now) closed_by (c.deeper_condition.ensures ∙ ap (deeper_condition form a.nest) (sym (toks-rest a.kinds.now a.code.now _))) c.in_ok-deeper_condition.was ∙ element-opens a.nest (deeper_condition form a.nest) _ (c.text_at-c.ensures a.kinds.now) c.if-c-eq40.true

pub element-returns-in_err-deeper_condition : goal.element-returns-in_err-deeper_condition
element-returns-in_err-deeper_condition t c = let a = c.args in then-off (toks_at a.kinds.now a.code.now) closed_by (c.deeper_condition.ensures ∙ ap (deeper_condition form a.nest) (sym (toks-rest a.kinds.now a.code.now _))) c.in_err-deeper_condition.was _ c.from_residual.ensures.1 ∙ element-opens a.nest (deeper_condition form a.nest) _ (c.text_at-c.ensures a.kinds.now) c.if-c-eq40.true

pub spaced-returns : goal.spaced-returns
spaced-returns t c = let a = c.args in tells_at _ _ ∙ ap (got tt) (c.past_spaces-2.ensures a.kinds.now) ∙ then-on (toks_at a.kinds.now a.code.now) (λ v x. got tt (past_spaces x)) (c.element.ensures ∙ ap (element_by form a.nest (deeper_condition form a.nest)) (c.past_spaces.ensures a.kinds.now)) c.in_ok-end.was ∙ spaced-is a.nest (deeper_condition form a.nest) _

pub spaced-returns-in_err-end : goal.spaced-returns-in_err-end
spaced-returns-in_err-end t c = let a = c.args in then-off (toks_at a.kinds.now a.code.now) (λ v x. got tt (past_spaces x)) (c.element.ensures ∙ ap (element_by form a.nest (deeper_condition form a.nest)) (c.past_spaces.ensures a.kinds.now)) c.in_err-end.was _ c.from_residual.ensures.1 ∙ spaced-is a.nest (deeper_condition form a.nest) _
