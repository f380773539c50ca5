use mathlib.Core.Path.{sym, ap, ◌∙◌}
use mathlib.Core.Option.{some}
use Rattle.rules.specs.Values.{type_of}
use Rattle.rules.specs.Evaluate.{and_then}
use Rattle.value_sums.specs.Answers.{toks_by}
use Rattle.value_sums.proofs.Answers.{given-as}
use Rattle.value_references.specs.Referring.{ref_to, listed}
use Rattle.value_arithmetic.proofs.Chains.{read-on, read_off}
use Rattle.value_arithmetic.proofs.Rules.{ref-step, ref-by}
use Rattle.value_strings.specs.Typing.{typed_by}
use Rattle.value_strings.proofs.Types.{tells-ill, types-is, types-none, type-placed, in_type, typed-text, judged-is}
use Rattle.value_strings.proofs.type_at.Goals as goal

pub returns-in_default : goal.returns-in_default
returns-in_default c = λ held h. tells-ill _ _ ∙ types-none _ _ _ (sym c.in_default.is ∙ c.kind_of.ensures _ held h)

pub reference-requires : goal.reference-requires
reference-requires c = (c.requires, (ref-step c.requires.cells c.args.code.now _ (sym c.in-Some.is ∙ c.kind_of.ensures _ c.requires.cells c.requires.holds)).inside)

pub text_of-text-requires : goal.text_of-text-requires
text_of-text-requires c = let r = ref-by c.requires.cells c.args.code.now _ _ c.byte-slot.ensures (sym c.in-Some.is ∙ c.kind_of.ensures _ c.requires.cells c.requires.holds) in (r.low, r.high)

pub returns : goal.returns
returns c = let a = c.args in λ held h. let r = ref-by held a.code.now _ _ c.byte-slot.ensures (sym c.in-Some.is ∙ c.kind_of.ensures _ held h) in let cell = held c.byte-slot.result in
    given-as in_type (toks_by held a.code.now) _ _ _ _ _ (c.judged.ensures cell (toks_by held a.code.now) r.kept)
    ∙ judged-is cell _ _ _ (λ t. typed-text cell _ _ (c.type_in.ensures ∙ ap (λ o. and_then o (λ t. some (type_of t))) (c.text_of-text.ensures.0 held h r.kept (type-placed _ _ t))))
    ∙ read-on (λ l. ref_to cell (listed l)) (toks_by held a.code.now) (typed_by (toks_by held a.code.now a.here)) (c.reference.ensures held cell h r.kept r.step) c.in_ok-read.was ∙ types-is _ _ _

pub returns-in_err-read : goal.returns-in_err-read
returns-in_err-read c = let a = c.args in λ held h. let r = ref-by held a.code.now _ _ c.byte-slot.ensures (sym c.in-Some.is ∙ c.kind_of.ensures _ held h) in let cell = held c.byte-slot.result in
    read_off (λ l. ref_to cell (listed l)) (toks_by held a.code.now) (typed_by (toks_by held a.code.now a.here)) (c.reference.ensures held cell h r.kept r.step) in_type c.in_err-read.was _ c.from_residual.ensures.1 ∙ types-is _ _ _
