use mathlib.Core.Path.{ap, sym, ◌∙◌}
use mathlib.Core.Option.{some}
use mir.Syntax.{w32}
use mir.Val.{SFits}
use mir.Facts.{to_z-of_z}
use Rattle.rules.specs.Values.{number_in}
use Rattle.rules.specs.Evaluate.{and_then}
use Rattle.kinds.specs.declared.Kind.TheVariants.{Symbol}
use Rattle.kinds.specs.Kinds.{kind_for}
use Rattle.value_sums.proofs.Answers.{option-some}
use Rattle.value_references.proofs.Standing.{is-kind, set-number, holds-index}
use Rattle.value_references.proofs.Parts.{term-placed, string-placed, truth-no_term, number-set, number-index, number-text}
use borrow.Author.Rules.{rules}
use Rattle.value_references.proofs.term_of.Goals as goal

pub returns-in-A : goal.returns-in-A
returns-in-A c held h k t =
    let fits : SFits w32 c.number_in.result = record { sfits = search rules } in
    let set = is-kind k (c.in-Symbol.is ∙ ap Symbol c.in-A.is) in
    rw (to_z-of_z fits) (option-some _ ∙ number-set (held _) _ set (set-number _ _ _ held h _ c.requires.0 c.requires.1 set c.cell_of.ensures.0 c.number_in.ensures))

pub returns-in-B : goal.returns-in-B
returns-in-B c held h k t = absurd (truth-no_term _ (is-kind k (c.in-Symbol.is ∙ ap Symbol c.in-B.is)) t)

pub returns-in-C : goal.returns-in-C
returns-in-C c held h k t =
    let p = string-placed (is-kind k (c.in-Symbol.is ∙ ap Symbol c.in-C.is)) in
    c.number_in-in-C.ensures ∙ ap (λ o. and_then o number_in) (c.text_of.ensures.0 held h (sym c.in-Symbol.is ∙ k) p) ∙ number-text (held _) _ p

pub returns-in-Index : goal.returns-in-Index
returns-in-Index c held h k t =
    let fits : SFits w32 c.from.result = record { sfits = search rules } in
    let index = is-kind k c.in-Index.is in
    rw (to_z-of_z fits) (option-some _ ∙ ap some c.from.ensures ∙ number-index (held _) _ index (holds-index _ _ _ held h _ c.requires.0 c.requires.1 index))

pub returns-in_default : goal.returns-in_default
returns-in_default c held h k t =
    let p = term-placed _ _ t (λ z. c.in_default.not-Symbol _ (k ∙ ap kind_for z)) (λ z. c.in_default.not-Index (k ∙ ap kind_for z)) in
    c.number_in-in_default.ensures ∙ ap (λ o. and_then o number_in) (c.text_of-in_default.ensures.0 held h k p) ∙ number-text (held _) _ p
