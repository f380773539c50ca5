use mathlib.Core.Path.{ap, ◌∙◌}
use mathlib.Core.Option.{some}
use lib.IntN.{pos}
use lib.ListN.{length}
use Rattle.rules.specs.Evaluate.{and_then}
use Rattle.kinds.specs.Kinds.{kind_for}
use Rattle.value_sums.proofs.Answers.{option-some}
use Rattle.value_references.proofs.Standing.{is-kind}
use Rattle.value_references.proofs.Parts.{length-placed, bytes-index, bytes-text}
use Rattle.value_references.proofs.length_of.Goals as goal

pub returns-in-Index : goal.returns-in-Index
returns-in-Index c held h k t = option-some _ ∙ bytes-index (held _) _ (is-kind k c.in-Index.is)

pub bytes_in-requires : goal.bytes_in-requires
bytes_in-requires c = c.text_of.ensures.1

pub returns-in_default : goal.returns-in_default
returns-in_default c held h k t = c.bytes_in.ensures ∙ ap (λ o. and_then o (λ t. some (pos (length t)))) (c.text_of.ensures.0 held h k (length-placed _ _ t (λ z. c.in_default.not-Index (k ∙ ap kind_for z)))) ∙ bytes-text (held _) _
