use mathlib.Core.Path.{ap, ◌∙◌}
use Rattle.value_references.specs.Referring.{basis_of}
use Rattle.value_references.proofs.Parts.{shorter}
use Rattle.value_references.proofs.text_of.Goals as goal

pub returns : goal.returns
returns c = (λ held h k p. c.part_of.ensures.0 (held _) k p (c.basis-s.ensures.0 held h k p ∙ ap (basis_of (held _)) c.first_of.ensures), shorter _ c.basis-s.ensures.1 c.part_of.ensures.1)
