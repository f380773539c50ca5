-- `bodies::number_of` meets its contract: a text of no bytes has none behind its first. Assumes nothing.
use mathlib.Core.Path.{ap, ◌∙◌}
use Rattle.text.specs.Bytes.{Bytes}
use Rattle.rules.specs.Fields.{lines_of}
use Rattle.rules.specs.Library.{line_named}
use Rattle.statements.proofs.Symbols.{behind-first}
use Rattle.bodies.proofs.Written.{no_target}
use Rattle.bodies.proofs.number_of.Goals as goal

pub returns-then-target-eq0 : goal.returns-then-target-eq0
returns-then-target-eq0 c =
    let a = c.args in
    c.line_named.ensures ∙ ap (λ (t : Bytes). line_named t (lines_of a.body.now)) (no_target a.target.now c.if-target-eq0.true)

pub returns : goal.returns
returns c =
    let a = c.args in
    c.line_named-2.ensures ∙ ap (λ (t : Bytes). line_named t (lines_of a.body.now)) (behind-first a.target.now)
