use mathlib.Core.Path.{ap, ◌∙◌}
use mir.Syntax.{w32}
use mir.Val.{SFits}
use mir.Facts.{to_z-of_z}
use lib.ListN.{get_or}
use lib.IntN.{pos}
use Rattle.text.specs.Bytes.{Bytes}
use Rattle.value_references.proofs.Standing.{less_one}
use borrow.Author.Rules.{rules}
use Rattle.value_references.proofs.positionals.Goals as goal

pub returns : goal.returns
returns c = let fits : SFits w32 c.from.result = record { sfits = search rules } in
    rw (to_z-of_z fits) (c.from.ensures ∙ ap pos (c.saturating_sub.ensures ∙ less_one (c.byte.ensures ∙ ap (λ (v : Bytes). get_or v 136 0) c.level_of.ensures)))
