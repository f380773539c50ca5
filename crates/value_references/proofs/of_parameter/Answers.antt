use mathlib.Core.Path.{◌∙◌}
use mir.Syntax.{w32}
use mir.Val.{SFits}
use mir.Facts.{to_z-of_z}
use Rattle.value_references.proofs.Parts.{parameter-all, parameter-one, parameter-two}
use borrow.Author.Rules.{rules}
use Rattle.value_references.proofs.of_parameter.Goals as goal

pub returns-in-Bare : goal.returns-in-Bare
returns-in-Bare c = c.whole.ensures ∙ parameter-all c.args.s.now c.in-Bare.is

pub returns-in-One : goal.returns-in-One
returns-in-One c = let fits : SFits w32 c.in-One.a = record { sfits = search rules } in (rw (to_z-of_z fits) at c.entry_place.ensures) ∙ parameter-one c.args.s.now c.in-One.is

pub returns-in-Two : goal.returns-in-Two
returns-in-Two c = let fits : SFits w32 c.in-Two.a = record { sfits = search rules } in (rw (to_z-of_z fits) at c.entry_place-in-Two.ensures) ∙ parameter-two c.args.s.now c.in-Two.is
