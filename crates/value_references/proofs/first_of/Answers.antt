use mir.Syntax.{w32}
use mir.Val.{SFits}
use mir.Facts.{to_z-of_z}
use Rattle.value_references.proofs.Parts.{first-bare, first_one, first_two}
use borrow.Author.Rules.{rules}
use Rattle.value_references.proofs.first_of.Goals as goal

pub returns-in-Bare : goal.returns-in-Bare
returns-in-Bare c = first-bare c.in-Bare.is

pub returns-in-One : goal.returns-in-One
returns-in-One c = let fits : SFits w32 c.in-One.a = record { sfits = search rules } in first_one c.in-One.is (rw (to_z-of_z fits) at c.place_of.ensures)

pub returns-in-Two : goal.returns-in-Two
returns-in-Two c = let fits : SFits w32 c.in-Two.a = record { sfits = search rules } in first_two c.in-Two.is (rw (to_z-of_z fits) at c.place_of-in-Two.ensures)
