use mathlib.Core.Path.{◌≡◌, ◌∙◌}
use mathlib.Core.Bool.{true, false}
use lib.IntN.{pos}
use lib.Signed.{lt_z}
use mir.Syntax.{w32}
use mir.Val.{SFits}
use mir.Facts.{to_z-of_z}
use Rattle.value_references.proofs.Parts.{none-in, empty-in, list-bare, list-below, list-one, list-two-below, list-two}
use borrow.Author.Rules.{rules}
use Rattle.value_references.proofs.of_list.Goals as goal

pub returns-in-Bare : goal.returns-in-Bare
returns-in-Bare c = λ all e. empty-in c.args.s.now ∙ list-bare _ all e c.in-Bare.is

pub returns-then-a-lt0 : goal.returns-then-a-lt0
returns-then-a-lt0 c = let fits : SFits w32 c.in-One.a = record { sfits = search rules } in let low : lt_z c.in-One.a (pos 0) ≡ true = rw (to_z-of_z fits) at c.if-a-lt0.true in λ all e. none-in c.args.s.now ∙ list-below _ all e c.in-One.is low

pub returns-else-a-lt0 : goal.returns-else-a-lt0
returns-else-a-lt0 c = let fits : SFits w32 c.in-One.a = record { sfits = search rules } in let low : lt_z c.in-One.a (pos 0) ≡ false = rw (to_z-of_z fits) at c.if-a-lt0.false in λ all e. c.whole.ensures ∙ list-one _ all e c.in-One.is low

pub returns-then-a-lt0-2 : goal.returns-then-a-lt0-2
returns-then-a-lt0-2 c = let fits : SFits w32 c.in-Two.a = record { sfits = search rules } in let low : lt_z c.in-Two.a (pos 0) ≡ true = rw (to_z-of_z fits) at c.if-a-lt0-2.true in λ all e. none-in c.args.s.now ∙ list-two-below _ all e c.in-Two.is low

pub returns-else-a-lt0-2 : goal.returns-else-a-lt0-2
returns-else-a-lt0-2 c = let fits : SFits w32 c.in-Two.a = record { sfits = search rules } in let low : lt_z c.in-Two.a (pos 0) ≡ false = rw (to_z-of_z fits) at c.if-a-lt0-2.false in let fits2 : SFits w32 c.in-Two.b = record { sfits = search rules } in λ all e. (rw (to_z-of_z fits2) at c.entry_place.ensures) ∙ list-two _ all e c.in-Two.is low
