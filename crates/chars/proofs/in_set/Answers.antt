-- `in_set` meets its contract: on each way through the match the byte lies in a run of bytes that have one answer (256: but for none). Assumes nothing.
use borrow.Author.Rules.{rules}
use mathlib.Core.Path.{refl}
use mathlib.Core.Logic.{⊎_elim}
use mathlib.Core.Bool.{true, false}
use Rattle.text.specs.Characters.{in_set}
use Rattle.text.proofs.Runs.{answers, named}
use Rattle.chars.proofs.in_set.Goals as goal

pub returns-in_default : goal.returns-in_default
unfolding in_set
returns-in_default c = answers in_set false 32 35 0 refl c.args.b (search rules) (search rules) (search rules)

pub returns-in_default-2 : goal.returns-in_default-2
unfolding in_set
returns-in_default-2 c = answers in_set false 256 1 37 refl c.args.b (search rules) (search rules) (search rules)

pub returns-in_default-3 : goal.returns-in_default-3
unfolding in_set
returns-in_default-3 c = answers in_set false 61 6 58 refl c.args.b (search rules) (search rules) (search rules)

pub returns-in_default-4 : goal.returns-in_default-4
unfolding in_set
returns-in_default-4 c = answers in_set false 95 165 91 refl c.args.b (search rules) (search rules) (search rules)

pub returns-in-65-to-90 : goal.returns-in-65-to-90
unfolding in_set
returns-in-65-to-90 c = ⊎_elim (named in_set) (⊎_elim (named in_set) (named in_set)) c.in-65-to-90.in-65-to-90-own.keys1

pub returns-in-65-to-90-2 : goal.returns-in-65-to-90-2
unfolding in_set
returns-in-65-to-90-2 c = answers in_set true 256 2 35 refl c.args.b (search rules) (search rules) (search rules)

pub returns-in-65-to-90-3 : goal.returns-in-65-to-90-3
unfolding in_set
returns-in-65-to-90-3 c = answers in_set true 256 20 38 refl c.args.b (search rules) (search rules) (search rules)

pub returns-in-65-to-90-4 : goal.returns-in-65-to-90-4
unfolding in_set
returns-in-65-to-90-4 c = answers in_set true 256 27 64 refl c.args.b (search rules) (search rules) (search rules)
