-- `letter` meets its contract: on each way through the match the byte lies in a run of bytes that have one answer (256: but for none). Assumes nothing.
use borrow.Author.Rules.{rules}
use mathlib.Core.Path.{refl}
use mathlib.Core.Bool.{true, false}
use Rattle.text.specs.Characters.{letter}
use Rattle.text.proofs.Runs.{answers, named}
use Rattle.chars.proofs.letter.Goals as goal

pub returns-in_default : goal.returns-in_default
unfolding letter
returns-in_default c = answers letter false 256 35 0 refl c.args.b (search rules) (search rules) (search rules)

pub returns-in_default-2 : goal.returns-in_default-2
unfolding letter
returns-in_default-2 c = answers letter false 256 27 37 refl c.args.b (search rules) (search rules) (search rules)

pub returns-in_default-3 : goal.returns-in_default-3
unfolding letter
returns-in_default-3 c = answers letter false 95 165 91 refl c.args.b (search rules) (search rules) (search rules)

pub returns-in-65-to-90 : goal.returns-in-65-to-90
unfolding letter
returns-in-65-to-90 c = named letter c.in-65-to-90.in-65-to-90-own.keys1

pub returns-in-65-to-90-2 : goal.returns-in-65-to-90-2
unfolding letter
returns-in-65-to-90-2 c = answers letter true 256 2 35 refl c.args.b (search rules) (search rules) (search rules)

pub returns-in-65-to-90-3 : goal.returns-in-65-to-90-3
unfolding letter
returns-in-65-to-90-3 c = answers letter true 256 27 64 refl c.args.b (search rules) (search rules) (search rules)
