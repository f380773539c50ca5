-- `digit` meets its contract: on each way through the match the byte lies in a run of bytes that have one answer (256: but for none). Assumes nothing.
use borrow.Author.Rules.{rules}
use mathlib.Core.Path.{refl}
use mathlib.Core.Bool.{true, false}
use Rattle.text.specs.Characters.{digit}
use Rattle.text.proofs.Runs.{answers}
use Rattle.chars.proofs.digit.Goals as goal

pub returns-in-48-to-57 : goal.returns-in-48-to-57
unfolding digit
returns-in-48-to-57 c = answers digit true 256 10 48 refl c.args.b (search rules) (search rules) (search rules)

pub returns-in_default : goal.returns-in_default
unfolding digit
returns-in_default c = answers digit false 256 48 0 refl c.args.b (search rules) (search rules) (search rules)

pub returns-in_default-2 : goal.returns-in_default-2
unfolding digit
returns-in_default-2 c = answers digit false 256 198 58 refl c.args.b (search rules) (search rules) (search rules)
