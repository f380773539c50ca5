use mathlib.Core.Bool.{◌&&◌, ◌||◌, not}
use lib.Dec.{eqb}
use Rattle.fields.specs.Seen.{marks}
use Rattle.fields.proofs.is_mark.Goals as goal

pub returns : goal.returns
unfolding marks
returns c = λ i.
    eqb c.args.c 39 && not c.args.seen.quoted && (c.letter.ensures i || eqb c.args.next 38) && c.precedes-before.ensures i
    && not (c.letter_or_digit.ensures i || eqb c.args.seen.second 38)
