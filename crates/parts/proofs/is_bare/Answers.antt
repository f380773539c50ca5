use mathlib.Core.Bool.{◌&&◌, ◌||◌, not}
use lib.Dec.{eqb}
use Rattle.parts.specs.Parts.{bare_here}
use Rattle.parts.proofs.is_bare.Goals as goal

pub returns : goal.returns
unfolding bare_here
returns c = λ i.
    let a = c.args in
    (c.is_mark-mark.ensures i && eqb a.c 0 || not (c.is_mark-mark.ensures i) && eqb a.d a.c) && not a.seen.quoted && eqb a.seen.depth 0
