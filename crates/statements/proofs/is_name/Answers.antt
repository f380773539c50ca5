-- `statements::is_name` meets its contract: the first byte, the end of the letters and digits, and the length tell. Assumes nothing.
use mathlib.Core.Path.{ap, ◌∙◌}
use mathlib.Core.Bool.{◌&&◌}
use lib.Dec.{eqb, leb}
use lib.ListN.{length}
use Rattle.text.specs.Characters.{letter}
use Rattle.statements.proofs.Symbols.{name-is}
use Rattle.statements.proofs.is_name.Goals as goal

pub returns : goal.returns
returns c =
    let a = c.args in
    let s = a.s.now in
    let starts = c.letter-starts.ensures ∙ ap letter c.byte.ensures in
    (λ i. starts i && (eqb (c.symbol_end-end.ensures.value i) (length s) && leb (length s) a.limit)) ∙ name-is a.limit s
