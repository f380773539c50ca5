-- What a line does, as a number: the first byte of a line in a deck. Assumes nothing.
use Rattle.std.specs.Prelude.{ℕ, ◌+◌, eqb}
use Rattle.rules.specs.Choice.{choose}
use Rattle.rules.specs.Statement.{Set, set_a, set_b, set_c, Does, passes, ends, exits, text, models, sets, branches_if, branches, counts}
use Rattle.deck.specs.Coders.{set_code, passes_code, ends_code, exits_code, text_code, models_code, branches_if_code, branches_code, counts_code, sets_code}

unfoldable pub does_number : {L : Type 0} → Does L → ℕ
does_number passes = passes_code
does_number ends = ends_code
does_number exits = exits_code
does_number (text s) = text_code
does_number models = models_code
does_number (sets k) = sets_code + set_code k
does_number (branches_if t) = branches_if_code
does_number (branches t) = branches_code
does_number counts = counts_code

-- the kind of SET symbols that has this number
unfoldable pub set_by : ℕ → Set
set_by n = choose (eqb n 0) set_a (choose (eqb n 1) set_b set_c)
