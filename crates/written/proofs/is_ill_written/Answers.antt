use mathlib.Core.Path.{ap}
use mathlib.Core.Bool.{Bool, ◌||◌, not}
use lib.Dec.{ltb}
use lib.ListN.{length}
use Rattle.rules.specs.Fields.{is_ill_written}
use Rattle.written.proofs.is_ill_written.Goals as goal

pub returns : goal.returns
unfolding is_ill_written
returns c =
    ap (λ (b : Bool). ltb 71 (length c.args.line.now) || not b) c.all_in_set-good.ensures
