use Rattle.prototypes.proofs.Parameters.{used-told}
use Rattle.prototypes.proofs.is_used.Goals as goal

pub returns : goal.returns
returns c =
    used-told c.args.titles.now c.args.operation.now _ c.find_macro.ensures
