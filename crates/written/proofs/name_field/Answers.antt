use Rattle.written.proofs.Fronts.{name-is}
use Rattle.written.proofs.name_field.Goals as goal

pub returns : goal.returns
returns c =
    name-is c.args.line.now _ c.run_end-end.ensures.value
