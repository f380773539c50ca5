use Rattle.declaring.proofs.Tables.{among-told}
use Rattle.declaring.proofs.is_among.Goals as goal

pub returns : goal.returns
returns c =
    among-told c.args.table.now c.args.name.now _ c.place.ensures
