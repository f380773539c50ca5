use Rattle.value_references.proofs.Parts.{first-read, first-refused}
use Rattle.value_references.proofs.first_read.Goals as goal

pub returns-in-Ok : goal.returns-in-Ok
returns-in-Ok c = first-read c.in-Ok.is c.first_of.ensures

pub returns-in-Err : goal.returns-in-Err
returns-in-Err c = first-refused c.in-Err.is
