use Rattle.forms.proofs.Read.{whole-at, whole-off}
use Rattle.forms.proofs.whole.Goals as goal

pub returns-in-Ok : goal.returns-in-Ok
returns-in-Ok c = λ kinds. whole-at kinds _ c.in-Ok.is

pub returns-in-Err : goal.returns-in-Err
returns-in-Err c = λ kinds. whole-off kinds _ c.in-Err.is
