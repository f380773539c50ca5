use mathlib.Core.Path.{◌∙◌}
use lib.ListN.{take}
use Rattle.text.specs.Bytes.{bytes}
use Rattle.rules.specs.Fields.{starts_with}
use Rattle.declaring.proofs.Tables.{starts-told}
use Rattle.declaring.proofs.begins_sys.Goals as goal

pub returns : goal.returns
unfolding starts_with
returns c = c.starts_with.ensures.value ∙ starts-told (bytes "SYS") (take 3 c.args.name.now)
