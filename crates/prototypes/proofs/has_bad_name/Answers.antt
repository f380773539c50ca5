use mathlib.Core.Bool.{false}
use Rattle.prototypes.proofs.Parameters.{bad-told}
use Rattle.prototypes.proofs.has_bad_name.Goals as goal

pub returns : goal.returns
returns c =
    let b = c.args in
    λ ts f h g s n o a. bad-told b.name.now b.operation.now b.operand.now ts f n o a c.is_macro_name-good.ensures (c.is_used-used.ensures ts h g s) c.is_long_sequence-sequence.ensures (c.has_long-long.ensures false) c.has_long_parts-parts.ensures c.declares_wrongly-wrong.ensures
