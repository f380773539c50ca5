use mathlib.Core.Bool.{false}
use Rattle.prototypes.proofs.Parameters.{good-told}
use Rattle.prototypes.proofs.is_good.Goals as goal

pub returns : goal.returns
returns c =
    λ f n a. good-told c.args.name.now c.args.operand.now f n a (c.is_one_symbol-one.ensures false) c.are_good_parts-good.ensures
