use Prim.Native.Nat.{◌+◌}
use mathlib.Core.Path.{◌∙◌}
use native.Mathlib.Omega.{arith}
use Rattle.value_references.proofs.Standing.{part_small, run_is}
use Rattle.value_references.proofs.run_in.Goals as goal

pub returns : goal.returns
returns c = let small = part_small c.args.work.now (c.args.at + 1) c.from.result in let byte_small = c.byte.type_inv in let e = c.from.ensures in (c.part.ensures ∙ run_is _ _ _ (c.from.ensures ∙ c.byte.ensures), rw c.part.ensures (omega arith))
