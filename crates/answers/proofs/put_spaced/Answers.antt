-- `answers::put_spaced` meets its contract: a space, then the number. Assumes nothing.
use borrow.Author.Rules.{rules}
use mathlib.Core.Path.{◌∙◌}
use lib.ListN.{length-set}
use Rattle.answers.proofs.Writing.{as_long, space-written, space-counted}
use Rattle.answers.proofs.put_spaced.Goals as goal

pub put_decimal-requires : goal.put_decimal-requires
put_decimal-requires c = rw length-set (search rules)

pub shape_of-out : goal.shape_of-out
shape_of-out c = as_long _ _ _ c.put_decimal.ensures.out_after ∙ length-set c.args.out.now c.args.at 32

pub returns : goal.returns
returns c =
    let a = c.args in
    record { out_after = c.put_decimal.ensures.out_after ∙ space-written a.out.now a.at a.n; value = c.put_decimal.ensures.value ∙ space-counted a.at a.n }
