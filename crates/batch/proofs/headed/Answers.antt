-- `batch::headed` meets its contract. Assumes nothing.
use native.Mathlib.Omega.{arith}
use mathlib.Core.Path.{sym, subst, ◌∙◌}
use Rattle.batch.proofs.Cases.{headed-laid, headed-no-rooms, headed-no-sizes, AheadBoth, pair-ahead}
use Rattle.batch.proofs.headed.Goals as goal

pub returns-in_default : goal.returns-in_default
returns-in_default c = sym (headed-no-sizes _ _ _ (sym c.pair_at.ensures ∙ c.in_default.is))

pub returns-in_default-pair_at : goal.returns-in_default-pair_at
returns-in_default-pair_at c = sym (headed-no-rooms _ _ _ (sym c.pair_at.ensures ∙ c.in-Some.is) (sym c.pair_at-2.ensures ∙ c.in_default-pair_at.is))

pub laid_out-requires : goal.laid_out-requires
laid_out-requires c =
    let input = c.args.input.now in
    let next = c.in-Some.sizes.next in
    (subst (AheadBoth input next) (sym c.pair_at-2.ensures ∙ c.in-Some-pair_at.is) (pair-ahead 10 input next (omega arith))).1

pub returns : goal.returns
returns c = c.laid_out.ensures ∙ sym (headed-laid _ _ _ (sym c.pair_at.ensures ∙ c.in-Some.is) (sym c.pair_at-2.ensures ∙ c.in-Some-pair_at.is))
