use borrow.Author.Rules.{rules}
use Prim.Native.Nat.{◌<◌}
use lib.ListN.{length}
use mathlib.Core.Path.{◌∙◌}
use Rattle.deck_reading.proofs.Runs.{place-over, place-told}
use Rattle.deck_reading.proofs.reach.Goals as goal

pub returns-in_err-end : goal.returns-in_err-end
returns-in_err-end c =
    let l : length c.args.s.now < 18446744073709551616 = search rules in
    c.from_residual.ensures ∙ place-over c.args.s.now l c.in_err-end.ensures

pub returns : goal.returns
returns c = c.then_some.ensures ∙ place-told c.args.s.now c.in_ok-end.ensures.1
