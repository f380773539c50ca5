-- `set_numbered` meets its contract: each number by its test. Assumes nothing.
use Rattle.std.proofs.Common.{rules, refl, ◌≡◌, ◌≤◌, arith}
use lib.Dec.{eqb}
use mathlib.Core.Bool.{false}
use borrow.Author.Tests.{ne_eqb}
use Rattle.rules.specs.Choice.{choose}
use Rattle.rules.proofs.Choices.{by}
use Rattle.deck.specs.Coders.{set_of}
use Rattle.deck_reading.specs.Reading.{set_at, or_first}
use Rattle.deck_reading.proofs.set_numbered.Goals as goal

pub returns-in-1 : goal.returns-in-1
unfolding set_at set_of or_first choose
returns-in-1 c = rw c.in-1.is refl

pub returns-in-2 : goal.returns-in-2
unfolding set_at set_of or_first choose
returns-in-2 c = rw c.in-2.is refl

pub returns-in_default : goal.returns-in_default
unfolding set_at set_of or_first choose
returns-in_default c =
    let n = c.args.number in
    let one : eqb n 1 ≡ false = ne_eqb n 1 (search rules) in
    let two : eqb n 2 ≡ false = ne_eqb n 2 (search rules) in
    by (eqb n 0) (λ e. rw e refl) (λ e. rw (e, one, two) refl)
