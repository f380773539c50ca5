use Rattle.std.proofs.Common.{rules, tests, ◌≡◌, ◌∙◌, sym, refl, ℕ, Bool}
use Rattle.std.specs.Prelude.{Option, None}
use Rattle.std.proofs.lemmas.Iterator.{YieldsList-from_slice}
use Rattle.std.proofs.lemmas.Iterator.Search.{all_from_yields_List}
use lib.Dec.{ltb}
use mathlib.Core.Path.{ap}
use Rattle.rules.specs.Choice.{every}
use Rattle.rules.proofs.Listed.{every-listed}
use Rattle.rules.proofs.Choices.{either, chosen, passed_over}
use Rattle.deck_reading.specs.Reading.{run_at, below_found}
use Rattle.deck_reading.proofs.run_below.Goals as goal

pub returns-in_err-end : goal.returns-in_err-end
unfolding below_found
returns-in_err-end c =
    c.from_residual.ensures ∙ either (λ (n : Option ℕ). None ≡ n) (every (λ b. ltb b c.args.limit) (run_at c.args.s.now c.args.at)) (λ t. c.in_err-end.ensures) (λ f. refl)

pub returns-then-below : goal.returns-then-below
unfolding below_found
returns-then-below c =
    let run = c.run_at.result.now in
    let test : ℕ → Bool = λ b. ltb b c.args.limit in
    let e = all_from_yields_List test c.all-below.new.self _ c.all-below.result c.all-below.ensures.ran (YieldsList-from_slice run (cc)) (λ x b q k. search (rules, tests)) ∙ every-listed test run in
    c.in_ok-end.ensures ∙ sym (chosen _ _ (ap (every test) (sym c.run_at.ensures) ∙ (sym e ∙ c.if-below.true)))

pub returns-else-below : goal.returns-else-below
unfolding below_found
returns-else-below c =
    let run = c.run_at.result.now in
    let test : ℕ → Bool = λ b. ltb b c.args.limit in
    let e = all_from_yields_List test c.all-below.new.self _ c.all-below.result c.all-below.ensures.ran (YieldsList-from_slice run (cc)) (λ x b q k. search (rules, tests)) ∙ every-listed test run in
    sym (passed_over _ _ (ap (every test) (sym c.run_at.ensures) ∙ (sym e ∙ c.if-below.false)))
