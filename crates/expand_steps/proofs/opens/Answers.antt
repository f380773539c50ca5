-- `opens` meets its contract: the line is cut out, and used. Assumes nothing.
use Prim.Native.Nat.{◌≤◌}
use mathlib.Core.Path.{ap, ◌∙◌}
use native.Mathlib.Omega.{arith}
use lib.ListN.{length}
use Rattle.expand_steps.specs.Runs.{opened_at}
use Rattle.expand_steps.proofs.Opening.{past-is, steps-open, open-asks}
use Rattle.expand_steps.proofs.opens.Goals as goal

pub open_at-next-requires : goal.open_at-next-requires
open_at-next-requires c = (omega (arith, c.requires.0.few-lines), omega arith)

pub uses-requires : goal.uses-requires
uses-requires c = let a = open-asks c.args.program.now c.args.out.now c.args.run _ _ c.requires.0 c.requires.2 c.open_at-next.ensures in (a.0, c.requires.1, a.1, a.2, c.requires.0.sized)

pub returns : goal.returns
returns c =
    let within : c.line_end-end.result ≤ length c.args.program.now = omega arith in
    steps-open c.args.deck.now c.args.program.now c.args.out.now c.args.work.now c.args.run c.requires.0 c.requires.3 c.requires.4 _ c.line_end-end.ensures.value within _ _ _ _
    (c.open_at-next.ensures ∙ ap (λ a. opened_at a c.args.run) (c.past_newline.ensures ∙ past-is _ _)) c.uses.ensures
