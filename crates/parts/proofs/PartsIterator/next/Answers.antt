-- `next` gives the first part of what is left, and what is left then is what stands behind its comma. Assumes nothing.
use Rattle.std.proofs.Common.{length, arith, ap, ◌∙◌}
use Rattle.parts.specs.Parts.{parts_of_rest}
use Rattle.parts.proofs.Divided.{first-left}
use Rattle.parts.proofs.PartsIterator.next.Goals as goal

pub returns-clause-steps : goal.returns-clause-steps
returns-clause-steps c =
    ap parts_of_rest c.in_ok-rest.was ∙ first-left _ _ c.bare_at-end.ensures.value _ c.get-self.ensures.lookup

pub returns-clause-goes : goal.returns-clause-goes
returns-clause-goes c =
    let first = ap parts_of_rest c.in_ok-rest.was ∙ first-left _ _ c.bare_at-end.ensures.value _ c.get-self.ensures.lookup in
    record { on = λ _. (tt, tt, omega (arith, ap length first)); keeps = tt; rests = λ _. tt }
