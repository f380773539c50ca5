-- `bodies::put_body` meets its contract: the count, and then the lines. Assumes nothing.
use native.Mathlib.Omega.{arith}
use mathlib.Core.Path.{ap, ◌∙◌}
use lib.ListN.{length}
use Rattle.deck.specs.Coding.{two}
use Rattle.lent.proofs.Writes.{splice-length}
use Rattle.bodies.proofs.Turns.{body-size, body-end, body-written}
use Rattle.bodies.proofs.put_body.Goals as goal

pub put_two-requires : goal.put_two-requires
put_two-requires c =
    let a = c.args in
    (omega (arith, c.requires.body_in_bounds, body-size a.names.own.now a.names.global.now a.names.shared.now a.body.now), omega (arith, c.requires.all_ready.lines-count, c.line_count-count.ensures))

pub put_lines-requires : goal.put_lines-requires
put_lines-requires c =
    let a = c.args in
    record { all_ready = c.requires.all_ready; body_in_bounds = omega (arith, c.requires.body_in_bounds, body-size a.names.own.now a.names.global.now a.names.shared.now a.body.now, ap length c.put_two.ensures ∙ splice-length _ _ _) }

pub returns : goal.returns
unfolding two
returns c =
    let a = c.args in
    let e = c.put_lines.ensures in
    record { value = body-end a.names.own.now a.names.global.now a.names.shared.now a.body.now a.at _ e.value; out_after = body-written a.names.own.now a.names.global.now a.names.shared.now a.body.now a.out.now _ _ a.at _ c.line_count-count.ensures c.put_two.ensures e.out_after }
