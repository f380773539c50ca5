-- `declared::is_plain` meets its contract: what is left of the text is plain if the whole is. Assumes nothing.
use Prim.Native.Nat.{◌<◌}
use native.Mathlib.Omega.{arith}
use mathlib.Core.Path.{ap, sym, ◌∙◌}
use lib.ListN.{length, drop}
use borrow.Author.Tests.{eqb-true, eqb-false}
use Rattle.declared.proofs.Unmarked.{plain-by-text}
use Rattle.declared.proofs.Starts.{plain_from, part-all, plain-told, plain-stop, plain-further, plain_end}
use Rattle.declared.proofs.is_plain.Goals as goal

pub returns-then-rest-second : goal.returns-then-rest-second
returns-then-rest-second c =
    let t = c.loop-rest.rest.now in
    let some : 0 < length t = omega (arith, eqb-false _ _ (sym c.is_empty.ensures ∙ c.loop-rest-test.true)) in
    λ q. sym (plain-by-text q c.args.s.now ∙ (c.loop-rest.invariant ∙ plain-stop t some (plain-told t c.byte-second.ensures c.if-rest-second.true)))

pub loop-rest-preserved : goal.loop-rest-preserved
loop-rest-preserved c =
    let t = c.loop-rest.rest.now in
    let some : 0 < length t = omega (arith, eqb-false _ _ (sym c.is_empty.ensures ∙ c.loop-rest-test.true)) in
    c.loop-rest.invariant
    ∙ (plain-further t some (plain-told t c.byte-second.ensures c.if-rest-second.false)
    ∙ (ap (λ n. plain_from (drop n t)) (sym c.piece_length.ensures.value) ∙ ap plain_from (sym (part-all t c.piece_length.result))))

pub returns : goal.returns
returns c =
    λ q. sym (plain-by-text q c.args.s.now ∙ (c.loop-rest.invariant ∙ plain_end c.loop-rest.rest.now (eqb-true _ _ (sym c.is_empty.ensures ∙ c.loop-rest-test.false))))
