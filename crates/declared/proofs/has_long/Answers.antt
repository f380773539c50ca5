-- `declared::has_long` meets its contract: what is left of the text has a symbol that is too long if the whole has. Assumes nothing.
use Prim.Native.Nat.{◌<◌}
use native.Mathlib.Omega.{arith}
use mathlib.Core.Path.{ap, sym, ◌∙◌}
use lib.ListN.{length, drop}
use borrow.Author.Tests.{eqb-true, eqb-false, ltb-true, ltb-false}
use Rattle.declared.proofs.Unmarked.{long-by-text}
use Rattle.declared.proofs.Starts.{long_from, part-all, long-found, long-further, long-end}
use Rattle.declared.proofs.has_long.Goals as goal

pub returns-then-starts_long : goal.returns-then-starts_long
returns-then-starts_long c =
    let t = c.loop-rest.rest.now in
    let some : 0 < length t = omega (arith, eqb-false _ _ (sym c.is_empty.ensures ∙ c.loop-rest-test.true)) in
    λ q. sym (long-by-text q c.args.s.now ∙ (c.loop-rest.invariant ∙ long-found t some (ltb-true _ _ (sym c.starts_long.ensures ∙ c.if-starts_long.true))))

pub loop-rest-preserved : goal.loop-rest-preserved
loop-rest-preserved c =
    let t = c.loop-rest.rest.now in
    let some : 0 < length t = omega (arith, eqb-false _ _ (sym c.is_empty.ensures ∙ c.loop-rest-test.true)) in
    c.loop-rest.invariant
    ∙ (long-further t some (ltb-false _ _ (sym c.starts_long.ensures ∙ c.if-starts_long.false))
    ∙ (ap (λ n. long_from (drop n t)) (sym c.piece_length.ensures.value) ∙ ap long_from (sym (part-all t c.piece_length.result))))

pub returns : goal.returns
returns c =
    λ q. sym (long-by-text q c.args.s.now ∙ (c.loop-rest.invariant ∙ long-end c.loop-rest.rest.now (eqb-true _ _ (sym c.is_empty.ensures ∙ c.loop-rest-test.false))))
