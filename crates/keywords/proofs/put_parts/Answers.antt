-- `keywords::put_parts` meets its contract: what finishing from here writes is what is to be written. Assumes nothing.
use Rattle.std.proofs.Common.{true, map, refl, length, arith, ap, sym, ◌∙◌, ◌+◌}
use mathlib.Core.Path.{subst}
use Rattle.rules.specs.Lexemes.{lexed}
use Rattle.rules.specs.Library.{keyword_names}
use Rattle.lent.specs.Splice.{splice}
use Rattle.lent.proofs.Writes.{splice-length}
use Rattle.parts.specs.Parts.{parts_left}
use Rattle.keywords.specs.Keywords.{keywords_code}
use Rattle.keywords.proofs.Parameters.{Short, short-parts, keywords-parts}
use Rattle.keywords.proofs.Coded.{nothing_written, code-size, code-splice}
use Rattle.keywords.proofs.put_parts.Goals as goal

pub loop-part-init : goal.loop-part-init
loop-part-init c =
    let a = c.args in
    let start = ap parts_left c.into_iter-part-iterator.ensures.into_iter_gives ∙ c.of-part-items.ensures in
    let all = ap keywords_code (ap (λ ps. keyword_names (map (lexed true) ps)) start ∙ sym (keywords-parts a.operand.now)) in
    (refl, subst (Short (length a.operand.now)) (sym start) (short-parts a.operand.now), ap (λ t. a.at + length t) all, ap (splice a.out.now a.at) all)

pub put_keyword-to-requires : goal.put_keyword-to-requires
put_keyword-to-requires c =
    let first = c.in-Some.ensures.steps in
    let i = c.loop-part.invariant in
    let short = subst (Short (length c.args.operand.now)) first i.1 in
    let n = code-size c.in-Some.part.now first in
    (omega (arith, short.0, c.requires.0), omega (arith, n, i.0, i.2, c.requires.1))

pub loop-part-preserved : goal.loop-part-preserved
loop-part-preserved c =
    let first = c.in-Some.ensures.steps in
    let i = c.loop-part.invariant in
    let short = subst (Short (length c.args.operand.now)) first i.1 in
    let w = c.put_keyword-to.ensures in
    let n = code-size c.in-Some.part.now first in (
      ap length w.out_after ∙ (splice-length _ _ _ ∙ i.0),
      short.1,
      omega (arith, n, w.value, i.2),
      code-splice c.in-Some.part.now first c.loop-part.out c.loop-part.to w.value w.out_after ∙ i.3,
    )

pub returns : goal.returns
unfolding keyword_names
returns c =
    let none = nothing_written c.loop-part.out c.loop-part.to (ap (λ ps. keyword_names (map (lexed true) ps)) c.in-None.ensures.steps.0) in
    record { value = none.0 ∙ c.loop-part.invariant.2; out_after = none.1 ∙ c.loop-part.invariant.3 }
