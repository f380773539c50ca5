-- `operands::are_good_parts` meets its contract: the parts still to come are good, with what stood before, if all are. Assumes nothing.
use Rattle.std.proofs.Common.{false, true, map, ap, sym, ◌∙◌}
use Rattle.rules.specs.Lexemes.{lexed}
use Rattle.rules.specs.Faults.{are_good_parts}
use Rattle.parts.specs.Parts.{parts_left}
use Rattle.parts.proofs.Divided.{divided-cut}
use Rattle.operands.proofs.Rest.{good-stop, order-stop, good-on}
use Rattle.operands.proofs.are_good_parts.Goals as goal

pub loop-part-init : goal.loop-part-init
loop-part-init c =
    ap (are_good_parts false) (divided-cut c.args.operand.now)
    ∙ ap (λ ps. are_good_parts false (map (lexed true) ps)) (sym (ap parts_left c.into_iter-part-iterator.ensures.into_iter_gives ∙ c.of-part-items.ensures))

pub returns-then-not-is_good_part : goal.returns-then-not-is_good_part
returns-then-not-is_good_part c =
    sym
    (c.loop-part.invariant
    ∙ (ap (λ ps. are_good_parts c.loop-part.keywords (map (lexed true) ps)) c.in-Some.ensures.steps ∙ good-stop _ _ c.loop-part.keywords c.is_good_part.ensures c.if-not-is_good_part.true))

pub returns-then-keywords-keyword : goal.returns-then-keywords-keyword
returns-then-keywords-keyword c =
    sym
    (c.loop-part.invariant
    ∙ (ap (λ ps. are_good_parts c.loop-part.keywords (map (lexed true) ps)) c.in-Some.ensures.steps
    ∙ order-stop _ _ c.loop-part.keywords c.is_good_part.ensures c.if-not-is_good_part.false c.has_equals-keyword.ensures c.if-keywords-keyword.true))

pub loop-part-preserved : goal.loop-part-preserved
loop-part-preserved c =
    c.loop-part.invariant
    ∙ (ap (λ ps. are_good_parts c.loop-part.keywords (map (lexed true) ps)) c.in-Some.ensures.steps
    ∙ good-on _ _ c.loop-part.keywords c.is_good_part.ensures c.if-not-is_good_part.false c.has_equals-keyword.ensures c.if-keywords-keyword.false)

pub returns : goal.returns
unfolding are_good_parts
returns c =
    sym (c.loop-part.invariant ∙ ap (λ ps. are_good_parts c.loop-part.keywords (map (lexed true) ps)) c.in-None.ensures.steps.0)
