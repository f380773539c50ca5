use Rattle.std.proofs.Common.{◌≡◌, map}
use Rattle.text.specs.Bytes.{Bytes}
use Rattle.rules.specs.Machine.{keyword_value}
use Rattle.parts.specs.Parts.{parts_left, parts_from}
use Rattle.call_operands.specs.Calling.{keyword_in}
use Rattle.call_keywords.proofs.given_at.Given as goal

abbrev pub invariant-loop-part : goal.invariant-loop-part
invariant-loop-part l =
    (parts_left l.part-iterator ≡ parts_from l.operand l.at)
    × ((default : Bytes) → keyword_value l.name default (map keyword_in (parts_from l.operand l.from)) ≡ keyword_value l.name default (map keyword_in (parts_from l.operand l.at)))
