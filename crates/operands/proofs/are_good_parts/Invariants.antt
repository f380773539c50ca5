use Rattle.std.proofs.Common.{◌≡◌, true, false, map}
use Rattle.rules.specs.Lexemes.{lexed}
use Rattle.rules.specs.Calls.{divided}
use Rattle.rules.specs.Faults.{are_good_parts}
use Rattle.parts.specs.Parts.{parts_left}
use Rattle.operands.proofs.are_good_parts.Given as goal

abbrev pub invariant-loop-part : goal.invariant-loop-part
invariant-loop-part l =
    are_good_parts false (divided (lexed true l.operand)) ≡ are_good_parts l.keywords (map (lexed true) (parts_left l.part-iterator))
