use Rattle.std.proofs.Common.{◌≡◌, ◌+◌, ◌≤◌, length, drop}
use Rattle.parts.specs.Parts.{parts_from, parts_of}
use Rattle.call_operands.proofs.part_at.Given as goal

abbrev pub invariant-loop-part : goal.invariant-loop-part
invariant-loop-part l = (l.at ≤ length l.operand + 1) × (parts_from l.operand l.at ≡ drop l._part (parts_of l.operand))
