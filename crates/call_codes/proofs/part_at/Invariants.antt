use Rattle.std.proofs.Common.{◌≡◌, ◌+◌, ◌≤◌, length, drop}
use Rattle.rules.specs.Calls.{divided}
use Rattle.call_codes.specs.Codes.{lexemes, parts_from}
use Rattle.call_codes.proofs.part_at.Given as goal

abbrev pub invariant-loop-part : goal.invariant-loop-part
invariant-loop-part l = (l.at ≤ length l.code + 1) × (parts_from l.code l.at ≡ drop l._part (divided (lexemes l.code)))
