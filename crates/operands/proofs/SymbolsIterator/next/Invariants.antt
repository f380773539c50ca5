use Rattle.std.proofs.Common.{◌≡◌, length}
use Rattle.parts.specs.Parts.{parts_left}
use Rattle.operands.specs.Symbols.{symbols_left}
use Rattle.operands.proofs.SymbolsIterator.next.Given as goal

abbrev pub invariant-loop-part : goal.invariant-loop-part
invariant-loop-part l = symbols_left l.initial.self ≡ symbols_left l.self

abbrev pub decreases-loop-part : goal.decreases-loop-part
decreases-loop-part l = length (parts_left l.self.parts)
