use Rattle.grammar.proofs.Chains.{Loop, to_read}
use Rattle.grammar.proofs.Quotes.{parts-of}
use Rattle.grammar.proofs.strings.Given as goal

abbrev pub invariant-loop-next : goal.invariant-loop-next
invariant-loop-next l = Loop (parts-of l.nest) l.kinds l.code l.at l.here

abbrev pub decreases-loop-next : goal.decreases-loop-next
decreases-loop-next l = to_read (parts-of l.nest) l.kinds l.code l.here
