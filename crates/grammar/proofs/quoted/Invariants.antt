use Rattle.grammar.proofs.Texts.{Scanning, to_scan}
use Rattle.grammar.proofs.Quotes.{quotes-of}
use Rattle.grammar.proofs.quoted.Given as goal

abbrev pub invariant-loop-here : goal.invariant-loop-here
invariant-loop-here l = Scanning (quotes-of l.nest) l.kinds l.code l.at l.here

abbrev pub decreases-loop-here : goal.decreases-loop-here
decreases-loop-here l = to_scan (quotes-of l.nest) l.kinds l.code l.here
