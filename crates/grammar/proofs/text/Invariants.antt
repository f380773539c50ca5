use Rattle.grammar.proofs.Texts.{Scanning, to_scan, texts-of}
use Rattle.grammar.proofs.text.Given as goal

abbrev pub invariant-loop-here : goal.invariant-loop-here
invariant-loop-here l = Scanning (texts-of l.nest) l.kinds l.code l.at l.here

abbrev pub decreases-loop-here : goal.decreases-loop-here
decreases-loop-here l = to_scan (texts-of l.nest) l.kinds l.code l.here
